use Rattle.std.proofs.Common.{◌≡◌, ◌∙◌, ◌+◌, ◌*◌, ◌<◌, ℕ, List, ap, arith, get_or, length, [], refl, sym}
use Rattle.std.proofs.lemmas.List.{get_or_read, length-set}
use Rattle.leray_conley.specs.Echelons.{cell}
use Rattle.field_mod.specs.Modular.{Same, minus}
use Rattle.field_mod.proofs.Modular.{same_refl, same_trans, same-add, same-mul}
use Rattle.leray_conley.proofs.Totals.{exact}
use Rattle.leray_conley.proofs.Echelons.{added_at, by_minus, replaced}
use Rattle.leray_conley.proofs.echelon.clear_column.Goals as goal

pub loop-k-preserved : goal.loop-k-preserved
loop-k-preserved g c =
    let p = g.row.P in
    let k = c.loop-k.k in
    let rows = c.loop-k.rows.items in
    let old = c.args.rows.now.items in
    let row = c.args.row.now in
    let new = c.add_scaled.new.self in
    let inv = c.loop-k.invariant in
    let lens = inv.len in
    let lk : k < length rows = (let o = c.args.rows.now.ok.0 in let e = c.len-k-end.ensures in let t = c.loop-k-test.true in omega arith) in
    let w : c.index_mut-other.result.now ≡ get_or rows k [] = get_or_read rows k _ lk c.index_mut-other.ensures.value [] in
    let s : c.index_mut-other.result.now ≡ get_or old k [] = w ∙ inv.left k (omega arith) in
    let wide : length c.index_mut-other.result.now ≡ length row = ap length s ∙ c.requires.widths k (omega arith) in
    record {
      len = length-set rows k new ∙ lens;
      widths = λ i l. replaced [] rows k i new (λ r. length r ≡ length row) lk (λ m. c.add_scaled.ensures.len ∙ wide) (λ n. inv.widths i l);
      done = λ i j l lj. replaced [] rows k i new (λ r. Same p (get_or r j 0) (cell old i j + minus p (cell old i c.args.c) * get_or row j 0)) lk
          (λ m.
          let o = get_or c.index_mut-other.result.now in
          let a = added_at p (o j 0) (get_or row j 0) (get_or row j 0) (get_or new j 0) c.neg-by.result (c.add_scaled.ensures.value j (omega arith)) refl in
          let b = by_minus p c.entry.result (o c.args.c 0) c.neg-by.result c.entry.ensures.below c.neg-by.ensures.value c.entry.ensures.value in
          same_trans a (same_trans (same-add (same_refl p (o j 0)) (same-mul b (same_refl p (get_or row j 0)))) (exact (ap (λ (r : List ℕ). get_or r j 0 + minus p (get_or r c.args.c 0) * get_or row j 0) (s ∙ sym (ap (λ (z : ℕ). get_or old z []) m))))))
          (λ n. inv.done i j (omega arith) lj);
      left = λ i l. replaced [] rows k i new (λ r. r ≡ get_or old i []) lk (λ m. absurd (omega arith)) (λ n. inv.left i (omega arith));
    }
