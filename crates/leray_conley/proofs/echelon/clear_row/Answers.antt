use Rattle.std.proofs.Common.{◌≡◌, ◌∙◌, ◌+◌, ◌*◌, ◌<◌, ℕ, ap, arith, get_or, length, []}
use Rattle.std.proofs.lemmas.List.{get_or_read}
use Rattle.field_mod.specs.Modular.{Same}
use Rattle.field_mod.proofs.Modular.{same_trans}
use Rattle.leray_conley.specs.Echelons.{cell}
use Rattle.leray_conley.proofs.Echelons.{added_at, along_kept, cleared_at, cleared_more}
use Rattle.leray_conley.proofs.echelon.clear_row.Goals as goal

pub loop-k-preserved : goal.loop-k-preserved
loop-k-preserved g c =
    let p = g.row.P in
    let n = length c.args.row.now in
    let k = c.loop-k.k in
    let rows = c.args.echelon.now.rows.items in
    let pivots = c.args.echelon.now.pivots.items in
    let form = c.requires.form in
    let size = form.sizes in
    let len = c.loop-k.invariant.len in
    let lk : k < length rows = (let o = c.args.echelon.now.rows.ok.0 in let e = c.len-k-end.ensures in let t = c.loop-k-test.true in omega arith) in
    let q : ℕ → ℕ = λ j. get_or c.loop-k.row j 0 in
    let u : ℕ → ℕ = λ j. get_or c.add_scaled.new.self j 0 in
    let w : c.index-in-loop-k.result.now ≡ get_or rows k [] = get_or_read rows k _ lk c.index-in-loop-k.ensures [] in
    let s : c.index.result.now ≡ get_or pivots k 0 = get_or_read pivots k _ (omega arith) c.index.ensures 0 in
    let h : (j : ℕ) → j < n → Same p (u j) (q j + c.neg-by.result * cell rows k j) = λ j l. added_at p (q j) (get_or c.index-in-loop-k.result.now j 0) (cell rows k j) (u j) c.neg-by.result (c.add_scaled.ensures.value j (omega arith)) (ap (λ (r : _). get_or r j 0) w) in
    let z : Same p (c.neg-by.result + q (get_or pivots k 0)) 0 = cleared_at p c.entry.result (q (get_or pivots k 0)) c.neg-by.result c.entry.ensures.below c.neg-by.ensures.value (c.entry.ensures.value ∙ ap q s) in
    record {
      len = let e = c.add_scaled.ensures.len in omega arith;
      cleared = cleared_more p n (length rows) k c.neg-by.result (cell rows) (λ i. get_or pivots i 0) q u form.echelon lk h z c.loop-k.invariant.cleared;
      kernel = λ v d. same_trans (along_kept p n q u (cell rows k) v c.neg-by.result h (d k lk)) (c.loop-k.invariant.kernel v d);
    }
