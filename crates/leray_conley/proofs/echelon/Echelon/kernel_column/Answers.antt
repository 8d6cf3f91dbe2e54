use Rattle.std.proofs.Common.{◌≡◌, ◌∙◌, ◌+◌, ◌<◌, ℕ, List, ap, arith, get_or, length, [], sym}
use Rattle.std.proofs.lemmas.List.{get_or_read, length-set}
use Rattle.field_mod.specs.Modular.{Same}
use Rattle.field_mod.proofs.Modular.{same_trans}
use Rattle.leray_conley.specs.Products.{identity}
use Rattle.leray_conley.specs.Echelons.{cell, kernel_matrix}
use Rattle.leray_conley.proofs.Totals.{exact}
use Rattle.leray_conley.proofs.Echelons.{identity_other, identity_same, replaced, subtracted_at}
use Rattle.leray_conley.proofs.Free.{kernel_more, none_more, one_more}
use Rattle.leray_conley.proofs.echelon.Echelon.kernel_column.Goals as goal

pub loop-k-preserved : goal.loop-k-preserved
loop-k-preserved g c =
    let p = g.row.P in
    let k = c.loop-k.k in
    let rows = c.args.self.now.rows.items in
    let pivots = c.args.self.now.pivots.items in
    let v = c.loop-k.vector.items in
    let n = c.args.n in
    let l = c.index-l.result.now in
    let inv = c.loop-k.invariant in
    let form = c.requires.form in
    let size = form.sizes in
    let lens = inv.len in
    let lk : k < length rows = (let o = c.args.self.now.rows.ok.0 in let e = c.len-k-end.ensures in let t = c.loop-k-test.true in omega arith) in
    let s : l ≡ get_or pivots k 0 = get_or_read pivots k _ (omega arith) c.index-l.ensures 0 in
    let col = form.echelon.columns k lk in
    let ll : l < length v = omega arith in
    let cc = c.args.c in
    let b = cell rows in
    let piv : ℕ → ℕ = λ i. get_or pivots i 0 in
    let x : c.index.result.now ≡ get_or v l 0 = get_or_read v l _ ll c.index.ensures 0 in
    let w : c.index-in-loop-k.result.now ≡ get_or rows k [] = get_or_read rows k _ lk c.index-in-loop-k.ensures [] in
    let y : c.entry.result ≡ b k cc = c.entry.ensures.value ∙ ap (λ (r : List ℕ). get_or r cc 0) w in
    let d = subtracted_at p c.index.result.now c.entry.result c.sub.result c.entry.ensures.below c.sub.ensures.value in
    record {
      len = length-set v l c.sub.result ∙ lens;
      below = λ j lj. replaced 0 v l j c.sub.result (λ z. z < p) ll (λ m. c.sub.ensures.below) (λ m. inv.below j lj);
      value = λ j lj. replaced 0 v l j c.sub.result (λ z. Same p z (kernel_matrix p (k + 1) b piv j cc)) ll
          (λ m. kernel_more p k b piv j cc (get_or v j 0) c.sub.result (inv.value j lj) (same_trans d (exact (one_more p (get_or v j 0) (identity j (piv k)) (b k cc) c.index.result.now c.entry.result (x ∙ ap (λ (i : ℕ). get_or v i 0) (sym m)) y (ap (λ (i : ℕ). identity i (piv k)) (m ∙ s) ∙ identity_same (piv k))))))
          (λ m. kernel_more p k b piv j cc (get_or v j 0) (get_or v j 0) (inv.value j lj) (exact (none_more p (get_or v j 0) (identity j (piv k)) (b k cc) (identity_other j (piv k) (λ e. m (sym e ∙ sym s))))));
    }
