use Rattle.std.proofs.Common.{◌≡◌, ◌∙◌, ◌+◌, ◌*◌, ◌<◌, ℕ, List, ap, arith, get_or, length, sym, subst}
use Rattle.std.proofs.lemmas.List.{length-append}
use Rattle.field_mod.specs.Modular.{Same}
use Rattle.leray_conley.specs.Echelons.{cell, kernel_matrix}
use Rattle.leray_conley.proofs.Filling.{appended_below, rows_more, rows_read}
use Rattle.leray_conley.proofs.leray.kernel_rows.Goals as goal

pub loop-t-preserved : goal.loop-t-preserved
loop-t-preserved g c =
    let p = g.row.P in
    let d = c.args.size in
    let rows = c.args.echelon.now.rows.items in
    let piv : ℕ → ℕ = λ k. get_or c.args.echelon.now.pivots.items k 0 in
    let free = c.args.free.now in
    let es = c.loop-t.entries.items in
    let ys = c.deref.result.now in
    let t = c.loop-t.t in
    let inv = c.loop-t.invariant in
    let count = inv.count in
    let v = c.in_ok-vector.ensures in
    let n : length ys ≡ d = ap length c.deref.ensures.value ∙ v.len in
    let e = c.in_ok-extend_from_slice.ensures.items in
    let f = ap length e ∙ length-append es ys in
    let Q : ℕ → ℕ → ℕ → Type 0 = λ q i x. Same p x (kernel_matrix p (length rows) (cell rows) piv i (get_or free q 0)) in
    record {
      count = omega arith;
      below = subst (λ (xs : List ℕ). (q : ℕ) → q < length xs → get_or xs q 0 < p) (sym e)
          (appended_below p es ys inv.below (λ q l. subst (λ (xs : List ℕ). get_or xs q 0 < p) (sym c.deref.ensures.value) (v.below q (omega arith))));
      value = subst (λ (xs : List ℕ). (q i : ℕ) → q < t + 1 → i < d → Q q i (get_or xs (q * d + i) 0)) (sym e)
          (rows_more d t Q es ys inv.value count (λ i l. subst (λ (xs : List ℕ). Q t i (get_or xs i 0)) (sym c.deref.ensures.value) (v.value i l)));
    }

pub returns-clause-value : goal.returns-clause-value
returns-clause-value g c =
    let p = g.row.P in
    let rows = c.args.echelon.now.rows.items in
    let piv : ℕ → ℕ = λ k. get_or c.args.echelon.now.pivots.items k 0 in
    let free = c.args.free.now in
    let t = c.loop-t-test.false in
    let e : c.loop-t.t ≡ length free = omega arith in
    rows_read c.args.size c.loop-t.t (length free) (λ q i x. Same p x (kernel_matrix p (length rows) (cell rows) piv i (get_or free q 0))) c.loop-t.entries.items c.new.result c.loop-t.invariant.value e c.new.ensures.columns c.new.ensures.entries
