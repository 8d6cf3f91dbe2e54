use Rattle.std.proofs.Common.{◌≡◌, ◌∙◌, ◌<◌, ℕ, arith, get_or, length, sym, subst, lit<, eqb-true, ⊎_elim}
use Rattle.std.proofs.lemmas.List.{get_or_read}
use Rattle.field_mod.proofs.Table.{is_field}
use Rattle.leray_conley.specs.Echelons.{HasEchelon, cell}
use Rattle.leray_conley.specs.Tables.{entry}
use Rattle.leray_conley.proofs.Reduced.{among, free_killed, none_killed}
use Rattle.leray_conley.proofs.Reductions.{narrowed}
use Rattle.leray_conley.proofs.Totals.{positive_from_test}
use Rattle.leray_conley.proofs.matrix.Matrix.kernel_vector.Goals as goal

pub returns-then-is_empty : goal.returns-then-is_empty
returns-then-is_empty g c =
    let a = c.args.self.now in
    let p = g.row.P in
    let rows = c.in_ok-echelon.echelon.rows.items in
    let pivots = c.in_ok-echelon.echelon.pivots.items in
    let free = c.in_ok-free.free.items in
    let h = narrowed p a.columns a.rows (entry a) rows pivots c.in_ok-echelon.ensures in
    let size = h.form.sizes in
    let f = c.in_ok-free.ensures in
    let o = c.in_ok-free.free.ok.0 in
    let z = eqb-true c.in_ok-free.free.len 0 (sym c.is_empty.ensures ∙ c.if-is_empty.true) in
    let v = c.columns-columns.ensures.value in
    none_killed p a.columns (length rows) (is_field p c.args.f.listed) (cell rows) (λ k. get_or pivots k 0) h.form.echelon a.rows (entry a) h.forth h.back
    (λ (j : ℕ) l. ⊎_elim (λ w. w) (λ n. let w = f.every j (omega arith) (λ k q. n k (omega arith)) in let q = w.1 in absurd (omega arith)) (among (length rows) (λ k. get_or pivots k 0) j))

pub kernel_column-requires : goal.kernel_column-requires
kernel_column-requires g c =
    let a = c.args.self.now in
    let p = g.row.P in
    let rows = c.in_ok-echelon.echelon.rows.items in
    let pivots = c.in_ok-echelon.echelon.pivots.items in
    let h = narrowed p a.columns a.rows (entry a) rows pivots c.in_ok-echelon.ensures in
    let f = c.in_ok-free.ensures in
    let o = c.in_ok-free.free.ok.0 in
    let z = positive_from_test c.in_ok-free.free.len (sym c.is_empty.ensures ∙ c.if-is_empty.false) in
    let l : 0 < length c.in_ok-free.free.items = omega arith in
    let s : c.index.result.now ≡ get_or c.in_ok-free.free.items 0 0 = get_or_read c.in_ok-free.free.items 0 _ l c.index.ensures 0 in
    let w = f.within 0 l in
    (lit< tt, (lit< tt, (subst (λ (n : ℕ). HasEchelon p n rows pivots) (sym c.columns-columns.ensures.value) h.form, (omega arith))))

pub returns : goal.returns
returns g c =
    let a = c.args.self.now in
    let p = g.row.P in
    let rows = c.in_ok-echelon.echelon.rows.items in
    let pivots = c.in_ok-echelon.echelon.pivots.items in
    let piv : ℕ → ℕ = λ k. get_or pivots k 0 in
    let h = narrowed p a.columns a.rows (entry a) rows pivots c.in_ok-echelon.ensures in
    let size = h.form.sizes in
    let f = c.in_ok-free.ensures in
    let o = c.in_ok-free.free.ok.0 in
    let z = positive_from_test c.in_ok-free.free.len (sym c.is_empty.ensures ∙ c.if-is_empty.false) in
    let l : 0 < length c.in_ok-free.free.items = omega arith in
    let s : c.index.result.now ≡ get_or c.in_ok-free.free.items 0 0 = get_or_read c.in_ok-free.free.items 0 _ l c.index.ensures 0 in
    let w = f.within 0 l in
    let n = c.columns-columns.ensures.value in
    let e = c.in_ok-kernel_column.ensures in
    record {
      len = e.len ∙ n;
      below = λ j lj. e.below j (omega arith);
      killed = free_killed p a.columns (length rows) (is_field p c.args.f.listed) (cell rows) piv h.form.echelon a.rows (entry a) h.forth h.back c.index.result.now (omega arith)
          (λ k lk q. f.apart 0 k l (omega arith) (q ∙ s)) (λ j. get_or c.in_ok-kernel_column.field-0.items j 0) (λ j lj. e.value j (omega arith));
    }
