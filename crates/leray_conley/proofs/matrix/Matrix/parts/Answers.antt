use Rattle.std.proofs.Common.{◌≡◌, ◌∙◌, ◌<◌, ◌≤◌, ℕ, List, ap, arith, get_or, length, sym, subst, lit<, refl}
use Rattle.std.proofs.lemmas.Nat.{mul-le}
use Rattle.field_mod.proofs.Table.{is_field}
use Rattle.field_mod.proofs.Modular.{same_trans}
use Rattle.leray_conley.specs.Echelons.{AreFree, HasEchelon, cell, kernel_matrix}
use Rattle.leray_conley.specs.Splitting.{IsSplit}
use Rattle.leray_conley.specs.Tables.{entry}
use Rattle.leray_conley.proofs.Reduced.{rows_fit}
use Rattle.leray_conley.proofs.RightBlocks.{square_bound}
use Rattle.leray_conley.proofs.Splitters.{counts, parts_split, reduction_at}
use Rattle.leray_conley.proofs.Totals.{exact}
use Rattle.leray_conley.proofs.matrix.Matrix.parts.Goals as goal

pub columns_at-requires : goal.columns_at-requires
columns_at-requires g c =
    let p = g.row.P in
    let a = c.args.self.now in
    let e = c.in_ok-echelon.echelon in
    let m = c.raise.new.current in
    let q = c.in_ok-raise.ensures in
    let h = reduction_at p a.rows (entry a) m e.rows.items e.pivots.items q c.in_ok-echelon.ensures in
    let size = h.form.sizes in
    let n = q.has_columns in
    let f = rows_fit p a.rows (length e.rows.items) (is_field p c.args.f.listed) (cell e.rows.items) (λ (k : ℕ). get_or e.pivots.items k 0) h.form.echelon in
    let l = ap length c.deref.ensures.value in (
      lit< tt,
      (
        subst (λ (xs : List ℕ). (k : ℕ) → k < length xs → get_or xs k 0 < m.columns) (sym c.deref.ensures.value) (λ k x. let y = h.form.echelon.columns k (omega arith) in omega arith),
        (omega arith),
      ),
    )

pub kernel_rows-requires : goal.kernel_rows-requires
kernel_rows-requires g c =
    let p = g.row.P in
    let a = c.args.self.now in
    let s = c.rows-size.result in
    let e = c.in_ok-echelon.echelon in
    let m = c.raise.new.current in
    let q = c.in_ok-raise.ensures in
    let v = c.rows-size.ensures.value in
    let h = reduction_at p a.rows (entry a) m e.rows.items e.pivots.items q c.in_ok-echelon.ensures in
    let free = c.in_ok-free.free.items in
    let fr : AreFree a.rows e.pivots.items free = subst (λ (n : ℕ). AreFree n e.pivots.items free) v c.in_ok-free.ensures in
    let n = counts p a.rows (is_field p c.args.f.listed) (entry a) m e.rows.items e.pivots.items free q h fr in
    let l = ap length c.deref-2.ensures.value in
    let few : length c.deref-2.result.now ≤ s = omega arith in
    let b = square_bound a.rows a.columns s 16777216 c.requires.square v c.rows-size.ensures.table.bound in
    let w = mul-le (length c.deref-2.result.now) s s s few (omega arith) in (
      lit< tt,
      (
        lit< tt,
        (
          lit< tt,
          (
            subst (λ (n : ℕ). HasEchelon p n e.rows.items e.pivots.items) (sym v) h.form,
            (
              subst (λ (xs : List ℕ). (t : ℕ) → t < length xs → get_or xs t 0 < s) (sym c.deref-2.ensures.value) c.in_ok-free.ensures.within,
              (few, (omega arith)),
            ),
          ),
        ),
      ),
    )

pub returns : goal.returns
returns g c =
    let p = g.row.P in
    let a = c.args.self.now in
    let s = c.rows-size.result in
    let e = c.in_ok-echelon.echelon in
    let rows = e.rows.items in
    let pivots = e.pivots.items in
    let m = c.raise.new.current in
    let q = c.in_ok-raise.ensures in
    let v = c.rows-size.ensures.value in
    let h = reduction_at p a.rows (entry a) m rows pivots q c.in_ok-echelon.ensures in
    let size = h.form.sizes in
    let free = c.in_ok-free.free.items in
    let fr : AreFree a.rows pivots free = subst (λ (n : ℕ). AreFree n pivots free) v c.in_ok-free.ensures in
    let im = c.in_ok-image.ensures in
    let ke = c.in_ok-kernel.ensures in
    let kr = c.in_ok-rows.ensures in
    let l = ap length c.deref.ensures.value in
    let l2 = ap length c.deref-2.ensures.value in
    let er = q.has_rows in
    let kr1 = kr.rows in
    let kr2 = kr.columns in
    let r : length rows ≡ c.in_ok-image.image.columns = (let i = im.has_columns in omega arith) in
    let n : length free ≡ c.in_ok-kernel.kernel.columns = (let i = ke.has_columns in omega arith) in
    record {
      bound = square_bound a.rows a.columns a.rows 16777216 c.requires.square refl c.rows-size.ensures.table.bound;
      image_rows = im.has_rows ∙ er;
      kernel_rows = ke.has_rows ∙ kr2 ∙ v;
      split = subst (λ (x : ℕ). IsSplit p a.rows x c.in_ok-kernel.kernel.columns (entry a) (entry c.in_ok-image.image) (entry c.in_ok-kernel.kernel)) r
          (subst (λ (x : ℕ). IsSplit p a.rows (length rows) x (entry a) (entry c.in_ok-image.image) (entry c.in_ok-kernel.kernel)) n
          (parts_split p a.rows (is_field p c.args.f.listed) (entry a) m rows pivots free q h fr (entry c.in_ok-image.image) (entry c.in_ok-kernel.kernel)
          (λ i k x y. im.at i k (omega arith) (omega arith) ∙ ap (λ (xs : List ℕ). entry m i (get_or xs k 0)) c.deref.ensures.value)
          (λ i t x y. same_trans (exact (ke.at i t (omega arith) (omega arith))) (same_trans (kr.value t i (omega arith) (omega arith))
          (exact (ap (λ (xs : List ℕ). kernel_matrix p (length rows) (cell rows) (λ k. get_or pivots k 0) i (get_or xs t 0)) c.deref-2.ensures.value))))));
    }
