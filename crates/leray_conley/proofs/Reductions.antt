-- The rows of a matrix, taken in one after the other
use Rattle.std.proofs.Common.{◌≡◌, ℕ, ◌+◌, ◌*◌, List, length, get_or, sym, ap, ◌∙◌, arith, ⊎_elim, subst, refl, lt-ltb}
use Rattle.field_mod.specs.Sums.{total}
use Rattle.field_mod.proofs.Sums.{total-same}
use Rattle.field_mod.proofs.Modular.{same_trans}
use Rattle.leray_conley.specs.Products.{identity}
use Rattle.leray_conley.specs.Splitting.{beside}
use Rattle.leray_conley.specs.Rows.{IsRowOf}
use Rattle.leray_conley.specs.Echelons.{along, cell, HasEchelon, IsExtended, IsReduction}
use Rattle.leray_conley.proofs.Totals.{exact}
use Rattle.leray_conley.proofs.Echelons.{below_cases}

module _ (p n m : ℕ) (a : ℕ → ℕ → ℕ) (rows rows2 : List (List ℕ)) (pivots pivots2 row : List ℕ) (h : IsReduction p n m a rows pivots) (r : IsRowOf n (a m) row) (form : HasEchelon p n rows2 pivots2)
    (e : IsExtended p n (length rows) (length rows2) (cell rows) (λ j. get_or row j 0) (cell rows2)) where
  along_row : (v : ℕ → ℕ) → total n (λ j. a m j * v j) ≡ along n (λ j. get_or row j 0) v
  along_row v = total-same n (λ j. a m j * v j) (λ j. get_or row j 0 * v j) (λ j l. ap (λ (x : ℕ). x * v j) (sym (r.at j l)))

  extended : IsReduction p n (m + 1) a rows2 pivots2
  extended = record {
    form = form;
    forth = λ v z. e.forth v (h.forth v (λ i l. z i (omega arith))) (same_trans (exact (sym (along_row v))) (z m (omega arith)));
    back = λ v z i l. ⊎_elim
        (λ k. h.back v (e.back v z) i k)
        (λ k. same_trans (exact (ap (λ (x : ℕ). total n (λ j. a x j * v j)) k ∙ along_row v)) (e.last v z))
        (below_cases i m l);
  }

pub reduced_more : (p n m : ℕ) (a : ℕ → ℕ → ℕ) (rows rows2 : List (List ℕ)) (pivots pivots2 row : List ℕ) → IsReduction p n m a rows pivots → IsRowOf n (a m) row
    → HasEchelon p (length row) rows2 pivots2 → IsExtended p (length row) (length rows) (length rows2) (cell rows) (λ j. get_or row j 0) (cell rows2) → IsReduction p n (m + 1) a rows2 pivots2
reduced_more p n m a rows rows2 pivots pivots2 row h r f e = extended p n m a rows rows2 pivots pivots2 row h r
    (subst (λ (w : ℕ). HasEchelon p w rows2 pivots2) r.len f)
    (subst (λ (w : ℕ). IsExtended p w (length rows) (length rows2) (cell rows) (λ j. get_or row j 0) (cell rows2)) r.len e)

-- a reduction with no further columns
pub narrowed : (p n m : ℕ) (a : ℕ → ℕ → ℕ) (rows : List (List ℕ)) (pivots : List ℕ) → IsReduction p (n + 0) m (beside n a identity) rows pivots → IsReduction p n m a rows pivots
narrowed p n m a rows pivots h =
    let e : n + 0 ≡ n = omega arith in
    let k = subst (λ (w : ℕ). IsReduction p w m (beside n a identity) rows pivots) e h in
    record { form = k.form; forth = λ v z. k.forth v (λ i l. same_trans (exact (same_rows v i)) (z i l)); back = λ v z i l. same_trans (exact (sym (same_rows v i))) (k.back v z i l) }
  where
    same_rows : (v : ℕ → ℕ) (i : ℕ) → total n (λ j. beside n a identity i j * v j) ≡ total n (λ j. a i j * v j)
    same_rows v i = total-same n (λ j. beside n a identity i j * v j) (λ j. a i j * v j) (λ j x. rw (lt-ltb j n x) refl)
