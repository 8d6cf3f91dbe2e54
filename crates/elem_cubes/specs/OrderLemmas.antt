-- What the impls of `PartialEq`, `Eq`, `PartialOrd`, `Ord` and `Hash` of a cell owe.
use Rattle.std.proofs.Common.{◌≡◌, refl, sym, ap, ◌∙◌, arith, List, [], ◌∷◌, true, false, ◌⊎◌, inl, inr, ⊎_elim, ◌&&◌, true≢false}
use Rattle.std.specs.Prelude.{ℤ, pos, ◌+ℤ◌, IsTrue}
use Rattle.std.specs.Bool.{Decides}
use Rattle.std.specs.Cmp.{IsPartialEquivalence, IsEquivalence, IsTotalOrder, IsPartialOrder, both_ways, partial_equiv_from_equiv, partial_order_from_agreeing_total, Equal-is, tied_itself}
use Rattle.std.specs.Cmp.Lexicographic.{slice_cmp, lists_ties}
use Rattle.std.specs.declared.cmp.Ordering.{Ordering}
use Rattle.std.specs.declared.cmp.Ordering.TheVariants.{Less, Equal, Greater}
use Rattle.std.specs.Ordering.{int_eq, int_cmp, eq_by_cmp, as_partial_cmp, ordering_then, is_eq}
use Rattle.std.proofs.lemmas.Cmp.{lists_total, int_cmp_total, then_total, on_total}
use Rattle.std.proofs.lemmas.Bool.Decides.{Decides-int_eq}
use Rattle.std.proofs.lemmas.Int.{ints}
use Rattle.std.proofs.lemmas.Slice.Eq.{slice_eq-Decides}
use Rattle.elem_cubes.specs.Cells.{Factor, point, interval, same_factor, same_cell, lower_of, upper_of}
use Rattle.elem_cubes.specs.Order.{cell_cmp}
use Rattle.elem_cubes.specs.Packed.{cell_writes}

-- ---- the same cell

pub int_same : (l m : ℤ) → (l ≡ m) ⊎ (int_eq l m ≡ false)
int_same l m =
    elim (int_eq l m) as (λ v. int_eq l m ≡ v → (l ≡ m) ⊎ (int_eq l m ≡ false))
    [ true ↦ λ e. inl ((Decides-int_eq l m).0 e) | false ↦ λ e. inr e ] refl

pub int_refl : (l : ℤ) → int_eq l l ≡ true
int_refl l = (Decides-int_eq l l).1 refl

pub factor_refl : (q : Factor) → same_factor q q ≡ true
factor_refl (point l) = int_refl l
factor_refl (interval l) = int_refl l

pub factor_cases : (q r : Factor) → (q ≡ r) ⊎ (same_factor q r ≡ false)
factor_cases (point l) (point m) = ⊎_elim (λ e. inl (ap point e)) (λ f. inr f) (int_same l m)
factor_cases (point l) (interval m) = inr refl
factor_cases (interval l) (point m) = inr refl
factor_cases (interval l) (interval m) =
    ⊎_elim (λ e. inl (ap interval e)) (λ f. inr f) (int_same l m)

pub cell_refl : (q : List Factor) → same_cell q q ≡ true
cell_refl [] = refl
cell_refl (q ∷ qs) = ap (λ v. v && same_cell qs qs) (factor_refl q) ∙ cell_refl qs

pub cell_cases : (q r : List Factor) → (q ≡ r) ⊎ (same_cell q r ≡ false)
cell_cases [] [] = inl refl
cell_cases [] (r ∷ rs) = inr refl
cell_cases (q ∷ qs) [] = inr refl
cell_cases (q ∷ qs) (r ∷ rs) = ⊎_elim
    (λ e. ⊎_elim (λ f. inl (cc))
    (λ f. inr (ap (λ v. v && same_cell qs rs)
    (ap (λ x. same_factor x r) e ∙ factor_refl r) ∙ f)) (cell_cases qs rs))
    (λ f. inr (rw f))
    (factor_cases q r)

pub same_cell-Decides : (q r : List Factor) → Decides (same_cell q r) (q ≡ r)
same_cell-Decides q r = (
  λ e. ⊎_elim (λ s. s) (λ f. absurd (true≢false (sym e ∙ f))) (cell_cases q r),
  λ s. ap
      (λ t. same_cell t r) s ∙ cell_refl r,
)

pub same_cell_equivalence : IsEquivalence same_cell
same_cell_equivalence = record {
  refl = cell_refl;
  symm = λ q r. both_ways (same_cell q r) (same_cell r q)
      (λ e. (same_cell-Decides r q).1 (sym ((same_cell-Decides q r).0 e)))
      (λ e. (same_cell-Decides q r).1 (sym ((same_cell-Decides r q).0 e)));
  congr = λ q r s e. ap (λ t. same_cell t s) ((same_cell-Decides q r).0 e);
}

pub same_cell_partial : IsPartialEquivalence same_cell
same_cell_partial = partial_equiv_from_equiv same_cell_equivalence

-- ---- the order

pub cell_cmp_total : IsTotalOrder cell_cmp
cell_cmp_total =
    then_total (on_total lower_of (lists_total int_cmp_total))
    (on_total upper_of (lists_total int_cmp_total))

-- a cell is its lower and its upper corner
pub same_corners : (q r : List Factor) → lower_of q ≡ lower_of r → upper_of q ≡ upper_of r → q ≡ r
same_corners [] [] e f = refl
same_corners [] (r ∷ rs) e f = cc
same_corners (q ∷ qs) [] e f = cc
same_corners (point l ∷ qs) (point m ∷ rs) e f =
    let h : l ≡ m = cc in let k = same_corners qs rs (cc) (cc) in cc
same_corners (interval l ∷ qs) (interval m ∷ rs) e f =
    let h : l ≡ m = cc in let k = same_corners qs rs (cc) (cc) in cc
same_corners (point l ∷ qs) (interval m ∷ rs) e f =
    let h : l ≡ m = cc in let k : l ≡ m +ℤ pos 1 = cc in absurd (omega (arith, ints))
same_corners (interval l ∷ qs) (point m ∷ rs) e f =
    let h : l ≡ m = cc in let k : l +ℤ pos 1 ≡ m = cc in absurd (omega (arith, ints))

pub tied_lists : (xs ys : List ℤ) → slice_cmp int_cmp xs ys ≡ Equal → xs ≡ ys
tied_lists xs ys e =
    (slice_eq-Decides Decides-int_eq xs ys (eq_by_cmp (slice_cmp int_cmp) xs ys)
    (sym (lists_ties int_cmp (λ x y. refl) xs ys))).0 (ap is_eq e)

first_tied : (o r : Ordering) → ordering_then o r ≡ Equal → (o ≡ Equal) × (r ≡ Equal)
first_tied Less r e = absurd (true≢false (sym (ap is_eq e)))
first_tied Equal r e = (refl, e)
first_tied Greater r e = absurd (true≢false (sym (ap is_eq e)))

pub tied_cells : (q r : List Factor) → cell_cmp q r ≡ Equal → q ≡ r
tied_cells q r e =
    let t = first_tied (slice_cmp int_cmp (lower_of q) (lower_of r))
    (slice_cmp int_cmp (upper_of q) (upper_of r)) e in
    same_corners q r (tied_lists (lower_of q) (lower_of r) t.0)
    (tied_lists (upper_of q) (upper_of r) t.1)

pub cell_cmp_itself : (q : List Factor) → cell_cmp q q ≡ Equal
cell_cmp_itself = tied_itself cell_cmp_total

pub cell_cmp_ties : (q r : List Factor) → same_cell q r ≡ eq_by_cmp cell_cmp q r
cell_cmp_ties q r = both_ways (same_cell q r) (eq_by_cmp cell_cmp q r)
    (λ e. ap (λ t. is_eq (cell_cmp t r)) ((same_cell-Decides q r).0 e) ∙ ap is_eq
    (cell_cmp_itself r))
    (λ e. (same_cell-Decides q r).1 (tied_cells q r ((Equal-is (cell_cmp q r)).0 e)))

pub cell_cmp_partial : IsPartialOrder same_cell (as_partial_cmp cell_cmp)
cell_cmp_partial =
    partial_order_from_agreeing_total cell_cmp cell_cmp_total (λ q r. refl) cell_cmp_ties

pub cell_hash_alike : (q r : List Factor) → IsTrue (same_cell q r) → cell_writes q ≡ cell_writes r
cell_hash_alike q r h = ap cell_writes ((same_cell-Decides q r).0 h)
