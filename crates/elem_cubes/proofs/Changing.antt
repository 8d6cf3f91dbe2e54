-- Cells that are changed alike along an axis keep their order.
use Rattle.std.proofs.Common.{◌≡◌, ℕ, zero, suc, refl, sym, ap, ◌∙◌, arith, List, [], ◌∷◌, set, true, true≢false}
use Rattle.std.specs.Prelude.{ℤ, pos, ◌+ℤ◌, ◌<ℤ◌}
use Rattle.std.specs.Cmp.{int_cmp_is}
use Rattle.std.specs.declared.cmp.Ordering.TheVariants.{Less, Equal, Greater}
use Rattle.std.specs.Ordering.{int_cmp, ordering_then}
use Rattle.std.proofs.lemmas.Cmp.{int_ranked, by_ranked}
use Rattle.std.proofs.lemmas.Int.{ints}
use Rattle.elem_cubes.specs.Corners.{corner_cmp}
use Rattle.elem_cubes.specs.Cells.{Factor, point, interval, low, high, is_wide, lower_of, upper_of}
use Rattle.elem_cubes.specs.Order.{cell_cmp}
use Rattle.elem_cubes.specs.Walks.{factor_at}
use Rattle.elem_cubes.specs.Laws.{ChangesKeepOrder}

-- two numbers that are moved alike compare as before
shift_cmp : (l m z : ℤ) → int_cmp (l +ℤ z) (m +ℤ z) ≡ int_cmp l m
shift_cmp l m z = by_ranked (l <ℤ m) (l ≡ m) (m <ℤ l) (int_cmp l m) (int_ranked l m (int_cmp l m) refl)
    (λ e p. sym (int_cmp_is (l +ℤ z) (m +ℤ z) Less (omega (arith, ints))) ∙ sym e)
    (λ e p. sym (int_cmp_is (l +ℤ z) (m +ℤ z) Equal (ap (λ x. x +ℤ z) p)) ∙ sym e)
    (λ e p. sym (int_cmp_is (l +ℤ z) (m +ℤ z) Greater (omega (arith, ints))) ∙ sym e)

-- the ends are moved alike by a change
moves_cmp : (end : Factor → ℤ) (change : ℤ → Factor) (a : ℤ) → ((l : ℤ) → end (change l) ≡ l +ℤ a) → (l m : ℤ) → int_cmp (end (change l)) (end (change m)) ≡ int_cmp l m
moves_cmp end change a h l m = (λ i. int_cmp (h l i) (h m i)) ∙ shift_cmp l m a

module _ (change : ℤ → Factor) (a b : ℤ) (lows : (l : ℤ) → low (change l) ≡ l +ℤ a) (highs : (l : ℤ) → high (change l) ≡ l +ℤ b) where
  lower_kept : (q r : List Factor) (axis : ℕ) → is_wide (factor_at q axis) ≡ true → is_wide (factor_at r axis) ≡ true
      → corner_cmp (lower_of (set q axis (change (low (factor_at q axis))))) (lower_of (set r axis (change (low (factor_at r axis))))) ≡ corner_cmp (lower_of q) (lower_of r)
  lower_kept [] r axis w v = absurd (true≢false (sym w))
  lower_kept (f ∷ fs) [] axis w v = absurd (true≢false (sym v))
  lower_kept (f ∷ fs) (g ∷ gs) zero w v = ap (λ o. ordering_then o (corner_cmp (lower_of fs) (lower_of gs))) (moves_cmp low change a lows (low f) (low g))
  lower_kept (f ∷ fs) (g ∷ gs) (suc axis) w v = ap (ordering_then (int_cmp (low f) (low g))) (lower_kept fs gs axis w v)

  first_high : (f g : Factor) → is_wide f ≡ true → is_wide g ≡ true → int_cmp (high (change (low f))) (high (change (low g))) ≡ int_cmp (high f) (high g)
  first_high (point l) g w v = absurd (true≢false (sym w))
  first_high (interval l) (point m) w v = absurd (true≢false (sym v))
  first_high (interval l) (interval m) w v = moves_cmp high change b highs l m ∙ sym (shift_cmp l m (pos 1))

  upper_kept : (q r : List Factor) (axis : ℕ) → is_wide (factor_at q axis) ≡ true → is_wide (factor_at r axis) ≡ true
      → corner_cmp (upper_of (set q axis (change (low (factor_at q axis))))) (upper_of (set r axis (change (low (factor_at r axis))))) ≡ corner_cmp (upper_of q) (upper_of r)
  upper_kept [] r axis w v = absurd (true≢false (sym w))
  upper_kept (f ∷ fs) [] axis w v = absurd (true≢false (sym v))
  upper_kept (f ∷ fs) (g ∷ gs) zero w v = ap (λ o. ordering_then o (corner_cmp (upper_of fs) (upper_of gs))) (first_high f g w v)
  upper_kept (f ∷ fs) (g ∷ gs) (suc axis) w v = ap (ordering_then (int_cmp (high f) (high g))) (upper_kept fs gs axis w v)

  kept : (q r : List Factor) (axis : ℕ) → is_wide (factor_at q axis) ≡ true → is_wide (factor_at r axis) ≡ true
      → cell_cmp (set q axis (change (low (factor_at q axis)))) (set r axis (change (low (factor_at r axis)))) ≡ cell_cmp q r
  kept q r axis w v = λ i. ordering_then (lower_kept q r axis w v i) (upper_kept q r axis w v i)

pub changes_keep_order : ChangesKeepOrder
changes_keep_order = λ change a b lows highs. kept change a b lows highs
