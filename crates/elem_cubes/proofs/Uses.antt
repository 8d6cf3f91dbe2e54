-- Comparisons and hashes of cells by their fields.
use Rattle.std.proofs.Common.{◌≡◌, ℕ, ◌^◌, ◌<◌, refl, sym, ap, ◌∙◌, subst, List, length, take, true, false, eqb, eqb-true, eq-eqb, true≢false}
use Rattle.std.specs.Prelude.{ℤ}
use Rattle.std.specs.Cmp.{both_ways, Equal-is, tied_itself}
use Rattle.std.specs.Cmp.Lexicographic.{slice_cmp, lists_ties, pointwise}
use Rattle.std.specs.declared.cmp.Ordering.{Ordering}
use Rattle.std.specs.declared.cmp.Ordering.TheVariants.{Less, Equal, Greater}
use Rattle.std.specs.Ordering.{int_cmp, int_eq, ordering_then, is_eq}
use Rattle.std.proofs.lemmas.Cmp.{lists_total, int_cmp_total}
use Rattle.elem_cubes.specs.Corners.{corner_cmp}
use Rattle.elem_cubes.specs.Cells.{Factor, lower_of, upper_of, axes_of, cell_of, same_cell}
use Rattle.elem_cubes.specs.Order.{cell_cmp}
use Rattle.elem_cubes.specs.OrderLemmas.{tied_lists, same_cell-Decides}
use Rattle.elem_cubes.specs.Packed.{words_of, KeepsCell, OrdersUppers}
use Rattle.elem_cubes.proofs.Keeping.{lower_kept, axes_small, axes_kept, corner_kept}
use Rattle.elem_cubes.proofs.Words.{corner_words}

then_same : (o p r : Ordering) → (o ≡ Equal → p ≡ r) → ordering_then o p ≡ ordering_then o r
then_same Less p r h = refl
then_same Equal p r h = h refl
then_same Greater p r h = refl

fewer : {m n a : ℕ} → m ≡ n → a < 2 ^ n → a < 2 ^ m
fewer {m} {n} {a} e h = let P : ℕ → Type 0 = λ j. a < 2 ^ j in subst P (sym e) h

module _ (ends : List ℤ) (len axes : ℕ) (q : List Factor) (k : KeepsCell ends len axes) (e : cell_of (take len ends) axes ≡ q)
    (others : List ℤ) (other_len other_axes : ℕ) (r : List Factor) (l : KeepsCell others other_len other_axes) (f : cell_of (take other_len others) other_axes ≡ r) where
  -- the words tell the lower corners
  pub lower_words : slice_cmp int_cmp (words_of ends) (words_of others) ≡ corner_cmp (lower_of q) (lower_of r)
  lower_words =
      corner_words ends len others other_len (corner_kept ends len axes q k e) (corner_kept others other_len other_axes r l f)
      ∙ ap (λ xs. corner_cmp xs (take other_len others)) (lower_kept ends len axes q k e)
      ∙ ap (corner_cmp (lower_of q)) (lower_kept others other_len other_axes r l f)

  tied_lower : corner_cmp (lower_of q) (lower_of r) ≡ Equal → take len ends ≡ take other_len others
  tied_lower h = lower_kept ends len axes q k e ∙ tied_lists (lower_of q) (lower_of r) h ∙ sym (lower_kept others other_len other_axes r l f)

  uppers : (o : Ordering) → OrdersUppers axes other_axes o → corner_cmp (lower_of q) (lower_of r) ≡ Equal → o ≡ corner_cmp (upper_of q) (upper_of r)
  uppers o h t =
      let ls = take len ends in
      let s = tied_lower t in
      h ls (axes_small ends len axes q k e) (fewer (ap length s) (axes_small others other_len other_axes r l f))
      ∙ ap (λ c. corner_cmp (upper_of c) (upper_of (cell_of ls other_axes))) e
      ∙ ap (λ c. corner_cmp (upper_of q) (upper_of c)) (ap (λ xs. cell_of xs other_axes) s ∙ f)

  pub cells_cmp : (o : Ordering) → OrdersUppers axes other_axes o → ordering_then (slice_cmp int_cmp (words_of ends) (words_of others)) o ≡ cell_cmp q r
  cells_cmp o h =
      ap (λ s. ordering_then s o) lower_words
      ∙ then_same (corner_cmp (lower_of q) (lower_of r)) o (corner_cmp (upper_of q) (upper_of r)) (uppers o h)

  words_eq : pointwise int_eq (words_of ends) (words_of others) ≡ is_eq (corner_cmp (lower_of q) (lower_of r))
  words_eq = lists_ties int_cmp (λ x y. refl) (words_of ends) (words_of others) ∙ ap is_eq lower_words

  pub same_axes : pointwise int_eq (words_of ends) (words_of others) ≡ true → eqb axes other_axes ≡ same_cell q r
  same_axes h =
      let t = tied_lower ((Equal-is (corner_cmp (lower_of q) (lower_of r))).0 (sym words_eq ∙ h)) in
      both_ways (eqb axes other_axes) (same_cell q r)
      (λ a. (same_cell-Decides q r).1 (sym e ∙ ap (λ n. cell_of (take len ends) n) (eqb-true axes other_axes a) ∙ ap (λ ls. cell_of ls other_axes) t ∙ f))
      (λ s. eq-eqb axes other_axes (axes_kept ends len axes q k e ∙ ap axes_of ((same_cell-Decides q r).0 s) ∙ sym (axes_kept others other_len other_axes r l f)))

  pub other_words : pointwise int_eq (words_of ends) (words_of others) ≡ false → false ≡ same_cell q r
  other_words h =
      both_ways false (same_cell q r) (λ a. absurd (true≢false (sym a)))
      (λ s. sym h ∙ words_eq ∙ ap is_eq (ap (λ c. corner_cmp (lower_of c) (lower_of r)) ((same_cell-Decides q r).0 s) ∙ tied_itself (lists_total int_cmp_total) (lower_of r)))
