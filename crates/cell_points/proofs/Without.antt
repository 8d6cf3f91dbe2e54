-- Places without the cells of other places.
use Rattle.std.proofs.Common.{◌≡◌, ℕ, zero, suc, ◌-◌, ◌<◌, ◌≤◌, ◌^◌, inl, inr, ⊎_elim, refl, sym, ap, ◌∙◌, arith, List, [], ◌∷◌, length, map, filter, Bool, true, false, eqb, cond, ◌&&◌, true≢false}
use Rattle.std.specs.Prelude.{ℤ, not, ◌||◌}
use Rattle.std.specs.Int.{bit_at, bit_not, w16}
use Rattle.std.specs.List.{list_all, AllByRecursion}
use Rattle.std.specs.List.Sorted.{IsStrictlySortedBy}
use Rattle.std.specs.Ordering.{is_eq}
use Rattle.std.specs.Cmp.{both_ways}
use Rattle.std.proofs.lemmas.Bool.{cond_both}
use Rattle.std.proofs.lemmas.List.{get_or_default}
use Rattle.std.proofs.lemmas.Nat.{or_lt, and_le_l}
use Rattle.std.proofs.lemmas.Nat.Bits.{bit_at_not, bit_at-lt, bit_at-zero, same_from_bits}
use Rattle.elem_cubes.specs.Corners.{corner_cmp}
use Rattle.elem_cubes.specs.Cells.{Factor, is_file_factor, lower_of, axes_of}
use Rattle.elem_cubes.specs.Order.{cell_cmp}
use Rattle.elem_cubes.specs.Laws.{cell_at}
use Rattle.elem_cubes.proofs.Members.{In, In-map, map-In, from-In}
use Rattle.cube_sets.specs.Sorted.{has}
use Rattle.cube_sets.proofs.SameSets.{same_sets}
use Rattle.cube_sets.proofs.Spreads.{has_In, In_has, In_passes, all_from_In}
use Rattle.cube_sets.proofs.Sorting.{and_true}
use Rattle.cube_sets.proofs.Merging.{IsBelow}
use Rattle.cell_points.specs.Masks.{has_bit}
use Rattle.cell_points.specs.Sorted.{IsSortedCells, without}
use Rattle.cell_points.specs.Places.{place_cmp, cells_of_places, rank_of, IsPlace, ArePlaces, holds_at, place_at, IsPlaceOf, mask_of, cut}
use Rattle.cell_points.specs.declared.place.Place.{Place}
use Rattle.cell_points.proofs.Ranks.{has_or, has_and, turned_few}
use Rattle.cell_points.proofs.Views.{view_In, In_view, sorted_cells}
use Rattle.cell_points.proofs.Closing.{At-holds, holds-At}
use Rattle.cell_points.proofs.Searching.{only, at_In}

-- ---- the mask at a corner

masked : (e b : Bool) (m r : ℕ) → has_bit m r ≡ b → has_bit (cond e m 0) r ≡ (e && b)
masked true b m r h = h
masked false b m r h = ap (λ x. eqb x 1) (bit_at-zero r)

pub has_mask : (ps : List Place) (c : List ℤ) (r : ℕ) → has_bit (mask_of ps c) r ≡ holds_at ps c r
has_mask [] c r = ap (λ x. eqb x 1) (bit_at-zero r)
has_mask (p ∷ ps) c r =
    has_or (cond (is_eq (corner_cmp p.corner c)) p.mask 0) (mask_of ps c) r
    ∙ ap (λ b. b || has_bit (mask_of ps c) r) (masked (is_eq (corner_cmp p.corner c)) (has_bit p.mask r) p.mask r refl)
    ∙ ap (λ b. (is_eq (corner_cmp p.corner c) && has_bit p.mask r) || b) (has_mask ps c r)

bit_from : (x y : ℕ) → x < 2 → y < 2 → eqb x 1 ≡ eqb y 1 → x ≡ y
bit_from zero zero h k e = refl
bit_from zero (suc zero) h k e = absurd (true≢false (sym e))
bit_from (suc zero) zero h k e = absurd (true≢false e)
bit_from (suc zero) (suc zero) h k e = refl
bit_from (suc (suc x)) y h k e = absurd (omega arith)
bit_from zero (suc (suc y)) h k e = absurd (omega arith)
bit_from (suc zero) (suc (suc y)) h k e = absurd (omega arith)

pub same_mask : (a b : ℕ) → ((r : ℕ) → has_bit a r ≡ has_bit b r) → a ≡ b
same_mask a b h = same_from_bits a b (λ r. bit_from (bit_at a r) (bit_at b r) (bit_at-lt a r) (bit_at-lt b r) (h r))

-- a place with the corner has its mask
pub mask_there : (ps : List Place) (c : List ℤ) (i : ℕ) → ArePlaces ps → IsPlaceOf ps c i → (place_at ps i).mask ≡ mask_of ps c
mask_there ps c i are h = same_mask (place_at ps i).mask (mask_of ps c) (λ r.
    both_ways (has_bit (place_at ps i).mask r) (holds_at ps c r)
    (λ b. holds-At ps c r (place_at ps i, at_In ps i (record { corner = []; mask = 0 }) h.within, h.corner, b))
    (λ b. only ps c are i r h (At-holds ps c r b))
    ∙ sym (has_mask ps c r))

pub mask_none : (ps : List Place) (c : List ℤ) → ((r : ℕ) → holds_at ps c r ≡ false) → 0 ≡ mask_of ps c
mask_none ps c h = same_mask 0 (mask_of ps c) (λ r. ap (λ x. eqb x 1) (bit_at-zero r) ∙ sym (h r) ∙ sym (has_mask ps c r))

mask_small : (ps : List Place) (c : List ℤ) → AllByRecursion IsPlace ps → mask_of ps c < 2 ^ 16
mask_small [] c h = omega arith
mask_small (p ∷ ps) c h = or_lt 16 (cond (is_eq (corner_cmp p.corner c)) p.mask 0) (mask_of ps c)
    (cond_both (is_eq (corner_cmp p.corner c)) p.mask 0 (λ m. m < 2 ^ 16) (λ _. h.0.small) (λ _. omega arith)) (mask_small ps c h.1)

-- ---- the places that are cut

not_bit : (x : ℕ) → x < 2 → eqb (1 - x) 1 ≡ not (eqb x 1)
not_bit zero l = refl
not_bit (suc zero) l = refl
not_bit (suc (suc x)) l = absurd (omega arith)

module _ (others : List Place) (others_are : ArePlaces others) where
  has_cut : (p : Place) (r : ℕ) → r < 16 → has_bit (cut others p).mask r ≡ (has_bit p.mask r && not (holds_at others p.corner r))
  has_cut p r l =
      has_and p.mask (bit_not w16 (mask_of others p.corner)) r
      ∙ ap (λ b. has_bit p.mask r && b) (ap (λ x. eqb x 1) (bit_at_not w16 (mask_of others p.corner) r (mask_small others p.corner others_are.each) l)
      ∙ not_bit (bit_at (mask_of others p.corner) r) (bit_at-lt (mask_of others p.corner) r) ∙ ap not (has_mask others p.corner r))

  cut_small : (p : Place) → IsPlace p → (cut others p).mask < 2 ^ 16
  cut_small p h = let a = and_le_l p.mask (bit_not w16 (mask_of others p.corner)) in let s = h.small in omega arith

  cut_place : (p : Place) → IsPlace p → IsPlace (cut others p)
  cut_place p h = record {
    short = h.short;
    small = cut_small p h;
    fits = λ r b. h.fits r (and_true (has_bit p.mask r) (has_bit (bit_not w16 (mask_of others p.corner)) r) (sym (has_and p.mask (bit_not w16 (mask_of others p.corner)) r) ∙ b)).0;
  }

  below_cut : (p : Place) (ps : List Place) → IsBelow place_cmp p ps → IsBelow place_cmp (cut others p) (map (cut others) ps)
  below_cut p [] h = tt
  below_cut p (q ∷ ps) h = (h.0, below_cut p ps h.1)

  sorted_cut : (ps : List Place) → IsStrictlySortedBy place_cmp ps → IsStrictlySortedBy place_cmp (map (cut others) ps)
  unfolding IsStrictlySortedBy
  sorted_cut [] h = tt
  sorted_cut (p ∷ ps) h = (below_cut p ps h.0, sorted_cut ps h.1)

  each_cut : (ps : List Place) → AllByRecursion IsPlace ps → AllByRecursion IsPlace (map (cut others) ps)
  each_cut [] h = tt
  each_cut (p ∷ ps) h = (cut_place p h.0, each_cut ps h.1)

  pub cut_are : (ps : List Place) → ArePlaces ps → ArePlaces (map (cut others) ps)
  cut_are ps h = record { sorted = sorted_cut ps h.sorted; each = each_cut ps h.each }

  rank_few : (q : List Factor) → rank_of q < 16
  rank_few q = turned_few (axes_of q)

  both_hold : (a b : Bool) → a ≡ true → b ≡ true → (a && b) ≡ true
  both_hold a b h k = rw (h, k) refl

  is_false : (b : Bool) → (b ≡ true → ⊥) → b ≡ false
  is_false true h = absurd (h refl)
  is_false false h = refl

  not_true : (b : Bool) → not b ≡ true → b ≡ false
  not_true true h = absurd (true≢false (sym h))
  not_true false h = refl

  filter_In : (f : List Factor → Bool) (xs : List (List Factor)) (q : List Factor) → In (filter f xs) q → In xs q × (f q ≡ true)
  filter_In f [] q m = absurd m
  filter_In f (x ∷ xs) q m = cond_both (f x) (x ∷ filter f xs) (filter f xs) (λ ys. In ys q → In (x ∷ xs) q × (f q ≡ true))
      (λ t k. ⊎_elim (λ e. (inl e, ap f (sym e) ∙ t)) (λ k. let w = filter_In f xs q k in (inr w.0, w.1)) k)
      (λ _ k. let w = filter_In f xs q k in (inr w.0, w.1)) m

  In_filter : (f : List Factor → Bool) (xs : List (List Factor)) (q : List Factor) → In xs q → f q ≡ true → In (filter f xs) q
  In_filter f [] q m h = absurd m
  In_filter f (x ∷ xs) q m h = cond_both (f x) (x ∷ filter f xs) (filter f xs) (λ ys. In ys q)
      (λ t. ⊎_elim (λ e. inl e) (λ k. inr (In_filter f xs q k h)) m)
      (λ f'. ⊎_elim (λ e. absurd (true≢false (sym h ∙ ap f (sym e) ∙ f'))) (λ k. In_filter f xs q k h) m)

  cut_In : (ps : List Place) (q : List Factor) → ArePlaces ps → In (cells_of_places (map (cut others) ps)) q → In (without (cells_of_places ps) (cells_of_places others)) q
  cut_In ps q are m =
      let w = view_In (map (cut others) ps) q (cut_are ps are) m in
      let v = In-map (cut others) ps w.0 w.1 in
      let p : Place = v.0 in
      let at : p.corner ≡ lower_of q = ap (λ (x : Place). x.corner) v.2 ∙ w.2 in
      let b = and_true (has_bit p.mask (rank_of q)) (not (holds_at others p.corner (rank_of q))) (sym (has_cut p (rank_of q) (rank_few q)) ∙ ap (λ (x : Place). has_bit x.mask (rank_of q)) v.2 ∙ w.3) in
      let gone : holds_at others (lower_of q) (rank_of q) ≡ false = ap (λ c. holds_at others c (rank_of q)) (sym at) ∙ not_true (holds_at others p.corner (rank_of q)) b.1 in
      let absent : has cell_cmp (cells_of_places others) q ≡ false = is_false (has cell_cmp (cells_of_places others) q)
      (λ h. true≢false (sym (holds-At others (lower_of q) (rank_of q) (view_In others q others_are (has_In (cells_of_places others) q h))) ∙ gone)) in
      In_filter (λ s. not (has cell_cmp (cells_of_places others) s)) (cells_of_places ps) q (In_view ps q are (p, v.1, at, b.0)) (ap not absent)

  In_cut : (ps : List Place) (q : List Factor) → ArePlaces ps → In (without (cells_of_places ps) (cells_of_places others)) q → In (cells_of_places (map (cut others) ps)) q
  In_cut ps q are m =
      let f = filter_In (λ s. not (has cell_cmp (cells_of_places others) s)) (cells_of_places ps) q m in
      let w = view_In ps q are f.0 in
      let p : Place = w.0 in
      let gone : holds_at others p.corner (rank_of q) ≡ false = is_false (holds_at others p.corner (rank_of q)) (λ h.
      true≢false (sym (In_has (cells_of_places others) q (In_view others q others_are (At-holds others (lower_of q) (rank_of q) (ap (λ c. holds_at others c (rank_of q)) (sym w.2) ∙ h))))
      ∙ not_true (has cell_cmp (cells_of_places others) q) f.1)) in
      In_view (map (cut others) ps) q (cut_are ps are) (
        cut others p,
        map-In (cut others) ps p w.1,
        w.2,
        has_cut p (rank_of q) (rank_few q) ∙ both_hold (has_bit p.mask (rank_of q)) (not (holds_at others p.corner (rank_of q))) w.3 (ap not gone),
      )

  below_filtered : (f : List Factor → Bool) (x : List Factor) (xs : List (List Factor)) → IsBelow cell_cmp x xs → IsBelow cell_cmp x (filter f xs)
  below_filtered f x [] h = tt
  below_filtered f x (y ∷ ys) h = cond_both (f y) (y ∷ filter f ys) (filter f ys) (IsBelow cell_cmp x) (λ _. (h.0, below_filtered f x ys h.1)) (λ _. below_filtered f x ys h.1)

  sorted_filtered : (f : List Factor → Bool) (xs : List (List Factor)) → IsStrictlySortedBy cell_cmp xs → IsStrictlySortedBy cell_cmp (filter f xs)
  unfolding IsStrictlySortedBy
  sorted_filtered f [] h = tt
  sorted_filtered f (x ∷ xs) h = cond_both (f x) (x ∷ filter f xs) (filter f xs) (IsStrictlySortedBy cell_cmp) (λ _. (below_filtered f x xs h.0, sorted_filtered f xs h.1)) (λ _. sorted_filtered f xs h.1)

  pub cut_cells : (ps : List Place) → ArePlaces ps → cells_of_places (map (cut others) ps) ≡ without (cells_of_places ps) (cells_of_places others)
  cut_cells ps are = same_sets (cells_of_places (map (cut others) ps)) (without (cells_of_places ps) (cells_of_places others)) (sorted_cells (map (cut others) ps) (cut_are ps are))
      (sorted_filtered (λ s. not (has cell_cmp (cells_of_places others) s)) (cells_of_places ps) (sorted_cells ps are))
      (λ q. both_ways (has cell_cmp (cells_of_places (map (cut others) ps)) q) (has cell_cmp (without (cells_of_places ps) (cells_of_places others)) q)
      (λ h. In_has (without (cells_of_places ps) (cells_of_places others)) q (cut_In ps q are (has_In (cells_of_places (map (cut others) ps)) q h)))
      (λ h. In_has (cells_of_places (map (cut others) ps)) q (In_cut ps q are (has_In (without (cells_of_places ps) (cells_of_places others)) q h))))

  length_filtered : (f : List Factor → Bool) (xs : List (List Factor)) → length (filter f xs) ≤ length xs
  length_filtered f [] = omega arith
  length_filtered f (x ∷ xs) = let r = length_filtered f xs in cond_both (f x) (x ∷ filter f xs) (filter f xs) (λ ys. length ys ≤ suc (length xs)) (λ _. omega arith) (λ _. omega arith)

  pub fewer : (xs ys : List (List Factor)) → length (without xs ys) ≤ length xs
  fewer xs ys = length_filtered (λ s. not (has cell_cmp ys s)) xs

  pub without_sorted : (xs ys : List (List Factor)) → IsSortedCells xs → IsSortedCells (without xs ys)
  without_sorted xs ys h =
      let f : List Factor → Bool = λ s. not (has cell_cmp ys s) in
      record {
        sorted = sorted_filtered f xs h.sorted;
        alike = λ i j li lj.
            let a = from-In xs (cell_at (filter f xs) i) (filter_In f xs (cell_at (filter f xs) i) (at_In (filter f xs) i [] li)).0 in
            let b = from-In xs (cell_at (filter f xs) j) (filter_In f xs (cell_at (filter f xs) j) (at_In (filter f xs) j [] lj)).0 in
            ap length (sym a.2 ∙ get_or_default xs a.0 (cell_at (filter f xs) i) [] a.1)
            ∙ h.alike a.0 b.0 a.1 b.1
            ∙ ap length (get_or_default xs b.0 [] (cell_at (filter f xs) j) b.1 ∙ b.2);
        in_range = all_from_In (list_all is_file_factor) (filter f xs) (λ q m. In_passes (list_all is_file_factor) xs q h.in_range (filter_In f xs q m).0);
        few = let l = length_filtered f xs in let k = h.few in omega arith;
      }

-- where the others are none, all cells stay
pub without_none : (xs ys : List (List Factor)) (n : ℕ) → n ≡ length ys → n ≡ 0 → xs ≡ without xs ys
without_none xs (y ∷ ys) n e z = absurd (omega arith)
without_none [] [] n e z = refl
without_none (x ∷ xs) [] n e z = ap (λ l. x ∷ l) (without_none xs [] n e z)
