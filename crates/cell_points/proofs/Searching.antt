-- Searches of places, and the numbers of the cells at a place.
use Rattle.std.proofs.Common.{◌≡◌, ℕ, zero, suc, ◌+◌, ◌-◌, ◌%◌, ◌^◌, ◌<◌, ◌≤◌, inl, inr, ⊎_elim, refl, sym, ap, ◌∙◌, subst, arith, List, [], ◌∷◌, length, take, get_or, Bool, true, false, Some}
use Rattle.std.specs.Prelude.{ℤ, IsTrue}
use Rattle.std.specs.Int.RustNames.{count_ones}
use Rattle.std.specs.List.{Contains}
use Rattle.std.specs.List.Sorted.{IsStrictlySortedBy}
use Rattle.std.specs.declared.cmp.Ordering.{Ordering}
use Rattle.std.specs.declared.cmp.Ordering.TheVariants.{Less, Equal, Greater}
use Rattle.std.specs.Ordering.{is_eq}
use Rattle.std.specs.Cmp.{tied_itself}
use Rattle.std.proofs.lemmas.Cmp.{lists_total, int_cmp_total}
use Rattle.std.proofs.lemmas.Bool.{cases_lt, true≢false}
use Rattle.std.proofs.lemmas.List.{get_or-map, length-map, get_or_default, get_or_past}
use Rattle.std.proofs.lemmas.List.Concat.{get_or-flat_map}
use Rattle.std.proofs.lemmas.Map.Keys.{Less-from_sorted}
use Rattle.elem_cubes.specs.Corners.{corner_cmp}
use Rattle.elem_cubes.specs.Cells.{Factor, is_cell, is_file_factor, lower_of, axes_of, cell_of, checked_of}
use Rattle.elem_cubes.specs.Order.{cell_cmp}
use Rattle.elem_cubes.specs.OrderLemmas.{tied_lists}
use Rattle.std.specs.List.{list_all}
use Rattle.std.proofs.lemmas.List.{take_all}
use Rattle.cube_sets.specs.Sets.{Members, IsCubeSet, is_member}
use Rattle.cube_sets.specs.Closures.{cells_of}
use Rattle.cube_sets.proofs.Covering.{cells_are_faces, member_parts, in_range}
use Rattle.cube_sets.proofs.Spreads.{In_passes}
use Rattle.cell_points.specs.Sorted.{IsSortedCells}
use Rattle.cell_points.proofs.Edges.{axis_below}
use Rattle.elem_cubes.specs.Laws.{cell_at}
use Rattle.elem_cubes.proofs.Members.{In, In-from, from-In}
use Rattle.cube_sets.proofs.Merging.{above, above'}
use Rattle.cell_points.specs.Masks.{turned, has_bit, ranks_of}
use Rattle.cell_points.specs.Places.{place_cmp, cells_at, cells_of_places, rank_of, IsPlace, ArePlaces, firsts_from, place_at, IsPlaceOf, IsLastFrom, holds_at}
use Rattle.cell_points.specs.declared.place.Place.{Place}
use Rattle.cell_points.proofs.Ranks.{mask_place, turned_few}
use Rattle.cell_points.proofs.Axes.{ranked_rank_of}
use Rattle.cell_points.proofs.Counting.{length-firsts, first_at, length-next, length-place, length-front}
use Rattle.cell_points.proofs.Views.{At, all_at, view_In}
use Rattle.cell_points.proofs.Closing.{At-holds, holds-At, cell_in_range, file_factors}

less_not_equal : Less ≡ Equal → ⊥
less_not_equal e = true≢false (sym (ap is_eq e))

greater_not_equal : Greater ≡ Equal → ⊥
greater_not_equal e = true≢false (sym (ap is_eq e))

-- ---- by corner

module _ (ps : List Place) (c : List ℤ) (are : ArePlaces ps) where
  pub still_below : (m k : ℕ) → m < length ps → corner_cmp (place_at ps m).corner c ≡ Less → k < m + 1 → corner_cmp (place_at ps k).corner c ≡ Less
  still_below m k l e h = ⊎_elim
      (λ lt. (lists_total int_cmp_total).trans (place_at ps k).corner (place_at ps m).corner c (Less-from_sorted place_cmp ps k m (record { corner = []; mask = 0 }) are.sorted lt l) e)
      (λ ge. let s : m ≡ k = omega arith in ap (λ j. corner_cmp (place_at ps j).corner c) (sym s) ∙ e)
      (cases_lt k m)

  pub still_above : (m k : ℕ) → k < length ps → corner_cmp (place_at ps m).corner c ≡ Greater → m ≤ k → corner_cmp (place_at ps k).corner c ≡ Greater
  still_above m k l e h = ⊎_elim
      (λ lt. let t : corner_cmp c (place_at ps k).corner ≡ Less =
      (lists_total int_cmp_total).trans c (place_at ps m).corner (place_at ps k).corner (above corner_cmp (lists_total int_cmp_total) (place_at ps m).corner c e)
      (Less-from_sorted place_cmp ps m k (record { corner = []; mask = 0 }) are.sorted lt l) in above' corner_cmp (lists_total int_cmp_total) c (place_at ps k).corner t)
      (λ ge. let s : m ≡ k = omega arith in ap (λ j. corner_cmp (place_at ps j).corner c) (sym s) ∙ e)
      (cases_lt m k)

  -- each place is below or above
  pub nowhere : (n r : ℕ) → ((k : ℕ) → k < n → corner_cmp (place_at ps k).corner c ≡ Less) → ((k : ℕ) → n ≤ k → k < length ps → corner_cmp (place_at ps k).corner c ≡ Greater) → holds_at ps c r ≡ false
  nowhere n r low high = elim (holds_at ps c r) as (λ b. holds_at ps c r ≡ b → holds_at ps c r ≡ false) [
    | true ↦ λ h.
        let w = At-holds ps c r h in
        let i = from-In ps w.0 w.1 in
        let e : corner_cmp (place_at ps i.0).corner c ≡ Equal =
        ap (λ (p : Place). corner_cmp p.corner c) (get_or_default ps i.0 (record { corner = []; mask = 0 }) w.0 i.1 ∙ i.2) ∙ ap (λ d. corner_cmp d c) w.2 ∙ tied_itself (lists_total int_cmp_total) c in
        absurd (⊎_elim (λ lt. let z = low i.0 lt in less_not_equal (sym z ∙ e)) (λ ge. let z = high i.0 ge i.1 in greater_not_equal (sym z ∙ e)) (cases_lt i.0 n))
    | false ↦ λ h. h
  ] refl

  -- a place with the corner is the only one
  pub only : (i r : ℕ) → IsPlaceOf ps c i → At ps c r → has_bit (place_at ps i).mask r ≡ true
  only i r h w =
      let j = from-In ps w.0 w.1 in
      let same : place_at ps j.0 ≡ w.0 = get_or_default ps j.0 (record { corner = []; mask = 0 }) w.0 j.1 ∙ j.2 in
      let eq : corner_cmp (place_at ps i).corner (place_at ps j.0).corner ≡ Equal =
      ap (λ d. corner_cmp d (place_at ps j.0).corner) h.corner ∙ ap (λ (p : Place). corner_cmp c p.corner) same ∙ ap (corner_cmp c) w.2 ∙ tied_itself (lists_total int_cmp_total) c in
      ⊎_elim
      (λ lt. absurd (less_not_equal (sym (Less-from_sorted place_cmp ps i j.0 (record { corner = []; mask = 0 }) are.sorted lt j.1) ∙ eq)))
      (λ ge. ⊎_elim
      (λ lt. absurd (less_not_equal (sym (Less-from_sorted place_cmp ps j.0 i (record { corner = []; mask = 0 }) are.sorted lt h.within)
      ∙ ap (λ d. corner_cmp (place_at ps j.0).corner d) h.corner ∙ ap (λ (p : Place). corner_cmp p.corner c) same ∙ ap (λ d. corner_cmp d c) w.2 ∙ tied_itself (lists_total int_cmp_total) c)))
      (λ le. let s : i ≡ j.0 = omega arith in ap (λ k. has_bit (place_at ps k).mask r) s ∙ ap (λ (p : Place). has_bit p.mask r) same ∙ w.3)
      (cases_lt j.0 i))
      (cases_lt i j.0)

-- ---- the cells of a place by their numbers

rank_behind : (m r : ℕ) → m < 2 ^ 16 → r < 16 → has_bit m r ≡ true → count_ones (m % 2 ^ r) < length (ranks_of m)
rank_behind m r s l h = ⊎_elim (λ lt. lt)
    (λ ge. absurd (let p = get_or_past (ranks_of m) (count_ones (m % 2 ^ r)) (suc r) ge in let q = mask_place m r (suc r) l h in omega arith))
    (cases_lt (count_ones (m % 2 ^ r)) (length (ranks_of m)))

pub at_In : {X : Type 0} (xs : List X) (i : ℕ) (d : X) → i < length xs → In xs (get_or xs i d)
at_In [] i d l = absurd (omega arith)
at_In (x ∷ xs) zero d l = inl refl
at_In (x ∷ xs) (suc i) d l = inr (at_In xs i d (omega arith))

within : (ps : List Place) (i j : ℕ) (d : Place) → ArePlaces ps → i < length ps → j < length (cells_at (get_or ps i d)) → get_or (firsts_from 0 ps) i 0 ≡ length (cells_of_places (take i ps))
    → get_or (firsts_from 0 ps) i 0 + j < length (cells_of_places ps)
within ps i j d are l b first =
    let p = get_or ps i d in
    let n = length-next ps i d are.each l in
    let c = length-place p (all_at IsPlace ps p are.each (at_In ps i d l)) in
    let f = length-front ps (suc i) in
    omega arith

-- the cell of a rank of a place stands so far behind the first one of the place
pub numbered : (ps : List Place) (i r : ℕ) → ArePlaces ps → i < length ps → r < 16 → has_bit (place_at ps i).mask r ≡ true
    → (get_or (firsts_from 0 ps) i 0 + count_ones ((place_at ps i).mask % 2 ^ r) < length (cells_of_places ps))
    × (cell_at (cells_of_places ps) (get_or (firsts_from 0 ps) i 0 + count_ones ((place_at ps i).mask % 2 ^ r)) ≡ cell_of (place_at ps i).corner (turned r))
numbered ps i r are l k h =
    let p = place_at ps i in
    let is : IsPlace p = all_at IsPlace ps p are.each (at_In ps i (record { corner = []; mask = 0 }) l) in
    let j = count_ones (p.mask % 2 ^ r) in
    let f : ℕ → List Factor = λ r. cell_of p.corner (turned r) in
    let b : j < length (ranks_of p.mask) = rank_behind p.mask r is.small k h in
    let b' : j < length (cells_at p) = (let e = length-map (ranks_of p.mask) f in omega arith) in
    let first : get_or (firsts_from 0 ps) i 0 ≡ length (cells_of_places (take i ps)) = first_at ps i 0 are.each l ∙ (let z : 0 + length (cells_of_places (take i ps)) ≡ length (cells_of_places (take i ps)) = omega arith in z) in
    let at : get_or (cells_of_places ps) (length (cells_of_places (take i ps)) + j) [] ≡ get_or (cells_at p) j [] = get_or-flat_map cells_at ps i j (record { corner = []; mask = 0 }) [] l b' in
    let in_place : get_or (cells_at p) j [] ≡ f (get_or (ranks_of p.mask) j 0) = get_or-map f (ranks_of p.mask) j 0 [] b in (
      within ps i j (record { corner = []; mask = 0 }) are l b' first,
      ap (λ n. get_or (cells_of_places ps) (n + j) []) first ∙ at ∙ in_place ∙ ap f (mask_place p.mask r 0 k h),
    )

-- a place that is found
pub found_place : (ps : List Place) (c : List ℤ) (i : ℕ) (p : Place) → i < length ps → p ≡ get_or ps i p → corner_cmp p.corner c ≡ Equal → IsPlaceOf ps c i
found_place ps c i p l e h = record {
  within = l;
  corner = ap (λ (q : Place). q.corner) (sym (e ∙ get_or_default ps i p (record { corner = []; mask = 0 }) l)) ∙ tied_lists p.corner c h;
}

pub at_place : (ps : List Place) (i : ℕ) (p : Place) → i < length ps → p ≡ get_or ps i p → p ≡ place_at ps i
at_place ps i p l e = e ∙ get_or_default ps i p (record { corner = []; mask = 0 }) l

-- ---- the number of a cell at its place

module _ (ps : List Place) (q : List Factor) (i : ℕ) (are : ArePlaces ps) (h : IsPlaceOf ps (lower_of q) i) (few : length q ≤ 4) where
  -- where its rank is not there, the cell is not
  pub not_there : has_bit (place_at ps i).mask (rank_of q) ≡ false → Contains (cells_of_places ps) q → ⊥
  not_there b w = true≢false (sym (only ps (lower_of q) are i (rank_of q) h (view_In ps q are (In-from (cells_of_places ps) q w))) ∙ b)

  module _ (b : has_bit (place_at ps i).mask (rank_of q) ≡ true) where
    number_of : ℕ
    number_of = get_or (firsts_from 0 ps) i 0 + count_ones ((place_at ps i).mask % 2 ^ rank_of q)

    pub number_few : get_or (firsts_from 0 ps) i 0 + count_ones ((place_at ps i).mask % 2 ^ rank_of q) < length (cells_of_places ps)
    number_few = (numbered ps i (rank_of q) are h.within (turned_few (axes_of q)) b).0

    pub number_cell : cell_at (cells_of_places ps) (get_or (firsts_from 0 ps) i 0 + count_ones ((place_at ps i).mask % 2 ^ rank_of q)) ≡ q
    number_cell = (numbered ps i (rank_of q) are h.within (turned_few (axes_of q)) b).1 ∙ ap (λ c. cell_of c (turned (rank_of q))) h.corner ∙ ranked_rank_of q few

-- ---- the place of a number

pub number_inside : (ps : List Place) (number i : ℕ) → ArePlaces ps → number < length (cells_of_places ps) → IsLastFrom (firsts_from 0 ps) number i
    → (i < length ps) × (number < get_or (firsts_from 0 ps) i 0 + count_ones (place_at ps i).mask)
number_inside ps number i are l h =
    let w : i < length ps = (let a = h.within in let b = length-firsts ps 0 in omega arith) in
    let n = length-next ps i (record { corner = []; mask = 0 }) are.each w in
    let f = first_at ps i 0 are.each w in (
      w,
      ⊎_elim
          (λ lt. let g = first_at ps (suc i) 0 are.each lt in let a = h.above (omega (arith, length-firsts ps 0)) in let s : i + 1 ≡ suc i = omega arith in let t = ap (λ k. get_or (firsts_from 0 ps) k 0) s in omega arith)
          (λ ge. let e = ap (λ qs. length (cells_of_places qs)) (take_all (suc i) ps (omega arith)) in omega arith)
          (cases_lt (suc i) (length ps)),
    )

pub some_firsts : (ps : List Place) (number : ℕ) → number < length (cells_of_places ps) → (0 < length (firsts_from 0 ps)) × (get_or (firsts_from 0 ps) 0 0 ≤ number)
some_firsts [] number l = absurd (omega arith)
some_firsts (p ∷ ps) number l = (omega arith, omega arith)

-- the cell of a number, by its place and its rank there
module _ (ps : List Place) (number i r : ℕ) (are : ArePlaces ps) (l : i < length ps) (k : r < 16) (b : has_bit (place_at ps i).mask r ≡ true)
    (n : get_or (firsts_from 0 ps) i 0 + count_ones ((place_at ps i).mask % 2 ^ r) ≡ number) where
  pub cell_there : cell_of (place_at ps i).corner (turned r) ≡ cell_at (cells_of_places ps) number
  cell_there = sym (numbered ps i r are l k b).1 ∙ ap (cell_at (cells_of_places ps)) n

  pub cell_made : number < length (cells_of_places ps) → 1 ≤ length (place_at ps i).corner → IsSortedCells (cells_of_places ps)
      → checked_of (place_at ps i).corner (turned r) ≡ Some (cell_of (place_at ps i).corner (turned r))
  cell_made few some s =
      let p = place_at ps i in
      let is : IsPlace p = all_at IsPlace ps p are.each (at_In ps i (record { corner = []; mask = 0 }) l) in
      let q = cell_of p.corner (turned r) in
      let m : In (cells_of_places ps) q = subst (λ (t : List Factor). In (cells_of_places ps) t) (sym cell_there) (at_In (cells_of_places ps) number [] few) in
      let range : list_all is_file_factor q ≡ true = In_passes (list_all is_file_factor) (cells_of_places ps) q s.in_range m in
      let c : IsTrue (is_cell q) = cell_in_range p.corner (turned r) some is.short (file_factors q range) in
      rw (axis_below (turned r) (length p.corner) (is.fits r b), c) refl

-- ---- sorted cells of sets

long : (n : ℕ) (xs : List (List Factor)) (i : ℕ) → list_all (is_member n) xs ≡ true → i < length xs → length (cell_at xs i) ≡ n
long n xs i h l = (member_parts n (cell_at xs i) (In_passes (is_member n) xs (cell_at xs i) h (at_In xs i [] l))).0

pub sorted_members : (n : ℕ) (xs : List (List Factor)) → IsStrictlySortedBy cell_cmp xs → list_all (is_member n) xs ≡ true → length xs < 2 ^ 32 → IsSortedCells xs
sorted_members n xs s h few = record {
  sorted = s;
  alike = λ i j li lj. long n xs i h li ∙ sym (long n xs j h lj);
  in_range = in_range n xs h;
  few = few;
}

pub sorted_of_set : (set : Members) → IsCubeSet set → IsSortedCells set.cells
sorted_of_set set is = sorted_members set.dimension set.cells is.sorted is.alike is.few

pub sorted_faces : (set : Members) → IsCubeSet set → length (cells_of set.cells) < 2 ^ 32 → IsSortedCells (cells_of set.cells)
sorted_faces set is few = sorted_members set.dimension (cells_of set.cells) (cells_are_faces.sorted set.cells) (cells_are_faces.alike set.dimension set.cells is.alike) few

-- ---- the same in the words of the code

pub at_cmp : (ps : List Place) (c : List ℤ) (m : ℕ) (p : Place) (r o : Ordering) → m < length ps → r ≡ corner_cmp (get_or ps m p).corner c → r ≡ o → corner_cmp (place_at ps m).corner c ≡ o
at_cmp ps c m p r o l e h = ap (λ (q : Place). corner_cmp q.corner c) (get_or_default ps m (record { corner = []; mask = 0 }) p l) ∙ sym e ∙ h

pub found_at : (ps : List Place) (c : List ℤ) (m : ℕ) (p : Place) (r : Ordering) → m < length ps → r ≡ corner_cmp (get_or ps m p).corner c → r ≡ Equal → IsPlaceOf ps c m
found_at ps c m p r l e h = record { within = l; corner = tied_lists (place_at ps m).corner c (at_cmp ps c m p r Equal l e h) }

module _ (ps : List Place) (i : ℕ) (p : Place) (rank : ℕ) (q : List Factor) (l : i < length ps) (e : rank ≡ rank_of q) where
  same_place : place_at ps i ≡ get_or ps i p
  same_place = get_or_default ps i (record { corner = []; mask = 0 }) p l

  pub bit_there : (v b : Bool) → v ≡ has_bit (get_or ps i p).mask rank → v ≡ b → has_bit (place_at ps i).mask (rank_of q) ≡ b
  bit_there v b h k = ap (λ (z : Place). has_bit z.mask (rank_of q)) same_place ∙ ap (has_bit (get_or ps i p).mask) (sym e) ∙ sym h ∙ k

  pub count_there : (k : ℕ) (firsts : List ℕ) → k ≡ count_ones ((get_or ps i p).mask % 2 ^ rank) → firsts ≡ firsts_from 0 ps
      → get_or firsts i 0 + k ≡ get_or (firsts_from 0 ps) i 0 + count_ones ((place_at ps i).mask % 2 ^ rank_of q)
  count_there k firsts h f =
      let a : get_or firsts i 0 ≡ get_or (firsts_from 0 ps) i 0 = ap (λ ns. get_or ns i 0) f in
      let b : k ≡ count_ones ((place_at ps i).mask % 2 ^ rank_of q) = h ∙ ap (λ r. count_ones ((get_or ps i p).mask % 2 ^ r)) e ∙ ap (λ (z : Place). count_ones (z.mask % 2 ^ rank_of q)) (sym same_place) in
      omega arith

-- the place of a number, in the words of the code
pub record IsFound (ps : List Place) (number i : ℕ) (here : Place) (first : ℕ) : Type 0 where
  pub within : i < length ps
  pub is : here ≡ place_at ps i
  pub begins : first ≡ get_or (firsts_from 0 ps) i 0
  pub low : first ≤ number
  pub high : number < first + count_ones here.mask

pub found_number : (ps : List Place) (firsts : List ℕ) (number i : ℕ) (here : Place) (first : ℕ) → ArePlaces ps → number < length (cells_of_places ps) → firsts ≡ firsts_from 0 ps → IsLastFrom firsts number i
    → here ≡ get_or ps i here → first ≡ get_or firsts i first → IsFound ps number i here first
found_number ps firsts number i here first are l f h e g =
    let k : IsLastFrom (firsts_from 0 ps) number i = subst (λ (ns : List ℕ). IsLastFrom ns number i) f h in
    let w = number_inside ps number i are l k in
    let is : here ≡ place_at ps i = at_place ps i here w.0 e in
    let begins : first ≡ get_or (firsts_from 0 ps) i 0 = g ∙ get_or_default firsts i first 0 h.within ∙ ap (λ ns. get_or ns i 0) f in
    record {
      within = w.0;
      is = is;
      begins = begins;
      low = omega (arith, k.below, begins);
      high = let m = ap (λ (p : Place). count_ones p.mask) is in omega (arith, w.1, begins);
    }

pub found_is : (ps : List Place) (number i : ℕ) (here : Place) (first r : ℕ) → ArePlaces ps → IsSortedCells (cells_of_places ps) → number < length (cells_of_places ps) → IsFound ps number i here first
    → r < 16 → has_bit here.mask r ≡ true → count_ones (here.mask % 2 ^ r) ≡ number - first → 1 ≤ length here.corner
    → (checked_of here.corner (turned r) ≡ Some (cell_at (cells_of_places ps) number))
found_is ps number i here first r are s l f k b n some =
    let b' : has_bit (place_at ps i).mask r ≡ true = ap (λ (p : Place). has_bit p.mask r) (sym f.is) ∙ b in
    let m = ap (λ (p : Place). count_ones (p.mask % 2 ^ r)) f.is in
    let n' : get_or (firsts_from 0 ps) i 0 + count_ones ((place_at ps i).mask % 2 ^ r) ≡ number = omega (arith, m, n, f.begins, f.low) in
    let some' : 1 ≤ length (place_at ps i).corner = omega (arith, some, ap (λ (p : Place). length p.corner) f.is) in
    ap (λ (p : Place). checked_of p.corner (turned r)) f.is ∙ cell_made ps number i r are f.within k b' n' l some' s ∙ ap Some (cell_there ps number i r are f.within k b' n')

-- where no place has the corner, the cell is not there
pub absent_cell : (ps : List Place) (q : List Factor) → ArePlaces ps → ((r : ℕ) → holds_at ps (lower_of q) r ≡ false) → Contains (cells_of_places ps) q → ⊥
absent_cell ps q are h w = true≢false (sym (holds-At ps (lower_of q) (rank_of q) (view_In ps q are (In-from (cells_of_places ps) q w))) ∙ h (rank_of q))

-- a corner between two places is at none
pub between : (ps : List Place) (c : List ℤ) (k : ℕ) (p : Place) (r : Ordering) → ArePlaces ps → k < length ps → 1 ≤ k → corner_cmp (place_at ps (k - 1)).corner c ≡ Less
    → r ≡ corner_cmp (get_or ps k p).corner c → r ≡ Greater → (n : ℕ) → holds_at ps c n ≡ false
between ps c k p r are l some low e h n =
    let high = at_cmp ps c k p r Greater l e h in
    nowhere ps c are k n
    (λ j s. still_below ps c are (k - 1) j (omega arith) low (omega arith))
    (λ j s t. still_above ps c are k j t high s)
