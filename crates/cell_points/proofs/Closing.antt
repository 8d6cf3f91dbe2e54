-- The cells of places and their ends along an axis, as places.
use Rattle.std.proofs.Common.{◌≡◌, ◌≢◌, ℕ, zero, suc, ◌+◌, ◌<◌, ◌≤◌, ◌^◌, ◌/◌, ◌%◌, inl, inr, ⊎_elim, refl, sym, ap, ◌∙◌, subst, arith, List, [], ◌∷◌, ◌++◌, length, map, get_or, Bool, true, false, eqb, ◌&&◌, true≢false}
use Rattle.std.specs.Prelude.{if◌then◌else◌, nat_le, ℤ, pos, ◌+ℤ◌, ◌<ℤ◌, bit_or, bit_and, ◌||◌, IsTrue}
use Rattle.std.specs.List.{list_all, AllByRecursion}
use Rattle.std.specs.List.Sorted.{IsStrictlySortedBy}
use Rattle.std.specs.Ordering.{is_eq, int_cmp, ordering_then}
use Rattle.std.specs.Cmp.{int_cmp_is, tied_itself}
use Rattle.std.specs.declared.cmp.Ordering.TheVariants.{Less, Equal, Greater}
use Rattle.std.proofs.lemmas.Cmp.{lists_total, int_cmp_total, int_ranked, by_ranked}
use Rattle.std.proofs.lemmas.Bool.{or_cases, cases_lt, cond_both, eqb-true, eq-eqb}
use Rattle.std.proofs.lemmas.Int.{ints}
use Rattle.std.proofs.Math.Nat.{div-le_self, pow-suc}
use Rattle.std.proofs.lemmas.Bool.Decides.{nat_tests}
use Rattle.std.proofs.lemmas.List.{length-set}
use Rattle.std.proofs.lemmas.Nat.{or_lt, and_le_l}
use Rattle.elem_cubes.specs.Corners.{corner_cmp}
use Rattle.elem_cubes.specs.Cells.{Factor, point, interval, low, is_factor, is_file_factor, is_cell, is_wide, lower_of, axes_of, cell_of}
use Rattle.elem_cubes.specs.KeepingLemmas.{lower-cell_of, length-cell_of}
use Rattle.std.proofs.lemmas.Nat.Bits.{bit_at-zero}
use Rattle.elem_cubes.specs.OrderLemmas.{tied_lists}
use Rattle.elem_cubes.specs.Walks.{factor_at}
use Rattle.elem_cubes.proofs.Members.{In, In-map, map-In, In-flat, flat-In}
use Rattle.cube_sets.proofs.Sorting.{and_true, equal_from}
use Rattle.cube_sets.proofs.Merging.{IsBelow}
use Rattle.cell_points.specs.Masks.{turned, has_bit, wide_along, fall_along, narrowed}
use Rattle.cell_points.specs.Places.{place_cmp, cells_at, cells_of_places, rank_of, IsPlace, ArePlaces, lowered, raised, raised_all, up_along, holds_at, CanRise}
use Rattle.cell_points.specs.declared.place.Place.{Place}
use Rattle.cell_points.proofs.Ranks.{has_or, has_narrowed, turned_few, bit_within, some_bit}
use Rattle.cell_points.proofs.Axes.{with_end, lower_end, upper_end, is_wide_there, wide_of, wide_falls, wide_within, length-lower, rank_of_ranked, ranked_rank_of, fits_fallen}
use Rattle.cell_points.proofs.Spreading.{IsStep}
use Rattle.cell_points.proofs.Views.{At, all_at, all_from, view_In, In_view, ranked_In}

-- ---- the test of a place, and the place

pub At-holds : (ps : List Place) (c : List ℤ) (r : ℕ) → holds_at ps c r ≡ true → At ps c r
At-holds [] c r h = absurd (true≢false (sym h))
At-holds (p ∷ ps) c r h = ⊎_elim
    (λ t. let b = and_true (is_eq (corner_cmp p.corner c)) (has_bit p.mask r) t in
    (p, inl refl, tied_lists p.corner c (equal_from corner_cmp (lists_total int_cmp_total) (corner_cmp p.corner c) b.0), b.1))
    (λ t. let w = At-holds ps c r t in (w.0, inr w.1, w.2, w.3))
    (or_cases (is_eq (corner_cmp p.corner c) && has_bit p.mask r) (holds_at ps c r) h)

or_first : (a b : Bool) → a ≡ true → (a || b) ≡ true
or_first true b h = refl
or_first false b h = absurd (true≢false (sym h))

or_second : (a b : Bool) → b ≡ true → (a || b) ≡ true
or_second true b h = refl
or_second false b h = h

both_hold : (a b : Bool) → a ≡ true → b ≡ true → (a && b) ≡ true
both_hold a b h k = rw (h, k) refl

holds_here : (ps : List Place) (p : Place) (r : ℕ) → In ps p → has_bit p.mask r ≡ true → holds_at ps p.corner r ≡ true
holds_here [] p r m b = absurd m
holds_here (q ∷ ps) p r (inl e) b = or_first (is_eq (corner_cmp q.corner p.corner) && has_bit q.mask r) (holds_at ps p.corner r)
    (both_hold (is_eq (corner_cmp q.corner p.corner)) (has_bit q.mask r)
    (ap (λ (x : Place). is_eq (corner_cmp x.corner p.corner)) e ∙ ap is_eq (tied_itself (lists_total int_cmp_total) p.corner))
    (ap (λ (x : Place). has_bit x.mask r) e ∙ b))
holds_here (q ∷ ps) p r (inr m) b = or_second (is_eq (corner_cmp q.corner p.corner) && has_bit q.mask r) (holds_at ps p.corner r) (holds_here ps p r m b)

pub holds-At : (ps : List Place) (c : List ℤ) (r : ℕ) → At ps c r → holds_at ps c r ≡ true
holds-At ps c r w = ap (λ d. holds_at ps d r) (sym w.2) ∙ holds_here ps w.0 r w.1 w.3

not_none : (m : ℕ) → eqb m 0 ≡ false → m ≢ 0
not_none m f e = absurd (true≢false (sym (eq-eqb m 0 e) ∙ f))

pub some_rank : (m r : ℕ) → has_bit m r ≡ true → m ≢ 0
some_rank m r b e = absurd (true≢false (sym b ∙ ap (λ n. has_bit n r) e ∙ ap (λ x. eqb x 1) (bit_at-zero r)))

-- ---- the places that are made along an axis

module _ (axis : ℕ) (l : axis < 4) where
  narrowed_bit : (m r : ℕ) → has_bit (narrowed axis m) r ≡ true → (has_bit m (fall_along axis + r) ≡ true) × (has_bit (wide_along axis) (fall_along axis + r) ≡ true)
  narrowed_bit m r h = and_true (has_bit m (fall_along axis + r)) (has_bit (wide_along axis) (fall_along axis + r)) (sym (has_narrowed axis m r) ∙ h)

  narrowed_few : (m : ℕ) → m < 2 ^ 16 → narrowed axis m < 2 ^ 16
  narrowed_few m h = let a = and_le_l m (wide_along axis) in let d = div-le_self (bit_and m (wide_along axis)) (2 ^ fall_along axis) in omega arith

  narrowed_fits : (p : Place) → IsPlace p → (r : ℕ) → has_bit (narrowed axis p.mask) r ≡ true → turned r < 2 ^ length p.corner
  narrowed_fits p h r b =
      let n = narrowed_bit p.mask r b in
      let f = fits_fallen axis r l (bit_within 16 (narrowed axis p.mask) r (narrowed_few p.mask h.small) b) n.1 in
      let k = h.fits (fall_along axis + r) n.0 in
      omega arith

  lowered_place : (p : Place) → IsPlace p → IsPlace (lowered axis p)
  lowered_place p h = record {
    short = h.short;
    small = or_lt 16 p.mask (narrowed axis p.mask) h.small (narrowed_few p.mask h.small);
    fits = λ r b. ⊎_elim (h.fits r) (narrowed_fits p h r) (or_cases (has_bit p.mask r) (has_bit (narrowed axis p.mask) r) (sym (has_or p.mask (narrowed axis p.mask) r) ∙ b));
  }

  below_lowered : (p : Place) (ps : List Place) → IsBelow place_cmp p ps → IsBelow place_cmp (lowered axis p) (map (lowered axis) ps)
  below_lowered p [] h = tt
  below_lowered p (q ∷ ps) h = (h.0, below_lowered p ps h.1)

  sorted_lowered : (ps : List Place) → IsStrictlySortedBy place_cmp ps → IsStrictlySortedBy place_cmp (map (lowered axis) ps)
  unfolding IsStrictlySortedBy
  sorted_lowered [] h = tt
  sorted_lowered (p ∷ ps) h = (below_lowered p ps h.0, sorted_lowered ps h.1)

  each_lowered : (ps : List Place) → AllByRecursion IsPlace ps → AllByRecursion IsPlace (map (lowered axis) ps)
  each_lowered [] h = tt
  each_lowered (p ∷ ps) h = (lowered_place p h.0, each_lowered ps h.1)

  pub lowered_are : (ps : List Place) → ArePlaces ps → ArePlaces (map (lowered axis) ps)
  lowered_are ps h = record { sorted = sorted_lowered ps h.sorted; each = each_lowered ps h.each }

  -- ---- one step up

  raised_place : (p : Place) → IsPlace p → IsPlace (record { corner = up_along axis p.corner; mask = narrowed axis p.mask })
  raised_place p h = record {
    short = let s = h.short in let k = length-set p.corner axis (get_or p.corner axis (pos 0) +ℤ pos 1) in omega arith;
    small = narrowed_few p.mask h.small;
    fits = λ r b. let f = narrowed_fits p h r b in subst (λ (n : ℕ). turned r < 2 ^ n) (sym (length-set p.corner axis (get_or p.corner axis (pos 0) +ℤ pos 1))) f;
  }

  each_raised : (ps : List Place) → AllByRecursion IsPlace ps → AllByRecursion IsPlace (raised_all axis ps)
  each_raised [] h = tt
  each_raised (p ∷ ps) h = cond_both (eqb (narrowed axis p.mask) 0) [] (record { corner = up_along axis p.corner; mask = narrowed axis p.mask } ∷ [])
      (λ qs. AllByRecursion IsPlace (qs ++ raised_all axis ps)) (λ _. each_raised ps h.1) (λ _. (raised_place p h.0, each_raised ps h.1))

  shift_cmp : (a b z : ℤ) → int_cmp (a +ℤ z) (b +ℤ z) ≡ int_cmp a b
  shift_cmp a b z = by_ranked (a <ℤ b) (a ≡ b) (b <ℤ a) (int_cmp a b) (int_ranked a b (int_cmp a b) refl)
      (λ e p. sym (int_cmp_is (a +ℤ z) (b +ℤ z) Less (omega (arith, ints))) ∙ sym e)
      (λ e p. sym (int_cmp_is (a +ℤ z) (b +ℤ z) Equal (ap (λ x. x +ℤ z) p)) ∙ sym e)
      (λ e p. sym (int_cmp_is (a +ℤ z) (b +ℤ z) Greater (omega (arith, ints))) ∙ sym e)

  up_cmp : (n : ℕ) (c d : List ℤ) → n < length c → n < length d → corner_cmp (up_along n c) (up_along n d) ≡ corner_cmp c d
  up_cmp n [] d h k = absurd (omega arith)
  up_cmp n (a ∷ c) [] h k = absurd (omega arith)
  up_cmp zero (a ∷ c) (b ∷ d) h k = ap (λ o. ordering_then o (corner_cmp c d)) (shift_cmp a b (pos 1))
  up_cmp (suc n) (a ∷ c) (b ∷ d) h k = ap (ordering_then (int_cmp a b)) (up_cmp n c d (omega arith) (omega arith))

  -- each corner has the axis
  abbrev Reaches : List Place → Type 0
  Reaches ps = AllByRecursion (λ (p : Place). narrowed axis p.mask ≢ 0 → axis < length p.corner) ps

  below_raised : (p : Place) (ps : List Place) (m : ℕ) → axis < length p.corner → Reaches ps → IsBelow place_cmp p ps → IsBelow place_cmp (record { corner = up_along axis p.corner; mask = m }) (raised_all axis ps)
  below_raised p [] m h k b = tt
  below_raised p (q ∷ ps) m h k b = cond_both (eqb (narrowed axis q.mask) 0) [] (record { corner = up_along axis q.corner; mask = narrowed axis q.mask } ∷ [])
      (λ qs. IsBelow place_cmp (record { corner = up_along axis p.corner; mask = m }) (qs ++ raised_all axis ps))
      (λ _. below_raised p ps m h k.1 b.1) (λ f. (up_cmp axis p.corner q.corner h (k.0 (not_none (narrowed axis q.mask) f)) ∙ b.0, below_raised p ps m h k.1 b.1))

  sorted_raised : (ps : List Place) → Reaches ps → IsStrictlySortedBy place_cmp ps → IsStrictlySortedBy place_cmp (raised_all axis ps)
  unfolding IsStrictlySortedBy
  sorted_raised [] k h = tt
  sorted_raised (p ∷ ps) k h = cond_both (eqb (narrowed axis p.mask) 0) [] (record { corner = up_along axis p.corner; mask = narrowed axis p.mask } ∷ [])
      (λ qs. IsStrictlySortedBy place_cmp (qs ++ raised_all axis ps))
      (λ _. sorted_raised ps k.1 h.1) (λ f. (below_raised p ps (narrowed axis p.mask) (k.0 (not_none (narrowed axis p.mask) f)) k.1 h.0, sorted_raised ps k.1 h.1))

  pub raised_are : (ps : List Place) → Reaches ps → ArePlaces ps → ArePlaces (raised_all axis ps)
  raised_are ps k h = record { sorted = sorted_raised ps k h.sorted; each = each_raised ps h.each }

  -- ---- the cells of both are the cells and their ends

  module _ (ps all : List Place) (are : ArePlaces ps) (reach : Reaches ps) (all_are : ArePlaces all)
      (kept : (c : List ℤ) (r : ℕ) → holds_at all c r ≡ (holds_at (map (lowered axis) ps) c r || holds_at (raised_all axis ps) c r)) where
    place_of : (p : Place) → In ps p → IsPlace p
    place_of p m = all_at IsPlace ps p are.each m

    reach_at : (p : Place) (r : ℕ) → In ps p → has_bit (narrowed axis p.mask) r ≡ true → axis < length p.corner
    reach_at p r m b = all_at (λ (p : Place). narrowed axis p.mask ≢ 0 → axis < length p.corner) ps p reach m (some_rank (narrowed axis p.mask) r b)

    -- the cell of a rank that falls
    fallen_In : (p : Place) (r : ℕ) → In ps p → has_bit (narrowed axis p.mask) r ≡ true → In (cells_of_places ps) (cell_of p.corner (turned (fall_along axis + r)))
    fallen_In p r m b = flat-In cells_at ps p (cell_of p.corner (turned (fall_along axis + r))) m (ranked_In p (fall_along axis + r) (place_of p m) (narrowed_bit p.mask r b).0)

    rank_few : (p : Place) (r : ℕ) → In ps p → has_bit (narrowed axis p.mask) r ≡ true → r < 16
    rank_few p r m b = bit_within 16 (narrowed axis p.mask) r (narrowed_few p.mask (place_of p m).small) b

    short : (q : List Factor) (p : Place) → In ps p → length (lower_of q) ≡ length p.corner → length q ≤ 4
    short q p m e = let s = (place_of p m).short in let k = length-lower q in omega arith

    step_low : (q : List Factor) → At (map (lowered axis) ps) (lower_of q) (rank_of q) → (t : List Factor) × In (cells_of_places ps) t × IsStep axis t q
    step_low q w =
        let v = In-map (lowered axis) ps w.0 w.1 in
        let p : Place = v.0 in
        let at : p.corner ≡ lower_of q = ap (λ (x : Place). x.corner) v.2 ∙ w.2 in
        let b : has_bit (bit_or p.mask (narrowed axis p.mask)) (rank_of q) ≡ true = ap (λ (x : Place). has_bit x.mask (rank_of q)) v.2 ∙ w.3 in
        ⊎_elim
        (λ t. (q, In_view ps q are (p, v.1, at, t), inl refl))
        (λ t.
        let n = narrowed_bit p.mask (rank_of q) t in
        let s = short q p v.1 (sym (ap length at)) in (
          cell_of p.corner (turned (fall_along axis + rank_of q)),
          fallen_In p (rank_of q) v.1 t,
          inr (
            is_wide_there axis (rank_of q) p.corner l (rank_few p (rank_of q) v.1 t) (reach_at p (rank_of q) v.1 t) ((place_of p v.1).short) n.1,
            inl (lower_end axis (rank_of q) p.corner l (rank_few p (rank_of q) v.1 t) (reach_at p (rank_of q) v.1 t) ((place_of p v.1).short) n.1
                ∙ ap (λ c. cell_of c (turned (rank_of q))) at ∙ ranked_rank_of q s),
          ),
        ))
        (or_cases (has_bit p.mask (rank_of q)) (has_bit (narrowed axis p.mask) (rank_of q)) (sym (has_or p.mask (narrowed axis p.mask) (rank_of q)) ∙ b))

    raised_one : (p z : Place) → In (raised axis p) z → (up_along axis p.corner ≡ z.corner) × (narrowed axis p.mask ≡ z.mask)
    raised_one p z m = cond_both (eqb (narrowed axis p.mask) 0) [] (record { corner = up_along axis p.corner; mask = narrowed axis p.mask } ∷ [])
        (λ qs. In qs z → (up_along axis p.corner ≡ z.corner) × (narrowed axis p.mask ≡ z.mask))
        (λ _ k. absurd k)
        (λ _ k. ⊎_elim (λ e. (ap (λ (x : Place). x.corner) e, ap (λ (x : Place). x.mask) e)) (λ k. absurd k) k) m

    step_up : (q : List Factor) → At (raised_all axis ps) (lower_of q) (rank_of q) → (t : List Factor) × In (cells_of_places ps) t × IsStep axis t q
    step_up q w =
        let v = In-flat (raised axis) ps w.0 w.1 in
        let p : Place = v.0 in
        let z = raised_one p w.0 v.2 in
        let at : up_along axis p.corner ≡ lower_of q = z.0 ∙ w.2 in
        let t : has_bit (narrowed axis p.mask) (rank_of q) ≡ true = ap (λ m. has_bit m (rank_of q)) z.1 ∙ w.3 in
        let n = narrowed_bit p.mask (rank_of q) t in
        let s = short q p v.1 (sym (ap length at) ∙ length-set p.corner axis (get_or p.corner axis (pos 0) +ℤ pos 1)) in
        let h = reach_at p (rank_of q) v.1 t in (
          cell_of p.corner (turned (fall_along axis + rank_of q)),
          fallen_In p (rank_of q) v.1 t,
          inr (
            is_wide_there axis (rank_of q) p.corner l (rank_few p (rank_of q) v.1 t) h ((place_of p v.1).short) n.1,
            inr (upper_end axis (rank_of q) p.corner l (rank_few p (rank_of q) v.1 t) h ((place_of p v.1).short) n.1
                ∙ ap (λ c. cell_of c (turned (rank_of q))) at ∙ ranked_rank_of q s),
          ),
        )

    pub step_from : (q : List Factor) → In (cells_of_places all) q → (t : List Factor) × In (cells_of_places ps) t × IsStep axis t q
    step_from q m =
        let w = view_In all q all_are m in
        ⊎_elim
        (λ h. step_low q (At-holds (map (lowered axis) ps) (lower_of q) (rank_of q) h))
        (λ h. step_up q (At-holds (raised_all axis ps) (lower_of q) (rank_of q) h))
        (or_cases (holds_at (map (lowered axis) ps) (lower_of q) (rank_of q)) (holds_at (raised_all axis ps) (lower_of q) (rank_of q))
        (sym (kept (lower_of q) (rank_of q)) ∙ holds-At all (lower_of q) (rank_of q) w))

    all_low : (q : List Factor) → At (map (lowered axis) ps) (lower_of q) (rank_of q) → In (cells_of_places all) q
    all_low q w = In_view all q all_are (At-holds all (lower_of q) (rank_of q) (kept (lower_of q) (rank_of q)
        ∙ or_first (holds_at (map (lowered axis) ps) (lower_of q) (rank_of q)) (holds_at (raised_all axis ps) (lower_of q) (rank_of q)) (holds-At (map (lowered axis) ps) (lower_of q) (rank_of q) w)))

    all_up : (q : List Factor) → At (raised_all axis ps) (lower_of q) (rank_of q) → In (cells_of_places all) q
    all_up q w = In_view all q all_are (At-holds all (lower_of q) (rank_of q) (kept (lower_of q) (rank_of q)
        ∙ or_second (holds_at (map (lowered axis) ps) (lower_of q) (rank_of q)) (holds_at (raised_all axis ps) (lower_of q) (rank_of q)) (holds-At (raised_all axis ps) (lower_of q) (rank_of q) w)))

    -- what falls of a cell with an interval along the axis
    record Fallen (t : List Factor) : Type 0 where
      place : Place
      there : In ps place
      corner : place.corner ≡ lower_of t
      rank : ℕ
      few : rank < 16
      bit : has_bit (narrowed axis place.mask) rank ≡ true
      wide : has_bit (wide_along axis) (fall_along axis + rank) ≡ true
      is : t ≡ cell_of place.corner (turned (fall_along axis + rank))

    fallen : (t : List Factor) → In (cells_of_places ps) t → is_wide (factor_at t axis) ≡ true → Fallen t
    fallen t m w =
        let v = view_In ps t are m in
        let p : Place = v.0 in
        let s : length t ≤ 4 = short t p v.1 (sym (ap length v.2)) in
        let is : cell_of p.corner (turned (rank_of t)) ≡ t = ap (λ c. cell_of c (turned (rank_of t))) v.2 ∙ ranked_rank_of t s in
        let f = wide_falls axis (rank_of t) p.corner l (turned_few (axes_of t)) (let i = wide_within t axis w in let j = length-lower t in let k = ap length v.2 in omega arith) (ap (λ q. is_wide (factor_at q axis)) is ∙ w) in
        let k : rank_of t < 16 = turned_few (axes_of t) in
        let b : has_bit p.mask (fall_along axis + f.0) ≡ true = ap (has_bit p.mask) (sym f.1) ∙ v.3 in
        record {
          place = p;
          there = v.1;
          corner = v.2;
          rank = f.0;
          few = omega (arith, f.1);
          bit = has_narrowed axis p.mask f.0 ∙ both_hold (has_bit p.mask (fall_along axis + f.0)) (has_bit (wide_along axis) (fall_along axis + f.0)) b f.2;
          wide = f.2;
          is = sym is ∙ ap (λ r. cell_of p.corner (turned r)) f.1;
        }

    low_end_In : (t : List Factor) → Fallen t → In (cells_of_places all) (with_end axis (pos 0) t)
    low_end_In t f =
        let p = f.place in
        let h = reach_at p f.rank f.there f.bit in
        let e : with_end axis (pos 0) t ≡ cell_of p.corner (turned f.rank) = ap (with_end axis (pos 0)) f.is ∙ lower_end axis f.rank p.corner l f.few h ((place_of p f.there).short) f.wide in
        let fits = narrowed_fits p (place_of p f.there) f.rank f.bit in
        subst (λ (q : List Factor). In (cells_of_places all) q) (sym e)
        (all_low (cell_of p.corner (turned f.rank)) (
          lowered axis p,
          map-In (lowered axis) ps p f.there,
          sym (lower-cell_of p.corner (turned f.rank)),
          ap (has_bit (bit_or p.mask (narrowed axis p.mask))) (rank_of_ranked p.corner f.rank f.few fits)
              ∙ has_or p.mask (narrowed axis p.mask) f.rank ∙ or_second (has_bit p.mask f.rank) (has_bit (narrowed axis p.mask) f.rank) f.bit,
        ))

    raised_In : (p : Place) (r : ℕ) → has_bit (narrowed axis p.mask) r ≡ true → In (raised axis p) (record { corner = up_along axis p.corner; mask = narrowed axis p.mask })
    raised_In p r b = cond_both (eqb (narrowed axis p.mask) 0) [] (record { corner = up_along axis p.corner; mask = narrowed axis p.mask } ∷ [])
        (λ qs. In qs (record { corner = up_along axis p.corner; mask = narrowed axis p.mask }))
        (λ z. absurd (true≢false (sym b ∙ ap (λ m. has_bit m r) (eqb-true (narrowed axis p.mask) 0 z) ∙ ap (λ x. eqb x 1) (bit_at-zero r))))
        (λ _. inl refl)

    up_end_In : (t : List Factor) → Fallen t → In (cells_of_places all) (with_end axis (pos 1) t)
    up_end_In t f =
        let p = f.place in
        let z : Place = record { corner = up_along axis p.corner; mask = narrowed axis p.mask } in
        let h = reach_at p f.rank f.there f.bit in
        let e : with_end axis (pos 1) t ≡ cell_of (up_along axis p.corner) (turned f.rank) = ap (with_end axis (pos 1)) f.is ∙ upper_end axis f.rank p.corner l f.few h ((place_of p f.there).short) f.wide in
        let fits = (raised_place p (place_of p f.there)).fits f.rank f.bit in
        subst (λ (q : List Factor). In (cells_of_places all) q) (sym e)
        (all_up (cell_of (up_along axis p.corner) (turned f.rank)) (
          z,
          flat-In (raised axis) ps p z f.there (raised_In p f.rank f.bit),
          sym (lower-cell_of (up_along axis p.corner) (turned f.rank)),
          ap (has_bit (narrowed axis p.mask)) (rank_of_ranked (up_along axis p.corner) f.rank f.few fits) ∙ f.bit,
        ))

    pub step_to : (t q : List Factor) → In (cells_of_places ps) t → IsStep axis t q → In (cells_of_places all) q
    step_to t q m (inl e) =
        let v = view_In ps t are m in
        subst (λ (q : List Factor). In (cells_of_places all) q) e
        (all_low t (
          lowered axis v.0,
          map-In (lowered axis) ps v.0 v.1,
          v.2,
          has_or v.0.mask (narrowed axis v.0.mask) (rank_of t) ∙ or_first (has_bit v.0.mask (rank_of t)) (has_bit (narrowed axis v.0.mask) (rank_of t)) v.3,
        ))
    step_to t q m (inr (w, inl e)) = subst (λ (q : List Factor). In (cells_of_places all) q) e (low_end_In t (fallen t m w))
    step_to t q m (inr (w, inr e)) = subst (λ (q : List Factor). In (cells_of_places all) q) e (up_end_In t (fallen t m w))

-- ---- what can be raised

file_point : (l : ℤ) → is_file_factor (point l) ≡ true → is_factor (point l) ≡ true
file_point l h = grind (arith, ints)

file_low : (l : ℤ) → is_file_factor (interval l) ≡ true → is_factor (point l) ≡ true
file_low l h = grind (arith, ints)

file_interval : (l : ℤ) → is_file_factor (interval l) ≡ true → is_factor (interval l) ≡ true
file_interval l h = grind (arith, ints)

pub file_factor : (f : Factor) → is_file_factor f ≡ true → is_factor f ≡ true
file_factor (point l) h = file_point l h
file_factor (interval l) h = file_interval l h

file_end_point : (f : Factor) → is_file_factor f ≡ true → is_factor (point (low f)) ≡ true
file_end_point (point l) h = file_point l h
file_end_point (interval l) h = file_low l h

pub file_factors : (q : List Factor) → list_all is_file_factor q ≡ true → list_all is_factor q ≡ true
file_factors [] h = refl
file_factors (f ∷ fs) h =
    let b = and_true (is_file_factor f) (list_all is_file_factor fs) h in
    both_hold (is_factor f) (list_all is_factor fs) (file_factor f b.0) (file_factors fs b.1)

ends_in_range : (q : List Factor) → list_all is_file_factor q ≡ true → list_all is_factor (cell_of (lower_of q) 0) ≡ true
ends_in_range [] h = refl
ends_in_range (f ∷ fs) h =
    let b = and_true (is_file_factor f) (list_all is_file_factor fs) h in
    both_hold (is_factor (point (low f))) (list_all is_factor (cell_of (lower_of fs) 0)) (file_end_point f b.0) (ends_in_range fs b.1)

edge_in_range : (q : List Factor) (n : ℕ) → list_all is_file_factor q ≡ true → is_wide (factor_at q n) ≡ true → list_all is_factor (cell_of (lower_of q) (2 ^ n)) ≡ true
edge_in_range [] n h w = refl
edge_in_range (point l ∷ fs) zero h w = absurd (true≢false (sym w))
edge_in_range (interval l ∷ fs) zero h w =
    let b = and_true (is_file_factor (interval l)) (list_all is_file_factor fs) h in
    both_hold (is_factor (interval l)) (list_all is_factor (cell_of (lower_of fs) 0)) (file_interval l b.0) (ends_in_range fs b.1)
edge_in_range (f ∷ fs) (suc n) h w =
    let b = and_true (is_file_factor f) (list_all is_file_factor fs) h in
    let e : 2 ^ suc n % 2 ≡ 0 = omega (arith, pow-suc 2 n) in
    let d : 2 ^ suc n / 2 ≡ 2 ^ n = omega (arith, pow-suc 2 n) in
    ap (λ a. list_all is_factor ((if eqb a 1 then interval (low f) else point (low f)) ∷ cell_of (lower_of fs) (2 ^ suc n / 2))) e
    ∙ ap (λ a. is_factor (point (low f)) && list_all is_factor (cell_of (lower_of fs) a)) d
    ∙ both_hold (is_factor (point (low f))) (list_all is_factor (cell_of (lower_of fs) (2 ^ n))) (file_end_point f b.0) (edge_in_range fs n b.1 w)

length_test : (c : List ℤ) → 1 ≤ length c → length c ≤ 4 → (nat_le 1 (length c) && nat_le (length c) 4) ≡ true
length_test c h k = grind (arith, nat_tests)

pub cell_in_range : (c : List ℤ) (a : ℕ) → 1 ≤ length c → length c ≤ 4 → list_all is_factor (cell_of c a) ≡ true → IsTrue (is_cell (cell_of c a))
cell_in_range c a h k r =
    let e = length-cell_of c a in
    let l : (nat_le 1 (length (cell_of c a)) && nat_le (length (cell_of c a)) 4) ≡ true = ap (λ n. nat_le 1 n && nat_le n 4) e ∙ length_test c h k in
    rw (l, r) refl

positive : (m : ℕ) → m ≢ 0 → 0 < m
positive m n = ⊎_elim (λ lt. lt) (λ le. absurd (n (let e : m ≡ 0 = omega arith in e))) (cases_lt 0 m)

pub can_rise : (axis : ℕ) (l : axis < 4) (ps : List Place) → ArePlaces ps → ((q : List Factor) → In (cells_of_places ps) q → list_all is_file_factor q ≡ true) → AllByRecursion (CanRise axis) ps
can_rise axis l ps are range = all_from (CanRise axis) ps (λ p m n.
    let h : IsPlace p = all_at IsPlace ps p are.each m in
    let z : 0 < narrowed axis p.mask = positive (narrowed axis p.mask) n in
    let w = some_bit 16 (narrowed axis p.mask) (narrowed_few axis l p.mask h.small) z in
    let b = narrowed_bit axis l p.mask w.0 w.1 in
    let t = cell_of p.corner (turned (fall_along axis + w.0)) in
    let few = bit_within 16 (narrowed axis p.mask) w.0 (narrowed_few axis l p.mask h.small) w.1 in
    let low : lower_of t ≡ p.corner = lower-cell_of p.corner (turned (fall_along axis + w.0)) in
    let fits = h.fits (fall_along axis + w.0) b.0 in
    let wide = wide_of axis w.0 p.corner l few fits b.1 in
    let reach : axis < length p.corner = (let i = wide_within t axis wide in let j = length-cell_of p.corner (turned (fall_along axis + w.0)) in omega arith) in
    let r = edge_in_range t axis (range t (flat-In cells_at ps p t m (ranked_In p (fall_along axis + w.0) h b.0))) wide in
    (reach, cell_in_range p.corner (2 ^ axis) (omega (arith, reach)) h.short (ap (λ c. list_all is_factor (cell_of c (2 ^ axis))) (sym low) ∙ r)))

pub reaches : (axis : ℕ) (ps : List Place) → AllByRecursion (CanRise axis) ps → AllByRecursion (λ (p : Place). narrowed axis p.mask ≢ 0 → axis < length p.corner) ps
reaches axis [] h = tt
reaches axis (p ∷ ps) h = (λ n. (h.0 n).0, reaches axis ps h.1)
