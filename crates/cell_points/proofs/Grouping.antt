-- Sorted cells, grouped by their corners, one cell after the other.
use Rattle.std.proofs.Common.{◌≡◌, ◌≢◌, ℕ, ◌+◌, ◌-◌, ◌<◌, ◌≤◌, ◌^◌, ◌⊎◌, inl, inr, ⊎_elim, refl, sym, ap, ◌∙◌, subst, arith, List, [], ◌∷◌, ◌++◌, length, take, get_or, Bool, true, false, eqb, true≢false, ◌&&◌}
use Rattle.std.specs.Prelude.{ℤ, ◌||◌}
use Rattle.std.specs.List.Sorted.{IsStrictlySortedBy}
use Rattle.std.specs.Int.{bit_at}
use Rattle.std.specs.Ordering.{is_eq, ordering_then}
use Rattle.std.specs.Cmp.{tied_itself, both_ways}
use Rattle.std.specs.declared.cmp.Ordering.{Ordering}
use Rattle.std.specs.declared.cmp.Ordering.TheVariants.{Less, Equal, Greater}
use Rattle.std.proofs.lemmas.Bool.{or_cases, eqb-true, eq-eqb}
use Rattle.std.proofs.lemmas.Cmp.{lists_total, int_cmp_total}
use Rattle.std.proofs.lemmas.Nat.{or_lt, pow_below}
use Rattle.std.proofs.lemmas.Nat.Bits.{bit_at-pow_same, bit_at-pow_other, bit_at-zero}
use Rattle.std.proofs.lemmas.List.{take_more, get_or_default}
use Rattle.std.proofs.lemmas.Map.Keys.{Less-from_sorted}
use Rattle.elem_cubes.specs.Corners.{corner_cmp}
use Rattle.elem_cubes.specs.Cells.{Factor, lower_of, upper_of, axes_of, cell_of}
use Rattle.elem_cubes.specs.Order.{cell_cmp}
use Rattle.elem_cubes.specs.OrderLemmas.{tied_lists}
use Rattle.elem_cubes.specs.Laws.{cell_at}
use Rattle.elem_cubes.proofs.Members.{In, In-append, left-In, right-In}
use Rattle.cube_sets.specs.Sorted.{has}
use Rattle.cube_sets.proofs.SameSets.{same_sets}
use Rattle.cube_sets.proofs.Spreads.{has_In, In_has}
use Rattle.cube_sets.proofs.Sorting.{and_true, equal_from}
use Rattle.cell_points.specs.Masks.{turned, has_bit}
use Rattle.cell_points.specs.Places.{place_cmp, cells_of_places, rank_of, IsPlace, ArePlaces, holds_at, with_cell}
use Rattle.cell_points.specs.declared.place.Place.{Place}
use Rattle.cell_points.proofs.Ranks.{has_or, turned_few, turned_twice}
use Rattle.cell_points.proofs.Axes.{axes-lt, axes_few, length-lower, ranked_rank_of}
use Rattle.cell_points.proofs.Views.{view_In, In_view, sorted_cells}
use Rattle.cell_points.proofs.Unions.{place_total, all_right, all_append, holds-append, replaced_are}
use Rattle.cell_points.proofs.Closing.{At-holds, holds-At}

nat_other : (a b : ℕ) → (a ≡ b) ⊎ (a ≢ b)
nat_other a b = elim (eqb a b) as (λ v. eqb a b ≡ v → (a ≡ b) ⊎ (a ≢ b)) [ true ↦ λ e. inl (eqb-true a b e) | false ↦ λ f. inr (λ e. absurd (true≢false (sym (eq-eqb a b e) ∙ f))) ] refl

-- the bit of one rank
one_bit : (k r : ℕ) → has_bit (2 ^ k) r ≡ true → r ≡ k
one_bit k r h = ⊎_elim (λ e. e) (λ n. absurd (let z = bit_at-pow_other k r n in let o = eqb-true (bit_at (2 ^ k) r) 1 h in omega arith)) (nat_other r k)

own_bit : (k : ℕ) → has_bit (2 ^ k) k ≡ true
own_bit k = ap (λ x. eqb x 1) (bit_at-pow_same k)

-- the place of a cell, with a mask of its corner
pub with_cell_place : (q : List Factor) (m : ℕ) → length q ≤ 4 → m < 2 ^ 16 → ((r : ℕ) → has_bit m r ≡ true → turned r < 2 ^ length (lower_of q)) → IsPlace (with_cell q m)
with_cell_place q m l s h = record {
  short = let e = length-lower q in omega arith;
  small = or_lt 16 m (2 ^ rank_of q) s (pow_below (rank_of q) 16 (turned_few (axes_of q)));
  fits = λ r b. ⊎_elim (h r)
      (λ t. let e = one_bit (rank_of q) r t in
      let f : turned r ≡ axes_of q = ap turned e ∙ turned_twice (axes_of q) (axes_few (length q) (axes_of q) l (axes-lt q)) in
      let a : axes_of q < 2 ^ length (lower_of q) = subst (λ (n : ℕ). axes_of q < 2 ^ n) (sym (length-lower q)) (axes-lt q) in omega arith)
      (or_cases (has_bit m r) (has_bit (2 ^ rank_of q) r) (sym (has_or m (2 ^ rank_of q) r) ∙ b));
}

no_bit : (r : ℕ) → has_bit 0 r ≡ true → ⊥
no_bit r b = absurd (true≢false (sym b ∙ ap (λ x. eqb x 1) (bit_at-zero r)))

pub one_place : (q : List Factor) → length q ≤ 4 → IsPlace (with_cell q 0)
one_place q l = with_cell_place q 0 l (omega arith) (λ r b. absurd (no_bit r b))

-- the test of one cell
abbrev is_one : List Factor → List ℤ → ℕ → Bool
is_one q c r = is_eq (corner_cmp (lower_of q) c) && has_bit (2 ^ rank_of q) r

one_is : (q s : List Factor) → length q ≤ 4 → is_one q (lower_of s) (rank_of s) ≡ true → q ≡ s
one_is q s l h =
    let b = and_true (is_eq (corner_cmp (lower_of q) (lower_of s))) (has_bit (2 ^ rank_of q) (rank_of s)) h in
    let e : lower_of q ≡ lower_of s = tied_lists (lower_of q) (lower_of s) (equal_from corner_cmp (lists_total int_cmp_total) (corner_cmp (lower_of q) (lower_of s)) b.0) in
    let r : rank_of s ≡ rank_of q = one_bit (rank_of q) (rank_of s) b.1 in
    let k : length s ≤ 4 = (let x = length-lower q in let y = length-lower s in let z = ap length e in omega arith) in
    sym (ranked_rank_of q l) ∙ (λ i. cell_of (e i) (turned (sym r i))) ∙ ranked_rank_of s k

is_one_itself : (q : List Factor) → is_one q (lower_of q) (rank_of q) ≡ true
is_one_itself q = rw (tied_itself (lists_total int_cmp_total) (lower_of q), own_bit (rank_of q)) refl

-- what is grouped so far: closed groups and an open one
pub record IsGrouped (cells : List (List Factor)) (places : List Place) (group : Place) : Type 0 where
  pub are : ArePlaces (places ++ group ∷ [])
  pub from : (q : List Factor) → In (cells_of_places (places ++ group ∷ [])) q → In cells q
  pub to : (q : List Factor) → In cells q → In (cells_of_places (places ++ group ∷ [])) q

or_one : (a b : Bool) → a ≡ true → (a || b) ≡ true
or_one true b h = refl
or_one false b h = absurd (true≢false (sym h))

or_two : (a b : Bool) → b ≡ true → (a || b) ≡ true
or_two true b h = refl
or_two false b h = h

or_nothing : (a : Bool) → (a || false) ≡ a
or_nothing true = refl
or_nothing false = refl

-- one more cell in a test
grown : (cells : List (List Factor)) (old new : List Place) (q : List Factor) → length q ≤ 4 → ArePlaces old → ArePlaces new
    → ((c : List ℤ) (r : ℕ) → holds_at new c r ≡ (holds_at old c r || is_one q c r))
    → ((s : List Factor) → In (cells_of_places old) s → In cells s) → ((s : List Factor) → In cells s → In (cells_of_places old) s)
    → ((s : List Factor) → In (cells_of_places new) s → In (cells ++ q ∷ []) s) × ((s : List Factor) → In (cells ++ q ∷ []) s → In (cells_of_places new) s)
grown cells old new q l are are' kept from to = (
  λ s m. ⊎_elim
      (λ h. left-In cells (q ∷ []) s (from s (In_view old s are (At-holds old (lower_of s) (rank_of s) h))))
      (λ h. right-In cells (q ∷ []) s (inl (one_is q s l h)))
      (or_cases (holds_at old (lower_of s) (rank_of s)) (is_one q (lower_of s) (rank_of s))
      (sym (kept (lower_of s) (rank_of s)) ∙ holds-At new (lower_of s) (rank_of s) (view_In new s are' m))),
  λ s m. In_view new s are' (At-holds new (lower_of s) (rank_of s) (kept (lower_of s) (rank_of s) ∙ ⊎_elim
      (λ k. or_one (holds_at old (lower_of s) (rank_of s)) (is_one q (lower_of s) (rank_of s)) (holds-At old (lower_of s) (rank_of s) (view_In old s are (to s k))))
      (λ k. ⊎_elim
      (λ e. or_two (holds_at old (lower_of s) (rank_of s)) (is_one q (lower_of s) (rank_of s)) (ap (λ t. is_one q (lower_of t) (rank_of t)) (sym e) ∙ is_one_itself q))
      (λ z. absurd z) k)
      (In-append cells (q ∷ []) s m))),
)

join_bits : (o e a b : Bool) → (o || ((e && (a || b)) || false)) ≡ ((o || ((e && a) || false)) || (e && b))
join_bits true e a b = refl
join_bits false true true b = refl
join_bits false true false true = refl
join_bits false true false false = refl
join_bits false false a b = refl

-- the cell has the corner of the open group
pub group_joined : (cells : List (List Factor)) (places : List Place) (group : Place) (q : List Factor) → length q ≤ 4 → group.corner ≡ lower_of q → IsGrouped cells places group
    → IsGrouped (cells ++ q ∷ []) places (with_cell q group.mask)
group_joined cells places group q l e g =
    let o : IsPlace group = (all_right IsPlace places (group ∷ []) g.are.each).0 in
    let z : IsPlace (with_cell q group.mask) = with_cell_place q group.mask l o.small (λ r b. subst (λ (c : List ℤ). turned r < 2 ^ length c) e (o.fits r b)) in
    let are = replaced_are places [] group (with_cell q group.mask) (sym e) z g.are in
    let k = grown cells (places ++ group ∷ []) (places ++ with_cell q group.mask ∷ []) q l g.are are
    (λ c r. holds-append places (with_cell q group.mask ∷ []) c r
    ∙ ap (λ b. holds_at places c r || ((is_eq (corner_cmp (lower_of q) c) && b) || false)) (has_or group.mask (2 ^ rank_of q) r)
    ∙ join_bits (holds_at places c r) (is_eq (corner_cmp (lower_of q) c)) (has_bit group.mask r) (has_bit (2 ^ rank_of q) r)
    ∙ ap (λ d. (holds_at places c r || ((is_eq (corner_cmp d c) && has_bit group.mask r) || false)) || is_one q c r) (sym e)
    ∙ ap (λ b. b || is_one q c r) (sym (holds-append places (group ∷ []) c r)))
    g.from g.to in
    record { are = are; from = k.0; to = k.1 }

sorted_push : (places : List Place) (group z : Place) → IsStrictlySortedBy place_cmp (places ++ group ∷ []) → place_cmp group z ≡ Less → IsStrictlySortedBy place_cmp ((places ++ group ∷ []) ++ z ∷ [])
unfolding IsStrictlySortedBy
sorted_push [] group z h e = ((e, tt), (tt, tt))
sorted_push (p ∷ ps) group z h e =
    let P : Place → Type 0 = λ y. place_cmp p y ≡ Less in
    let o : place_cmp p group ≡ Less = (all_right P ps (group ∷ []) h.0).0 in
    (all_append P (ps ++ group ∷ []) (z ∷ []) h.0 (place_total.trans p group z o e, tt), sorted_push ps group z h.1 e)

-- the cell has a higher corner
pub group_opened : (cells : List (List Factor)) (places : List Place) (group : Place) (q : List Factor) → length q ≤ 4 → corner_cmp group.corner (lower_of q) ≡ Less → IsGrouped cells places group
    → IsGrouped (cells ++ q ∷ []) (places ++ group ∷ []) (with_cell q 0)
group_opened cells places group q l e g =
    let are : ArePlaces ((places ++ group ∷ []) ++ with_cell q 0 ∷ []) = record {
      sorted = sorted_push places group (with_cell q 0) g.are.sorted e;
      each = all_append IsPlace (places ++ group ∷ []) (with_cell q 0 ∷ []) g.are.each (one_place q l, tt);
    } in
    let k = grown cells (places ++ group ∷ []) ((places ++ group ∷ []) ++ with_cell q 0 ∷ []) q l g.are are
    (λ c r. holds-append (places ++ group ∷ []) (with_cell q 0 ∷ []) c r
    ∙ ap (λ b. holds_at (places ++ group ∷ []) c r || ((is_eq (corner_cmp (lower_of q) c) && b) || false)) (has_or 0 (2 ^ rank_of q) r ∙ ap (λ b. b || has_bit (2 ^ rank_of q) r) (ap (λ x. eqb x 1) (bit_at-zero r)))
    ∙ ap (λ b. holds_at (places ++ group ∷ []) c r || b) (or_nothing (is_one q c r)))
    g.from g.to in
    record { are = are; from = k.0; to = k.1 }

single : (p : Place) → IsStrictlySortedBy place_cmp (p ∷ [])
unfolding IsStrictlySortedBy
single p = (tt, tt)

nothing : IsStrictlySortedBy place_cmp []
unfolding IsStrictlySortedBy
nothing = tt

pub none_are : ArePlaces []
none_are = record { sorted = nothing; each = tt }

pub group_first : (q : List Factor) → length q ≤ 4 → IsGrouped (q ∷ []) [] (with_cell q 0)
group_first q l =
    let are : ArePlaces (with_cell q 0 ∷ []) = record { sorted = single (with_cell q 0); each = (one_place q l, tt) } in
    let none : ArePlaces [] = record { sorted = nothing; each = tt } in
    let k = grown [] [] (with_cell q 0 ∷ []) q l none are
    (λ c r. ap (λ b. (is_eq (corner_cmp (lower_of q) c) && b) || false) (has_or 0 (2 ^ rank_of q) r ∙ ap (λ b. b || has_bit (2 ^ rank_of q) r) (ap (λ x. eqb x 1) (bit_at-zero r))) ∙ or_nothing (is_one q c r))
    (λ s m. absurd m) (λ s m. absurd m) in
    record { are = are; from = k.0; to = k.1 }

pub grouped_all : (cells : List (List Factor)) (places : List Place) (group : Place) → IsStrictlySortedBy cell_cmp cells → IsGrouped cells places group → cells_of_places (places ++ group ∷ []) ≡ cells
grouped_all cells places group s g = same_sets (cells_of_places (places ++ group ∷ [])) cells (sorted_cells (places ++ group ∷ []) g.are) s
    (λ q. both_ways (has cell_cmp (cells_of_places (places ++ group ∷ [])) q) (has cell_cmp cells q)
    (λ h. In_has cells q (g.from q (has_In (cells_of_places (places ++ group ∷ [])) q h)))
    (λ h. In_has (cells_of_places (places ++ group ∷ [])) q (g.to q (has_In cells q h))))

abbrev is_less : Ordering → Bool
is_less Less = true
is_less Equal = false
is_less Greater = false

-- of two cells in order the corners are in order or equal
corners_of : (o r : Ordering) → ordering_then o r ≡ Less → (o ≡ Equal → ⊥) → o ≡ Less
corners_of Less r e n = refl
corners_of Equal r e n = absurd (n refl)
corners_of Greater r e n = absurd (true≢false (ap is_less (sym e)))

pub higher_corner : (cells : List (List Factor)) (c : List ℤ) (i : ℕ) → IsStrictlySortedBy cell_cmp cells → 1 ≤ i → i < length cells → c ≡ lower_of (cell_at cells (i - 1))
    → (corner_cmp c (lower_of (cell_at cells i)) ≡ Equal → ⊥) → corner_cmp c (lower_of (cell_at cells i)) ≡ Less
higher_corner cells c i s l k e n =
    let less : cell_cmp (cell_at cells (i - 1)) (cell_at cells i) ≡ Less = Less-from_sorted cell_cmp cells (i - 1) i [] s (omega arith) k in
    ap (λ d. corner_cmp d (lower_of (cell_at cells i))) e
    ∙ corners_of (corner_cmp (lower_of (cell_at cells (i - 1))) (lower_of (cell_at cells i))) (corner_cmp (upper_of (cell_at cells (i - 1))) (upper_of (cell_at cells i))) less
    (λ h. n (ap (λ d. corner_cmp d (lower_of (cell_at cells i))) e ∙ h))

-- ---- the same at a place of the cells

one_taken : (cells : List (List Factor)) (i : ℕ) (q : List Factor) → i < length cells → q ≡ get_or cells i q → take (i + 1) cells ≡ take i cells ++ q ∷ []
one_taken cells i q l e = take_more cells i q l ∙ ap (λ s. take i cells ++ s ∷ []) (sym e)

at_place : (cells : List (List Factor)) (i : ℕ) (q : List Factor) → i < length cells → q ≡ get_or cells i q → q ≡ cell_at cells i
at_place cells i q l e = e ∙ get_or_default cells i q [] l

last_corner : (cells : List (List Factor)) (i : ℕ) (q : List Factor) (group : Place) → i < length cells → q ≡ get_or cells i q → group.corner ≡ lower_of q → group.corner ≡ lower_of (cell_at cells (i + 1 - 1))
last_corner cells i q group l e h = h ∙ ap lower_of (at_place cells i q l e) ∙ ap (λ j. lower_of (cell_at cells j)) (let s : i ≡ i + 1 - 1 = omega arith in s)

module _ (cells : List (List Factor)) (i : ℕ) (q : List Factor) (places : List Place) (group next : Place) (l : i < length cells) (e : q ≡ get_or cells i q) (few : length q ≤ 4) (g : IsGrouped (take i cells) places group) where
  pub step_joined : corner_cmp group.corner (lower_of q) ≡ Equal → next ≡ with_cell q group.mask → IsGrouped (take (i + 1) cells) places next × (next.corner ≡ lower_of (cell_at cells (i + 1 - 1)))
  step_joined o n = (
    subst (λ (z : Place). IsGrouped (take (i + 1) cells) places z) (sym n)
        (subst (λ (qs : List (List Factor)). IsGrouped qs places (with_cell q group.mask)) (sym (one_taken cells i q l e))
        (group_joined (take i cells) places group q few (tied_lists group.corner (lower_of q) o) g)),
    last_corner cells i q next l e (ap (λ (z : Place). z.corner) n),
  )

  pub step_opened : IsStrictlySortedBy cell_cmp cells → 1 ≤ i → group.corner ≡ lower_of (cell_at cells (i - 1)) → (corner_cmp group.corner (lower_of q) ≡ Equal → ⊥) → next ≡ with_cell q 0
      → IsGrouped (take (i + 1) cells) (places ++ group ∷ []) next × (next.corner ≡ lower_of (cell_at cells (i + 1 - 1)))
  step_opened s some last o n =
      let at = at_place cells i q l e in
      let less : corner_cmp group.corner (lower_of q) ≡ Less = ap (λ t. corner_cmp group.corner (lower_of t)) at
      ∙ higher_corner cells group.corner i s some l last (λ h. o (ap (λ t. corner_cmp group.corner (lower_of t)) at ∙ h)) in (
        subst (λ (z : Place). IsGrouped (take (i + 1) cells) (places ++ group ∷ []) z) (sym n)
            (subst (λ (qs : List (List Factor)). IsGrouped qs (places ++ group ∷ []) (with_cell q 0)) (sym (one_taken cells i q l e))
            (group_opened (take i cells) places group q few less g)),
        last_corner cells i q next l e (ap (λ (z : Place). z.corner) n),
      )

pub step_first : (cells : List (List Factor)) (q : List Factor) (group : Place) → 0 < length cells → q ≡ get_or cells 0 q → length q ≤ 4 → group ≡ with_cell q 0
    → IsGrouped (take 1 cells) [] group × (group.corner ≡ lower_of (cell_at cells 0))
step_first cells q group l e few n = (
  subst (λ (z : Place). IsGrouped (take 1 cells) [] z) (sym n)
      (subst (λ (qs : List (List Factor)). IsGrouped qs [] (with_cell q 0)) (sym (one_taken cells 0 q l e)) (group_first q few)),
  ap (λ (z : Place). z.corner) n ∙ ap lower_of (at_place cells 0 q l e),
)

pub some_cells : {X : Type 0} (xs : List X) → eqb (length xs) 0 ≡ false → 0 < length xs
some_cells [] e = absurd (true≢false e)
some_cells (x ∷ xs) e = omega arith
