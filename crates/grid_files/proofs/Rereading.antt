-- A written set is read again.
use Rattle.std.proofs.Common.{◌≡◌, ℕ, zero, suc, ◌+◌, ◌≤◌, max, ℤ, pos, ◌+ℤ◌, List, [], ◌∷◌, ◌++◌, length, map, Bool, true, false, ◌&&◌, ◌==◌, nat_lt, if◌then◌else◌, None, Some, refl, sym, ap, ◌∙◌, subst, arith, append_assoc, length-append, true≢false}
use Rattle.std.specs.List.{list_all, flat_map}
use Rattle.std.specs.List.Sorted.{IsStrictlySortedBy}
use Rattle.std.specs.Ordering.{int_eq}
use Rattle.std.specs.declared.cmp.Ordering.TheVariants.{Less, Greater}
use Rattle.std.proofs.lemmas.Bool.Decides.{nat_tests}
use Rattle.std.proofs.lemmas.Int.{ints}
use Rattle.std.proofs.lemmas.List.{append-nil, length-map}
use Rattle.outside.specs.Decimal.{decimal}
use Rattle.elem_cubes.specs.declared.range.TheConstants.{MAX_EMBEDDING}
use Rattle.elem_cubes.specs.Corners.{is_file_end}
use Rattle.elem_cubes.specs.Cells.{Factor, point, interval, low, high, is_wide, is_file_factor, lower_of, upper_of, full_cell}
use Rattle.elem_cubes.specs.Order.{cell_cmp}
use Rattle.elem_cubes.specs.OrderLemmas.{cell_cmp_total, int_refl}
use Rattle.cube_sets.specs.Sorted.{by_order, inserted}
use Rattle.cube_sets.specs.Sets.{Members, IsCubeSet, is_member, dimensions_agree}
use Rattle.grid_files.specs.Items.{Item, full, elementary, dimension_line, closed, spelling, is_full_end, fits, factor_between, in_front, cell_between, is_wanted, cell_cause, cube_cause, dimension_cause, cause_of, with_cell, with_item}
use Rattle.grid_files.specs.Laws.{WrittenSetsAreRead}
use Rattle.grid_files.specs.Pieces.{pieces_behind, pieces}
use Rattle.grid_files.specs.SetFile.{Splits, Gathers, HasValue, no_members}
use Rattle.corner_texts.specs.CornerText.{corner_text}
use Rattle.grid_files.specs.Written.{cell_line, written}
use Rattle.grid_files.specs.declared.fault.Kind.{Kind}
use Rattle.grid_files.specs.declared.fault.TextCause.TheVariants.{DimensionTooLarge}
use Rattle.cube_sets.specs.declared.fault.TheConstants.{CUBES}
use Rattle.grid_files.specs.declared.piece.Piece.{Piece}
use Rattle.grid_files.specs.declared.piece.Piece.TheVariants.{Mark}
use Rattle.grid_files.specs.declared.piece.TheConstants.{DIMENSION}
use Rattle.cube_sets.proofs.Merging.{IsBelow, above'}
use Rattle.cube_sets.proofs.Sorting.{and_true}
use Rattle.cube_sets.proofs.SameSets.{same_members}
use Rattle.cube_sets.proofs.Covering.{member_parts}
use Rattle.grid_files.proofs.Telling.{Tells, joined, tells_begin, tells_end, tells_line_feed, tells_corner, tells_dimension}

both_true : (a b : Bool) → a ≡ true → b ≡ true → (a && b) ≡ true
both_true a b h k = rw (h, k) refl

-- ---- the item of a cell

abbrev item_by : Bool → List Factor → Item
item_by true q = full (lower_of q)
item_by false q = elementary (lower_of q) (upper_of q)

abbrev item_of : List Factor → Item
item_of q = item_by (list_all is_wide q) q

lower_ends : (q : List Factor) → list_all is_file_factor q ≡ true → list_all is_file_end (lower_of q) ≡ true
lower_ends [] h = refl
lower_ends (f ∷ fs) h =
    let both = and_true (is_file_factor f) (list_all is_file_factor fs) h in
    both_true (is_file_end (low f)) (list_all is_file_end (lower_of fs)) (and_true (is_file_end (low f)) (is_file_end (high f)) both.0).0 (lower_ends fs both.1)

upper_ends : (q : List Factor) → list_all is_file_factor q ≡ true → list_all is_file_end (upper_of q) ≡ true
upper_ends [] h = refl
upper_ends (f ∷ fs) h =
    let both = and_true (is_file_factor f) (list_all is_file_factor fs) h in
    both_true (is_file_end (high f)) (list_all is_file_end (upper_of fs)) (and_true (is_file_end (low f)) (is_file_end (high f)) both.0).1 (upper_ends fs both.1)

full_ends : (q : List Factor) → list_all is_file_factor q ≡ true → list_all is_wide q ≡ true → list_all is_full_end (lower_of q) ≡ true
full_ends [] h w = refl
full_ends (point l ∷ fs) h w = absurd (true≢false (sym w))
full_ends (interval l ∷ fs) h w =
    let both = and_true (is_file_factor (interval l)) (list_all is_file_factor fs) h in
    both_true (is_full_end l) (list_all is_full_end (lower_of fs)) both.0 (full_ends fs both.1 w)

item_fits : (b : Bool) (f : Factor) (fs : List Factor) → list_all is_wide (f ∷ fs) ≡ b → list_all is_file_factor (f ∷ fs) ≡ true → fits (item_by b (f ∷ fs)) ≡ true
item_fits true f fs w h = full_ends (f ∷ fs) h w
item_fits false f fs w h = both_true (list_all is_file_end (lower_of (f ∷ fs))) (list_all is_file_end (upper_of (f ∷ fs))) (lower_ends (f ∷ fs) h) (upper_ends (f ∷ fs) h)

abbrev text_by : Bool → List Factor → List ℕ
text_by b q = if b then corner_text (lower_of q) else 91 ∷ corner_text (lower_of q) ++ corner_text (upper_of q) ++ 93 ∷ []

tells_cell : (b : Bool) (f : Factor) (fs : List Factor) (rest : List ℕ) → list_all is_file_factor (f ∷ fs) ≡ true → Tells (text_by b (f ∷ fs)) rest (spelling (item_by b (f ∷ fs)))
tells_cell true f fs rest h = tells_corner (low f) (lower_of fs) rest (lower_ends (f ∷ fs) h)
tells_cell false f fs rest h =
    let ls = lower_of (f ∷ fs) in
    let us = upper_of (f ∷ fs) in
    let upper = corner_text us ++ 93 ∷ rest in
    let first = joined (91 ∷ []) (corner_text ls) upper (Mark 91 ∷ []) (closed ls) (tells_begin (corner_text ls ++ upper)) (tells_corner (low f) (lower_of fs) upper (lower_ends (f ∷ fs) h)) in
    let second = joined (91 ∷ corner_text ls) (corner_text us) (93 ∷ rest) (Mark 91 ∷ closed ls) (closed us) first (tells_corner (high f) (upper_of fs) (93 ∷ rest) (upper_ends (f ∷ fs) h)) in
    joined ((91 ∷ corner_text ls) ++ corner_text us) (93 ∷ []) rest ((Mark 91 ∷ closed ls) ++ closed us) (Mark 93 ∷ []) second (tells_end rest)

tells_line : (f : Factor) (fs : List Factor) (rest : List ℕ) → list_all is_file_factor (f ∷ fs) ≡ true → Tells (cell_line (f ∷ fs)) rest (spelling (item_of (f ∷ fs)))
tells_line f fs rest h =
    let b = list_all is_wide (f ∷ fs) in
    subst (λ (ps : List Piece). Tells (cell_line (f ∷ fs)) rest ps) (append-nil (spelling (item_of (f ∷ fs))))
    (joined (text_by b (f ∷ fs)) (10 ∷ []) rest (spelling (item_by b (f ∷ fs))) [] (tells_cell b f fs (10 ∷ rest) h) (tells_line_feed rest))

-- ---- the items of the lines

split_lines : (n : ℕ) (qs : List (List Factor)) (place : ℕ) → 1 ≤ n → list_all (is_member n) qs ≡ true → Splits (map item_of qs) (pieces_behind 0 place (flat_map cell_line qs)) []
split_lines n [] place some h = refl
split_lines n ([] ∷ qs) place some h =
    let both = and_true (is_member n []) (list_all (is_member n) qs) h in
    let e = (member_parts n [] both.0).0 in
    absurd (omega arith)
split_lines n ((f ∷ fs) ∷ qs) place some h =
    let both = and_true (is_member n (f ∷ fs)) (list_all (is_member n) qs) h in
    let range = (member_parts n (f ∷ fs) both.0).1 in
    let t = tells_line f fs (flat_map cell_line qs) range place in
    (t.0, pieces_behind 0 t.1 (flat_map cell_line qs), record { spelled = t.2; fitting = item_fits (list_all is_wide (f ∷ fs)) f fs refl range }, t.3, split_lines n qs t.1 some both.1)

-- ---- what the items make

full_again : (q : List Factor) → list_all is_wide q ≡ true → full_cell (lower_of q) ≡ q
full_again [] w = refl
full_again (point l ∷ fs) w = absurd (true≢false (sym w))
full_again (interval l ∷ fs) w = ap (λ l'. interval l ∷ l') (full_again fs w)

next_differs : (l : ℤ) → int_eq l (l +ℤ pos 1) ≡ false
next_differs l = grind (arith, ints)

factor_again : (f : Factor) → factor_between (low f) (high f) ≡ Some f
factor_again (point l) = ap (λ b. if b then Some (point l) else if int_eq (l +ℤ pos 1) l then Some (interval l) else None) (int_refl l)
factor_again (interval l) =
    ap (λ b. if b then Some (point l) else if int_eq (l +ℤ pos 1) (l +ℤ pos 1) then Some (interval l) else None) (next_differs l)
    ∙ ap (λ b. if b then Some (interval l) else None) (int_refl (l +ℤ pos 1))

cell_again : (q : List Factor) → cell_between (lower_of q) (upper_of q) ≡ Some q
cell_again [] = refl
cell_again (f ∷ fs) = λ i. in_front (factor_again f i) (cell_again fs i)

few_numbers : (n : ℕ) → n ≤ MAX_EMBEDDING → nat_lt MAX_EMBEDDING n ≡ false
few_numbers n h = grind (arith, nat_tests)

not_many : (n : ℕ) → n ≤ CUBES → nat_lt CUBES n ≡ false
not_many n h = grind (arith, nat_tests)

agree_same : (n : ℕ) → dimensions_agree n n ≡ true
agree_same n = grind (arith, nat_tests)

accepted : (kind : Kind) (set : Members) (q : List Factor) → set.dimension ≡ length q → is_wanted kind q ≡ true → length (inserted cell_cmp q set.cells) ≤ CUBES → cell_cause kind set q ≡ None
accepted kind set q e w n = rw (e, agree_same (length q), w, not_many (length (inserted cell_cmp q set.cells)) n) refl

cube_accepted : (kind : Kind) (set : Members) (numbers : ℕ) (q : List Factor) → numbers ≤ MAX_EMBEDDING → cell_cause kind set q ≡ None → cube_cause kind set numbers (Some q) ≡ None
cube_accepted kind set numbers q n h = ap (λ b. if b then Some DimensionTooLarge else cell_cause kind set q) (few_numbers numbers n) ∙ h

item_accepted : (b : Bool) (kind : Kind) (set : Members) (q : List Factor) → list_all is_wide q ≡ b → length q ≤ MAX_EMBEDDING → cell_cause kind set q ≡ None → cause_of kind set (item_by b q) ≡ None
item_accepted true kind set q w n h =
    ap (λ r. cube_cause kind set (length (lower_of q)) (Some r)) (full_again q w)
    ∙ cube_accepted kind set (length (lower_of q)) q (omega (arith, length-map q low)) h
item_accepted false kind set q w n h =
    ap (cube_cause kind set (max (length (lower_of q)) (length (upper_of q)))) (cell_again q)
    ∙ cube_accepted kind set (max (length (lower_of q)) (length (upper_of q))) q (omega (arith, length-map q low, length-map q high)) h

item_makes : (b : Bool) (set : Members) (q : List Factor) → list_all is_wide q ≡ b → with_item set (item_by b q) ≡ record { dimension = length q; cells = inserted cell_cmp q set.cells }
item_makes true set q w = ap (λ r. with_cell set (Some r)) (full_again q w)
item_makes false set q w = ap (with_cell set) (cell_again q)

below_at : (x q : List Factor) (xs rest : List (List Factor)) → IsBelow cell_cmp x (xs ++ q ∷ rest) → cell_cmp x q ≡ Less
below_at x q [] rest h = h.0
below_at x q (y ∷ ys) rest h = below_at x q ys rest h.1

-- the cell after all others joins them at the end
joins_last : (done : List (List Factor)) (q : List Factor) (rest : List (List Factor)) → IsStrictlySortedBy cell_cmp (done ++ q ∷ rest) → inserted cell_cmp q done ≡ done ++ q ∷ []
unfolding IsStrictlySortedBy
joins_last [] q rest h = refl
joins_last (x ∷ xs) q rest h =
    let up : cell_cmp q x ≡ Greater = above' cell_cmp cell_cmp_total x q (below_at x q xs rest h.0) in
    ap (λ o. by_order o (q ∷ x ∷ xs) (x ∷ xs) (x ∷ inserted cell_cmp q xs)) up ∙ ap (λ l. x ∷ l) (joins_last xs q rest h.1)

abbrev at_dimension : ℕ → List (List Factor) → Members
at_dimension n cells = record { dimension = n; cells = cells }

gathers_lines : (kind : Kind) (n : ℕ) (done rest : List (List Factor)) → n ≤ MAX_EMBEDDING → IsStrictlySortedBy cell_cmp (done ++ rest) → list_all (is_member n) rest ≡ true
    → list_all (is_wanted kind) rest ≡ true → length (done ++ rest) ≤ CUBES → Gathers kind (at_dimension n done) (map item_of rest) (at_dimension n (done ++ rest))
gathers_lines kind n done [] few sorted alike wanted count = ap (at_dimension n) (append-nil done)
gathers_lines kind n done (q ∷ rest) few sorted alike wanted count =
    let member = and_true (is_member n q) (list_all (is_member n) rest) alike in
    let want = and_true (is_wanted kind q) (list_all (is_wanted kind) rest) wanted in
    let long : length q ≡ n = (member_parts n q member.0).0 in
    let last : inserted cell_cmp q done ≡ done ++ q ∷ [] = joins_last done q rest sorted in
    let on : (done ++ q ∷ []) ++ rest ≡ done ++ q ∷ rest = append_assoc done (q ∷ []) rest in
    let counted : length (inserted cell_cmp q done) ≤ CUBES = omega (arith, ap length last, length-append done (q ∷ []), length-append done (q ∷ rest)) in
    let makes : with_item (at_dimension n done) (item_of q) ≡ at_dimension n (done ++ q ∷ []) = item_makes (list_all is_wide q) (at_dimension n done) q refl ∙ same_members _ _ long last in
    let more = gathers_lines kind n (done ++ q ∷ []) rest few (subst (IsStrictlySortedBy cell_cmp) (sym on) sorted) member.1 want.1 (omega (arith, ap length on)) in (
      item_accepted (list_all is_wide q) kind (at_dimension n done) q refl (omega arith) (accepted kind (at_dimension n done) q (sym long) want.0 counted),
      subst (λ (s : Members). Gathers kind s (map item_of rest) (at_dimension n (done ++ q ∷ rest))) (sym makes)
          (subst (λ (l : List (List Factor)). Gathers kind (at_dimension n (done ++ q ∷ [])) (map item_of rest) (at_dimension n l)) on more),
    )

-- ---- the whole text

some_dimension : (n : ℕ) → 1 ≤ n → n ≤ MAX_EMBEDDING → dimension_cause no_members (pos n) ≡ None
some_dimension n some few =
    let z : (n == 0) ≡ false = grind (arith, nat_tests) in
    let y : (0 == n) ≡ false = grind (arith, nat_tests) in
    rw (z, few_numbers n few, y) refl

written_known : (set : Members) → (set.dimension == 0) ≡ false → written set ≡ (DIMENSION ++ 32 ∷ decimal (pos set.dimension)) ++ 10 ∷ flat_map cell_line set.cells
written_known set z = rw z (append_assoc (DIMENSION ++ 32 ∷ decimal (pos set.dimension)) (10 ∷ []) (flat_map cell_line set.cells))

none_known : (kind : Kind) (set : Members) → IsCubeSet set → set.dimension ≡ 0 → HasValue kind (written set) set
none_known kind set is e =
    let text : written set ≡ [] = ap (λ n. if n == 0 then [] else DIMENSION ++ 32 ∷ decimal (pos n) ++ 10 ∷ [] ++ flat_map cell_line set.cells) e in
    let same : set ≡ no_members = same_members _ _ e (is.unknown e) in
    ([], ap pieces text, same)

some_known : (kind : Kind) (set : Members) → IsCubeSet set → length set.cells ≤ CUBES → list_all (is_wanted kind) set.cells ≡ true → 1 ≤ set.dimension → HasValue kind (written set) set
some_known kind set is count wanted some =
    let n = set.dimension in
    let few : n ≤ MAX_EMBEDDING = is.axes in
    let lines : List ℕ = flat_map cell_line set.cells in
    let z : (n == 0) ≡ false = grind (arith, nat_tests) in
    let text : written set ≡ (DIMENSION ++ 32 ∷ decimal (pos n)) ++ 10 ∷ lines = written_known set z in
    let t = tells_dimension n lines (omega arith) 0 in (
      dimension_line (pos n) ∷ map item_of set.cells,
      (
        t.0,
        pieces_behind 0 t.1 (10 ∷ lines),
        record { spelled = t.2; fitting = refl },
        ap pieces text ∙ t.3,
        split_lines n set.cells (t.1 + 1) some is.alike,
      ),
      (
        some_dimension n some few,
        gathers_lines kind n [] set.cells few is.sorted is.alike wanted count,
      ),
    )

pub written_sets_are_read : WrittenSetsAreRead
written_sets_are_read = λ kind set is count wanted. by_dimension kind set is count wanted set.dimension refl
  where
    by_dimension : (kind : Kind) (set : Members) → IsCubeSet set → length set.cells ≤ CUBES → list_all (is_wanted kind) set.cells ≡ true → (n : ℕ) → set.dimension ≡ n → HasValue kind (written set) set
    by_dimension kind set is count wanted zero e = none_known kind set is e
    by_dimension kind set is count wanted (suc n) e = some_known kind set is count wanted (omega arith)
