-- A set that is the value of a text has no more members than a set file may have, and full cubes alone where those are wanted.
use Rattle.std.proofs.Common.{◌≡◌, ℕ, ◌≤◌, List, [], ◌∷◌, length, max, Bool, true, false, not, nat_lt, if◌then◌else◌, Option, None, Some, Result, Ok, Err, IsTrue, refl, sym, ap, ◌∙◌, subst, arith}
use Rattle.std.specs.Result.{IfOk}
use Rattle.std.specs.List.{list_all}
use Rattle.std.proofs.lemmas.Bool.Decides.{nat_tests}
use Rattle.elem_cubes.specs.declared.range.TheConstants.{MAX_EMBEDDING}
use Rattle.elem_cubes.specs.Cells.{Factor, is_wide, full_cell}
use Rattle.elem_cubes.specs.Order.{cell_cmp}
use Rattle.cube_sets.specs.Sorted.{inserted}
use Rattle.cube_sets.specs.Sets.{Members, dimensions_agree}
use Rattle.grid_files.specs.Items.{Item, full, elementary, dimension_line, skipped_line, is_wanted, cell_between, cell_cause, cube_cause, cause_of, with_cell, with_item}
use Rattle.grid_files.specs.SetFile.{Gathers, HasValue, no_members}
use Rattle.grid_files.specs.declared.fault.Kind.{Kind}
use Rattle.grid_files.specs.declared.fault.Kind.TheVariants.{Full}
use Rattle.grid_files.specs.declared.fault.TextCause.TheVariants.{DimensionTooLarge, MixedDimension, NotFull, TooMany}
use Rattle.grid_files.specs.declared.fault.TextFault.{TextFault}
use Rattle.cube_sets.specs.declared.fault.TheConstants.{CUBES}
use Rattle.cube_sets.proofs.SetLemmas.{all-inserted}

otherwise : {A : Type 0} (b : Bool) (c : A) (o : Option A) → (if b then Some c else o) ≡ None → o ≡ None
otherwise true c o e = cc
otherwise false c o e = e

fails : {A : Type 0} (b : Bool) (c : A) → (if b then Some c else None) ≡ None → b ≡ false
fails true c e = cc
fails false c e = refl

not_more : (m n : ℕ) → nat_lt m n ≡ false → n ≤ m
not_more m n e = grind (arith, nat_tests)

cube_few : (kind : Kind) (set : Members) (numbers : ℕ) (q : Option (List Factor)) → length set.cells ≤ CUBES → cube_cause kind set numbers q ≡ None → length (with_cell set q).cells ≤ CUBES
cube_few kind set numbers None n e = n
cube_few kind set numbers (Some q) n e =
    let many : Bool = nat_lt CUBES (length (inserted cell_cmp q set.cells)) in
    let cell = otherwise (nat_lt MAX_EMBEDDING numbers) DimensionTooLarge (cell_cause kind set q) e in
    let wanted = otherwise (not (dimensions_agree set.dimension (length q))) MixedDimension (if not (is_wanted kind q) then Some NotFull else if many then Some TooMany else None) cell in
    not_more CUBES (length (inserted cell_cmp q set.cells)) (fails many TooMany (otherwise (not (is_wanted kind q)) NotFull (if many then Some TooMany else None) wanted))

item_few : (kind : Kind) (set : Members) (item : Item) → length set.cells ≤ CUBES → cause_of kind set item ≡ None → length (with_item set item).cells ≤ CUBES
item_few kind set (full xs) n e = cube_few kind set (length xs) (Some (full_cell xs)) n e
item_few kind set (elementary ls us) n e = cube_few kind set (max (length ls) (length us)) (cell_between ls us) n e
item_few kind set (dimension_line z) n e = n
item_few kind set skipped_line n e = n

gathered_few : (kind : Kind) (set : Members) (items : List Item) (all : Members) → length set.cells ≤ CUBES → Gathers kind set items all → length all.cells ≤ CUBES
gathered_few kind set [] all n e = subst (λ (s : Members). length s.cells ≤ CUBES) (sym e) n
gathered_few kind set (item ∷ items) all n g = gathered_few kind (with_item set item) items all (item_few kind set item n g.0) g.1

pub value_few : (kind : Kind) (text : List ℕ) (set : Members) → HasValue kind text set → length set.cells ≤ CUBES
value_few kind text set h = gathered_few kind no_members h.0 set (omega arith) h.2

pub result_few : (kind : Kind) (text : List ℕ) (r : Result Members TextFault) → IfOk r (λ set. HasValue kind text set) → IfOk r (λ set. length set.cells ≤ CUBES)
result_few kind text (Ok set) h = value_few kind text set h
result_few kind text (Err fault) h = tt

-- ---- full cubes alone

met_first : {A : Type 0} (b : Bool) (c : A) (o : Option A) → (if not b then Some c else o) ≡ None → b ≡ true
met_first true c o e = refl
met_first false c o e = cc

cube_full : (set : Members) (numbers : ℕ) (q : Option (List Factor)) → list_all (list_all is_wide) set.cells ≡ true → cube_cause Full set numbers q ≡ None → list_all (list_all is_wide) (with_cell set q).cells ≡ true
cube_full set numbers None h e = h
cube_full set numbers (Some q) h e =
    let many : Bool = nat_lt CUBES (length (inserted cell_cmp q set.cells)) in
    let cell = otherwise (nat_lt MAX_EMBEDDING numbers) DimensionTooLarge (cell_cause Full set q) e in
    let wanted = otherwise (not (dimensions_agree set.dimension (length q))) MixedDimension (if not (is_wanted Full q) then Some NotFull else if many then Some TooMany else None) cell in
    all-inserted cell_cmp (list_all is_wide) q set.cells (met_first (list_all is_wide q) NotFull (if many then Some TooMany else None) wanted) h

item_full : (set : Members) (item : Item) → list_all (list_all is_wide) set.cells ≡ true → cause_of Full set item ≡ None → list_all (list_all is_wide) (with_item set item).cells ≡ true
item_full set (full xs) h e = cube_full set (length xs) (Some (full_cell xs)) h e
item_full set (elementary ls us) h e = cube_full set (max (length ls) (length us)) (cell_between ls us) h e
item_full set (dimension_line z) h e = h
item_full set skipped_line h e = h

gathered_full : (set : Members) (items : List Item) (all : Members) → list_all (list_all is_wide) set.cells ≡ true → Gathers Full set items all → list_all (list_all is_wide) all.cells ≡ true
gathered_full set [] all h e = ap (λ s. list_all (list_all is_wide) s.cells) e ∙ h
gathered_full set (item ∷ items) all h g = gathered_full (with_item set item) items all (item_full set item h g.0) g.1

pub value_full : (text : List ℕ) (set : Members) → HasValue Full text set → IsTrue (list_all (list_all is_wide) set.cells)
value_full text set h = gathered_full no_members h.0 set refl h.2

pub result_full : (kind : Kind) (text : List ℕ) (r : Result Members TextFault) → kind ≡ Full → IfOk r (λ set. HasValue kind text set) → IfOk r (λ set. IsTrue (list_all (list_all is_wide) set.cells))
result_full kind text (Ok set) e h = value_full text set (subst (λ (k : Kind). HasValue k text set) e h)
result_full kind text (Err fault) e h = tt
