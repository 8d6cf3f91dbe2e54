-- Places: corners in order, each with the mask of the cells at it.
use Rattle.std.specs.Prelude.{◌≡◌, ◌≢◌, ◌&&◌, IsTrue, ℕ, ◌+◌, ◌<◌, ◌≤◌, ◌^◌, ℤ, pos, ◌+ℤ◌, List, [], ◌∷◌, length, map, Bool, true, ◌==◌, if◌then◌else◌, bit_and, bit_or, slice_index_or, slice_set}
use Rattle.std.specs.Int.{bit_not, w16}
use Rattle.std.specs.Int.RustNames.{count_ones}
use Rattle.std.specs.List.{flat_map, list_any, AllByRecursion}
use Rattle.std.specs.List.Sorted.{IsStrictlySortedBy}
use Rattle.std.specs.Ordering.{on, is_eq}
use Rattle.std.specs.declared.cmp.Ordering.{Ordering}
use Rattle.elem_cubes.specs.Range.{most_factors}
use Rattle.elem_cubes.specs.Corners.{corner_cmp}
use Rattle.elem_cubes.specs.Cells.{Factor, is_cell, cell_of, lower_of, axes_of}
use Rattle.cell_points.specs.Masks.{turned, has_bit, ranks_of, narrowed}
use Rattle.cell_points.specs.Sorted.{IsSortedCells}
use Rattle.cell_points.specs.declared.place.Place.{Place}

-- places stand in the order of their corners
abbrev pub place_cmp : Place → Place → Ordering
place_cmp = on (λ p. p.corner) corner_cmp

-- the cells at a place, and at all places, in order
abbrev pub cells_at : Place → List (List Factor)
cells_at p = map (λ r. cell_of p.corner (turned r)) (ranks_of p.mask)

abbrev pub cells_of_places : List Place → List (List Factor)
cells_of_places places = flat_map cells_at places

-- the rank of a cell at its corner
abbrev pub rank_of : List Factor → ℕ
rank_of q = turned (axes_of q)

-- each rank of the mask is one of cells with as many factors as the corner has coordinates
pub record IsPlace (p : Place) : Type 0 where
  pub short : length p.corner ≤ most_factors
  pub small : p.mask < 2 ^ 16
  pub fits : (r : ℕ) → has_bit p.mask r ≡ true → turned r < 2 ^ length p.corner

-- the corners stand in order, each once
pub record ArePlaces (places : List Place) : Type 0 where
  pub sorted : IsStrictlySortedBy place_cmp places
  pub each : AllByRecursion IsPlace places

-- the number of the first cell of each place
abbrev pub firsts_from : ℕ → List Place → List ℕ
firsts_from first [] = []
firsts_from first (p ∷ ps) = first ∷ firsts_from (first + count_ones p.mask) ps

-- what is kept of cells by points
pub record KeepsPoints (places : List Place) (firsts : List ℕ) (count : ℕ) : Type 0 where
  pub are : ArePlaces places
  pub numbered : firsts ≡ firsts_from 0 places
  pub counted : count ≡ length (cells_of_places places)
  pub cells : IsSortedCells (cells_of_places places)

-- the place with the points in place of intervals along an axis too
abbrev pub lowered : ℕ → Place → Place
lowered axis p = record { corner = p.corner; mask = bit_or p.mask (narrowed axis p.mask) }

-- the corner one step up along an axis
abbrev pub up_along : ℕ → List ℤ → List ℤ
up_along axis c = slice_set c axis (slice_index_or c axis (pos 0) +ℤ pos 1)

-- the upper ends of the cells with an interval along the axis; none where there is no such cell
abbrev pub raised : ℕ → Place → List Place
raised axis p =
    if narrowed axis p.mask == 0 then [] else record
    { corner = up_along axis p.corner; mask = narrowed axis p.mask } ∷ []

abbrev pub raised_all : ℕ → List Place → List Place
raised_all axis places = flat_map (raised axis) places

-- the axis is one of the corner, and the edge from it along the axis is in range, where a cell at
-- the place has an interval there
abbrev pub CanRise : ℕ → Place → Type 0
CanRise axis p =
    narrowed axis p.mask ≢ 0 → (axis < length p.corner) × IsTrue
    (is_cell (cell_of p.corner (2 ^ axis)))

-- the cell with this corner and rank is at one of the places
abbrev pub holds_at : List Place → List ℤ → ℕ → Bool
holds_at places c r = list_any (λ p. is_eq (corner_cmp p.corner c) && has_bit p.mask r) places

-- the place at the corner of the cell, with that cell and those of a mask
abbrev pub with_cell : List Factor → ℕ → Place
with_cell q mask = record { corner = lower_of q; mask = bit_or mask (2 ^ rank_of q) }

-- the place of a number; past the end one without cells
abbrev pub place_at : List Place → ℕ → Place
place_at places i = slice_index_or places i (record { corner = []; mask = 0 })

-- the place stands at this number, and has this corner
pub record IsPlaceOf (places : List Place) (c : List ℤ) (i : ℕ) : Type 0 where
  pub within : i < length places
  pub corner : (place_at places i).corner ≡ c

-- of ascending numbers this is the last that is not above
pub record IsLastFrom (firsts : List ℕ) (number place : ℕ) : Type 0 where
  pub within : place < length firsts
  pub below : slice_index_or firsts place 0 ≤ number
  pub above : place + 1 < length firsts → number < slice_index_or firsts (place + 1) 0

-- the mask of all cells at a corner
abbrev pub mask_of : List Place → List ℤ → ℕ
mask_of [] c = 0
mask_of (p ∷ ps) c = bit_or (if is_eq (corner_cmp p.corner c) then p.mask else 0) (mask_of ps c)

-- the place without the cells that are at other places
abbrev pub cut : List Place → Place → Place
cut others p =
    record { corner = p.corner; mask = bit_and p.mask (bit_not w16 (mask_of others p.corner)) }
