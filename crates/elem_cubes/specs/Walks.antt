-- Walks along the axes of a cell: what an iterator over its faces, its cofaces or its closure has
-- left.
use Rattle.std.specs.Prelude.{◌≡◌, ℕ, ◌<◌, ◌≤◌, ◌/◌, ◌%◌, ℤ, pos, negsuc, List, [], ◌∷◌, length, take, drop, map, Bool, true, false, not, if◌then◌else◌, slice_index_or}
use Rattle.elem_cubes.specs.Cells.{Factor, point, interval, is_wide}
use Rattle.elem_cubes.specs.Faces.{behind, changed, parts_of}

-- the factor on an axis
abbrev pub factor_at : List Factor → ℕ → Factor
factor_at q axis = slice_index_or q axis (point (pos 0))

-- the factor is an interval, or is none
abbrev pub is_wide_as : Bool → Factor → Bool
is_wide_as true f = is_wide f
is_wide_as false f = not (is_wide f)

-- the signs behind these factors are turned: there are an odd number of intervals
abbrev pub is_turned : List Factor → Bool
is_turned [] = false
is_turned (point l ∷ fs) = is_turned fs
is_turned (interval l ∷ fs) = not (is_turned fs)

abbrev pub sign_of : Bool → ℤ
sign_of false = pos 1
sign_of true = negsuc 0

-- a signed cell behind these factors
abbrev pub behind_all : List Factor → List Factor × ℤ → List Factor × ℤ
behind_all [] g = g
behind_all (f ∷ fs) g = behind f (behind_all fs g)

-- what is left of the changed cells from this axis on; second: the first change along it was given
abbrev pub left : (Factor → List (Factor × ℤ)) → List Factor → ℕ → Bool → List (List Factor × ℤ)
left change q axis second =
    map (behind_all (take axis q)) (drop (if second then 1 else 0) (changed change (drop axis q)))

-- what a walk over the intervals, or over the points, keeps
pub record KeepsWalk (wide : Bool) (q : List Factor) (axis : ℕ)
    (second negative : Bool) : Type 0 where
  pub within : axis ≤ length q
  pub signed : negative ≡ is_turned (take axis q)
  pub twice : second ≡ true → (axis < length q) × (is_wide (factor_at q axis) ≡ wide)

-- so many of a list were given
pub record KeepsCount {A : Type 0} (items : List A) (next count : ℕ) : Type 0 where
  pub within : next ≤ count
  pub counted : count ≡ length items

-- the part of a factor at a place among its parts
abbrev pub part_at : Factor → ℕ → Factor
part_at f digit = slice_index_or (parts_of f) digit f

-- the face at a place of the closure: the remainders of the place choose a part of each factor
abbrev pub face_at : List Factor → ℕ → List Factor
face_at [] place = []
face_at (f ∷ fs) place =
    part_at f (place % length (parts_of f)) ∷ face_at fs (place / length (parts_of f))
