-- The full cubes round a cell.
use Rattle.std.specs.Prelude.{◌≡◌, ◌↔◌, ℕ, ◌<◌, ◌%◌, ◌/◌, negsuc, ◌+ℤ◌, true, List, [], ◌∷◌, length, map, slice_index_or}
use Rattle.std.specs.List.{Contains, list_all, flat_map}
use Rattle.elem_cubes.specs.Cells.{Factor, point, interval, is_wide}
use Rattle.elem_cubes.specs.Faces.{IsFace}

-- the intervals that have a factor as a part: for a point the upper one first
abbrev pub wholes_of : Factor → List Factor
wholes_of (point m) = interval m ∷ interval (m +ℤ negsuc 0) ∷ []
wholes_of (interval m) = interval m ∷ []

-- the full cubes that have a cell as a face: with each of the further factors, each interval round
-- the first
abbrev pub covers_of : List Factor → List (List Factor)
covers_of [] = [] ∷ []
covers_of (f ∷ fs) = flat_map (λ qs. map (λ q. q ∷ qs) (wholes_of f)) (covers_of fs)

-- the listed cubes are all full cubes that have the cell as a face, each once
pub record CoversAreAll : Type 0 where
  pub covers : (q r : List Factor) → Contains (covers_of r) q ↔
      ((list_all is_wide q ≡ true) × IsFace q r)
  pub once : (r d : List Factor) (i j : ℕ) → i < length (covers_of r) → j < length (covers_of r)
      → slice_index_or (covers_of r) i d ≡ slice_index_or (covers_of r) j d → i ≡ j

-- the interval round a factor at a place among these
abbrev pub whole_at : Factor → ℕ → Factor
whole_at f digit = slice_index_or (wholes_of f) digit f

-- the cube at a place of the list: the remainders of the place choose an interval round each factor
abbrev pub cover_at : List Factor → ℕ → List Factor
cover_at [] place = []
cover_at (f ∷ fs) place =
    whole_at f (place % length (wholes_of f)) ∷ cover_at fs (place / length (wholes_of f))
