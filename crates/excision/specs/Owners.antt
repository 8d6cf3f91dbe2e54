-- The members of a set, by the numbers of their cells.
use Rattle.std.specs.Prelude.{◌<◌, ℕ, List, [], length, slice_index_or}
use Rattle.std.specs.List.{Contains}
use Rattle.elem_cubes.specs.Cells.{Factor}
use Rattle.elem_cubes.specs.Faces.{IsFace}
use Rattle.elem_cubes.specs.Laws.{cell_at}

-- the list at a number names a member
abbrev pub Names : List (List ℕ) → ℕ → ℕ → Type 0
Names lists n j = Contains (slice_index_or lists n []) j

-- at the number of each cell stand at least those members of x, by their places, that have it as a
-- face
abbrev pub AreOwners : List (List Factor) → List (List Factor) → List (List ℕ) → Type 0
AreOwners cells x lists =
    (n j : ℕ) → n < length cells → j < length x → IsFace (cell_at x j) (cell_at cells n)
    → Names lists n j
