-- The cells of a set of cells: all faces of its members. (Kaczynski, Mischaikow, Mrozek:
-- Computational Homology, Springer 2004, section 2.1)
use Rattle.std.specs.Prelude.{◌≡◌, ℕ, Bool, true, List}
use Rattle.std.specs.List.{list_any, list_all, flat_map}
use Rattle.std.specs.List.Sorted.{IsStrictlySortedBy}
use Rattle.elem_cubes.specs.Cells.{Factor}
use Rattle.elem_cubes.specs.Faces.{is_face, closure_of}
use Rattle.elem_cubes.specs.Order.{cell_cmp}
use Rattle.cube_sets.specs.Sorted.{has, set_of}
use Rattle.cube_sets.specs.Sets.{Members, is_member}

-- q is one of the cells of x: a face of some member
abbrev pub is_cell_of : List (List Factor) → List Factor → Bool
is_cell_of x q = list_any (λ s. is_face s q) x

-- the cells of x in order, each once
abbrev pub cells_of : List (List Factor) → List (List Factor)
cells_of x = set_of cell_cmp (flat_map closure_of x)

-- the set of the cells of a set
abbrev pub closure : Members → Members
closure set = record { dimension = set.dimension; cells = cells_of set.cells }

-- the law of the cells of a set: they stand in order, are exactly the faces of the members, have as
-- many factors as these, and lie in the range of the files with them
pub record CellsAreFaces : Type 0 where
  pub sorted : (x : List (List Factor)) → IsStrictlySortedBy cell_cmp (cells_of x)
  pub faces : (x : List (List Factor)) (q : List Factor)
      → has cell_cmp (cells_of x) q ≡ is_cell_of x q
  pub alike : (n : ℕ) (x : List (List Factor)) → list_all (is_member n) x ≡ true
      → list_all (is_member n) (cells_of x) ≡ true
