-- What values are cut out of, and what is remembered of them. A shape is a list of lists of cubes.
use Rattle.std.specs.Prelude.{◌≡◌, ◌≢◌, ◌↔◌, ℕ, ◌<◌, ℤ, pos, ◌+ℤ◌, List, [], length, map, slice_index_or, true}
use Rattle.std.specs.List.{Contains, list_all}
use Rattle.elem_cubes.specs.Cells.{Factor}
use Rattle.elem_cubes.specs.Laws.{cell_at}
use Rattle.cube_sets.specs.Closures.{is_cell_of}
use Rattle.cube_maps.specs.CubeMaps.{Naming}
use Rattle.cell_complex.specs.Acyclic.{IsAcyclic}
use Rattle.cell_complex.specs.Moved.{moved}
use Rattle.acyclic_values.specs.Values.{InValue}

-- g is a cell of all the lists
abbrev pub InShape : List (List (List Factor)) → List Factor → Type 0
InShape shape g = list_all (λ v. is_cell_of v g) shape ≡ true

-- the cells of all its lists are those of the value at s
abbrev pub IsShapeAt : List Naming → List (List Factor) → List Factor → List (List (List Factor))
    → Type 0
IsShapeAt map domain s shape = (g : List Factor) → InShape shape g ↔ InValue map domain s g

-- each list that has the cells of all its lists, each once, is acyclic
abbrev pub IsAcyclicShape : ℕ → List (List (List Factor)) → Type 0
IsAcyclicShape p shape = (value : List (List Factor))
    → ((i j : ℕ) → i < length value → j < length value → cell_at value i ≡ cell_at value j → i ≡ j)
    → ((g : List Factor) → Contains value g ↔ InShape shape g) → IsAcyclic p value

-- those of the shapes that are not empty are so
abbrev pub AreAcyclicShapes : ℕ → List (List (List (List Factor))) → Type 0
AreAcyclicShapes p shapes =
    (shape : List (List (List Factor))) → Contains shapes shape → shape ≢ []
    → IsAcyclicShape p shape

-- the second shape is the first, which is not empty, moved
pub record IsMovedShape (from to : List (List (List Factor))) : Type 0 where
  pub some : from ≢ []
  pub by : List ℤ
  pub is : to ≡ map (map (moved by)) from

-- as many numbers in each, and those of the third list are the sums of those of the others
pub record AreEndsMoved (by from to : List ℤ) : Type 0 where
  pub count : length by ≡ length from
  pub count_to : length from ≡ length to
  pub sums : (i : ℕ) → i < length from → slice_index_or from i (pos 0) +ℤ slice_index_or by i
      (pos 0) ≡ slice_index_or to i (pos 0)
