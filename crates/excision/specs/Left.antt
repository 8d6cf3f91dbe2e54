-- Logs of numbered cells: which cells their steps leave.
use Rattle.std.specs.Prelude.{◌≡◌, ◌<◌, ℕ, List, [], ◌∷◌, length, Bool, true, false, not, ◌&&◌, ◌==◌}
use Rattle.std.specs.List.{list_any}
use Rattle.elem_cubes.specs.Cells.{Factor}
use Rattle.elem_cubes.specs.Faces.{IsFace}
use Rattle.elem_cubes.specs.Order.{cell_cmp}
use Rattle.elem_cubes.specs.Laws.{cell_at}
use Rattle.cube_sets.specs.Sorted.{has}
use Rattle.algebraic_reduction.specs.Reduction.{Step, IsUnpaired}
use Rattle.cell_complex.specs.Numbering.{number_of}
use Rattle.cell_complex.specs.Acyclic.{IsAcyclic}
use Rattle.cell_complex.specs.Growth.{cells_in}

-- the generator is in no step, as a test
abbrev pub is_unpaired : List Step → ℕ → Bool
is_unpaired [] g = true
is_unpaired (s ∷ ss) g = not (g == s.a) && (not (g == s.b) && is_unpaired ss g)

-- the cell is numbered, and its number is in no step: it is left
abbrev pub is_left : List (List Factor) → List Step → List Factor → Bool
is_left cells ss c = has cell_cmp cells c && is_unpaired ss (number_of cells c)

-- it is not left
abbrev pub is_gone : List (List Factor) → List Step → List Factor → Bool
is_gone cells ss c = not (is_left cells ss c)

-- q may be moved into the cells that the test tells: it is none of them, and those of its cells
-- that are, are acyclic
pub record IsMovableInto (p : ℕ) (gone : List Factor → Bool) (q : List Factor) : Type 0 where
  pub new : gone q ≡ false
  pub acyclic : IsAcyclic p (cells_in gone q)

-- among the faces of q the test tells with a cell its faces
abbrev pub IsClosedIn : List Factor → (List Factor → Bool) → Type 0
IsClosedIn q gone = (c r : List Factor) → IsFace q c → IsFace c r → gone c ≡ true → gone r ≡ true

-- the number is that of a face of q that is left
pub record IsLeftFace (cells : List (List Factor)) (ss : List Step) (q : List Factor)
    (n : ℕ) : Type 0 where
  pub inside : n < length cells
  pub face : IsFace q (cell_at cells n)
  pub alive : IsUnpaired ss n

-- the number is one of these, as a test
abbrev pub is_one_of : List ℕ → ℕ → Bool
is_one_of ns g = list_any (λ n. n == g) ns
