-- Logs of numbered cells: steps by free pairs.
use Rattle.std.specs.Prelude.{◌≡◌, ◌<◌, ℕ, List, [], ◌∷◌, ◌++◌, length, Bool}
use Rattle.elem_cubes.specs.Cells.{Factor}
use Rattle.elem_cubes.specs.Laws.{cell_at}
use Rattle.algebraic_reduction.specs.Reduction.{Step}
use Rattle.cell_complex.specs.FreePairs.{IsFreePair, AreFreeInTurn}
use Rattle.excision.specs.Left.{is_left}
use Rattle.excision.specs.Taking.{TakeFaces}

-- the pairs of cells that the steps take
abbrev pub cell_pairs : List (List Factor) → List Step → List (List Factor × List Factor)
cell_pairs cells [] = []
cell_pairs cells (s ∷ ss) = (cell_at cells s.a, cell_at cells s.b) ∷ cell_pairs cells ss

-- the first steps take exactly the faces of some cubes, as a growth does, and the later ones take
-- free pairs
pub record IsGrowthThenCollapse (cells : List (List Factor)) (ss : List Step) : Type 0 where
  pub cubes : List (List Factor)
  pub first : List Step
  pub later : List Step
  pub steps : ss ≡ first ++ later
  pub growth : TakeFaces cells cubes first
  pub collapse : AreFreeInTurn (is_left cells first) (cell_pairs cells later)

-- the new steps are the old ones and further ones, which take these pairs in this order
pub record TakesPairs (cells : List (List Factor)) (pairs : List (List Factor × List Factor))
    (old new : List Step) : Type 0 where
  pub more : List Step
  pub steps : new ≡ old ++ more
  pub taken : cell_pairs cells more ≡ pairs

-- the new steps are the old ones and further ones, which take free pairs
pub record IsCollapse (cells : List (List Factor)) (old new : List Step) : Type 0 where
  pub more : List Step
  pub steps : new ≡ old ++ more
  pub free : AreFreeInTurn (is_left cells old) (cell_pairs cells more)

-- b is the number of a cell that is left, and with the cell of the number a it is a free pair of
-- those that are left
pub record IsFreeNumber (cells : List (List Factor)) (ss : List Step) (a b : ℕ) : Type 0 where
  pub inside : b < length cells
  pub free : IsFreePair (is_left cells ss) (cell_at cells a) (cell_at cells b)

-- the cell is the face of a free pair
abbrev pub IsFreeFace : (List Factor → Bool) → List Factor → Type 0
IsFreeFace alive a = (b : List Factor) × IsFreePair alive a b
