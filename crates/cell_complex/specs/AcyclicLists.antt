-- Acyclic, said of a list that has each of its cells once and with each its faces: the sum of a
-- 0-chain is over the list itself. By a law such a list is acyclic exactly where it is as a set;
-- proofs that go along a list take this form.
use Rattle.std.specs.Prelude.{◌≢◌, ℕ, ◌+◌, ◌≤◌, List, [], ◌∷◌}
use Rattle.field_mod.specs.Modular.{Same}
use Rattle.elem_cubes.specs.Cells.{Factor}
use Rattle.elem_cubes.specs.Order.{cell_cmp}
use Rattle.chains.specs.Homology.{System, IsChain, IsCycle, IsNull}
use Rattle.cube_sets.specs.Sorted.{has}
use Rattle.cell_complex.specs.RelativeComplex.{complex_on}

-- the complex on the cells of a list
abbrev pub complex_of_cells : ℕ → List (List Factor) → System (List Factor)
complex_of_cells p cells = complex_on p (has cell_cmp cells)

-- the augmentation of a 0-chain on the cells of a list: the sum of its coefficients
abbrev pub augmentation_over : List (List Factor) → (List Factor → ℕ) → ℕ
augmentation_over [] c = 0
augmentation_over (q ∷ qs) c = c q + augmentation_over qs c

-- not empty, each 0-chain of augmentation 0 is the boundary of a chain on the list, and so is each
-- cycle of degree 1 or more
pub record IsAcyclicList (p : ℕ) (cells : List (List Factor)) : Type 0 where
  pub some : cells ≢ []
  pub points : (c : List Factor → ℕ) → IsChain p (complex_of_cells p cells) 0 c
      → Same p (augmentation_over cells c) 0 → IsNull p (complex_of_cells p cells) 0 c
  pub cycles : (k : ℕ) (z : List Factor → ℕ) → 1 ≤ k → IsCycle p (complex_of_cells p cells) k z
      → IsNull p (complex_of_cells p cells) k z
