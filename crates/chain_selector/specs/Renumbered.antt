-- Chains over the numbers of some cells, as chains over the numbers of others.
use Rattle.std.specs.Prelude.{◌≡◌, ℕ, ◌<◌, ◌≤◌, List, length}
use Rattle.field_mod.specs.Modular.{Same}
use Rattle.elem_cubes.specs.Cells.{Factor}
use Rattle.elem_cubes.specs.Laws.{cell_at}
use Rattle.chains.specs.Terms.{coefficient, IsNormal}
use Rattle.cell_complex.specs.Numbering.{by_cell}

-- the chain ts over the numbers of the cells `to` has at each of these the coefficient that the
-- chain cs over the numbers of the cells `of` has there, and names no other number
pub record IsRenumbered (p : ℕ) (of to : List (List Factor)) (cs ts : List (ℕ × ℕ)) : Type 0 where
  pub normal : IsNormal p ts
  pub within : (g : ℕ) → length to ≤ g → coefficient ts g ≡ 0
  pub at : (g : ℕ) → g < length to → Same p (coefficient ts g)
      (by_cell of (coefficient cs) (cell_at to g))
