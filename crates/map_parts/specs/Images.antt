-- Images of all cells of a domain by the numbers of a witness file.
use Rattle.std.specs.Prelude.{ℕ, List, length}
use Rattle.elem_cubes.specs.Cells.{Factor}
use Rattle.elem_cubes.specs.Laws.{cell_at}
use Rattle.cube_sets.specs.Closures.{cells_of}
use Rattle.acyclic_values.specs.CarriedMaps.{IsCarriedMap}
use Rattle.map_checks.specs.Carriers.{Carrying}
use Rattle.witness_parts.specs.Filed.{AreFiled}

-- the chains are the images of the cells of the domain, in order, under one carried map
pub record AreFiledImages (p : ℕ) (c : Carrying) (images : List (List (ℕ × ℕ))) : Type 0 where
  pub map : List Factor → List Factor → ℕ
  pub carried : IsCarriedMap p c.map c.domain c.range map
  pub filed : AreFiled p (cells_of c.range) (length (cells_of c.domain))
      (λ i. map (cell_at (cells_of c.domain) i)) images
