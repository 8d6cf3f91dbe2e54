-- Bases of the pairs of a map, and what is made of them.
use Rattle.std.specs.Prelude.{◌≡◌, ℕ, List}
use Rattle.elem_cubes.specs.Cells.{Factor}
use Rattle.homology_basis.specs.Bases.{BasisOfLog, CyclesOfLog, IsBasisWithContraction}
use Rattle.map_homology.specs.declared.bases.PairCells.{PairCells}
use Rattle.map_homology.specs.Bases.{IsBasisOfPair, cycles_alone}
use Rattle.map_parts.specs.Maps.{top_of_map}
use Rattle.pair_maps.specs.declared.inputs.PairMap.{PairMap}
use Rattle.witness_parts.specs.Tables.{section_by, IsPartOf}
use Rattle.witness_types.specs.declared.part.PairPart.{PairPart}

-- the part in a witness of the map is that of a basis over these cells of the domain, whose cycles
-- these are
pub record IsPartOfCycles (p : ℕ) (m : PairMap) (cells : List (List Factor)) (A : CyclesOfLog)
    (part : PairPart p) : Type 0 where
  pub basis : BasisOfLog
  pub same : A ≡ cycles_alone basis
  pub is : IsBasisWithContraction p basis
  pub is_part : IsPartOf (top_of_map m.map m.x m.a m.y m.b) m.x.cells m.a.cells
      (section_by p cells basis) part

-- A and B are bases of both pairs, and the part is that of the domain
pub record AreBasesMade (p : ℕ) (m : PairMap) (domain : PairCells) (A : CyclesOfLog)
    (part : PairPart p) (range : PairCells) (B : BasisOfLog) : Type 0 where
  pub of_domain : IsBasisOfPair p m.x.cells m.a.cells domain A
  pub of_range : IsBasisOfPair p m.y.cells m.b.cells range (cycles_alone B)
  pub of_part : IsPartOfCycles p m domain.cells A part
