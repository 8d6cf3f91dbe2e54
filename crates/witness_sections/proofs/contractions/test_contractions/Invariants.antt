use Rattle.std.proofs.Common.{[], ◌∷◌}
use Rattle.witness_laws.specs.Lines.{Side, homotopy, each}
use Rattle.witness_laws.specs.Inputs.{Given}
use Rattle.witness_laws.specs.Tables.{Tables, holds}
use Rattle.witness_sections.specs.Outcomes.{Meet}
use Rattle.witness_sections.specs.Readings.{IsSideOf}
use Rattle.witness_sections.proofs.contractions.test_contractions.Given as goal

abbrev pub invariant-loop-cell : goal.invariant-loop-cell
invariant-loop-cell g l = (G : Given) (W : Tables) (side : Side) → IsSideOf l.section G W side → Meet (holds g.row.P G W) (each l.cell (λ i. homotopy side i ∷ []))
