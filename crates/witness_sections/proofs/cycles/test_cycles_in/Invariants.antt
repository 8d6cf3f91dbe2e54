use Rattle.std.proofs.Common.{[], ◌∷◌}
use Rattle.witness_laws.specs.Lines.{Side, cycle, each}
use Rattle.witness_laws.specs.Inputs.{Given}
use Rattle.witness_laws.specs.Tables.{Tables, holds}
use Rattle.witness_sections.specs.Outcomes.{Meet}
use Rattle.witness_sections.specs.Readings.{IsSideOf}
use Rattle.witness_sections.proofs.cycles.test_cycles_in.Given as goal

abbrev pub invariant-loop-index : goal.invariant-loop-index
invariant-loop-index g l = (G : Given) (W : Tables) (side : Side) → IsSideOf l.section G W side → Meet (holds g.row.P G W) (each l.index (λ i. cycle side l.degree i ∷ []))
