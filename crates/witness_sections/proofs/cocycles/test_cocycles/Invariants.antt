use Rattle.std.proofs.Common.{◌≡◌, ◌+◌, drop}
use Rattle.witness_laws.specs.Lines.{Side, each}
use Rattle.witness_laws.specs.Inputs.{Given}
use Rattle.witness_laws.specs.Tables.{Tables, holds, pair_of}
use Rattle.witness_sections.specs.Outcomes.{ArePassed}
use Rattle.witness_sections.specs.Readings.{IsSideOf, cocycles_in, cycle_count}
use Rattle.witness_sections.proofs.cocycles.test_cocycles.Given as goal

abbrev pub invariant-loop-degree : goal.invariant-loop-degree
invariant-loop-degree g l = record {
  left : l.next + cycle_count (drop l.degree l.section.degrees.items) ≡ l.line + cycle_count l.section.degrees.items;
  passed : (G : Given) (W : Tables) (side : Side) → IsSideOf l.section G W side → ArePassed (holds g.row.P G W) (each l.degree (λ k. cocycles_in k (pair_of W side) side)) l.line l.next;
}
