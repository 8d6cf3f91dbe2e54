use Rattle.witness_sections.specs.Readings.{AreDegreesOf}
use Rattle.witness_sections.proofs.section.read_degrees.Given as goal

abbrev pub invariant-loop-degree : goal.invariant-loop-degree
invariant-loop-degree g l = AreDegreesOf l.cells l.to l.part l.degree l.degrees.items
