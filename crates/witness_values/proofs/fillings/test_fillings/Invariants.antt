use Rattle.witness_values.proofs.Filling.{FillingsMeet}
use Rattle.witness_values.proofs.fillings.test_fillings.Given as goal

abbrev pub invariant-loop-place : goal.invariant-loop-place
invariant-loop-place g l = FillingsMeet g.row.P l.complex l.fillings l.vertex l.place
