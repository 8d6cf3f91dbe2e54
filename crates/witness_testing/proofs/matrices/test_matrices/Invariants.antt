use Rattle.std.proofs.Common.{◌+◌, ◌*◌, ◌≤◌, ◌^◌}
use Rattle.witness_testing.proofs.Rows.{DegreesPassed}
use Rattle.witness_testing.proofs.matrices.test_matrices.Given as goal

abbrev pub invariant-loop-degree : goal.invariant-loop-degree
invariant-loop-degree g l = record {
  room : l.next ≤ l.line + l.degree * 2 ^ 32;
  passed : DegreesPassed l.domain l.range l.kept l.images l.top l.part l.map l.degree l.line l.next;
}
