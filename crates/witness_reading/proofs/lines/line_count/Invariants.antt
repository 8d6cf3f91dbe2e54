use Rattle.std.proofs.Common.{◌≤◌, ◌+◌}
use Rattle.std.specs.Prelude.{if◌then◌else◌}
use Rattle.witness_reading.proofs.Splitting.{AreBefore}
use Rattle.witness_reading.proofs.lines.line_count.Given as goal

abbrev pub invariant-loop-byte : goal.invariant-loop-byte
invariant-loop-byte l = record {
  before : AreBefore l.bytes l.byte-index l.count l.inside;
  few : l.count + (if l.inside then 1 else 0) ≤ l.byte-index;
}
