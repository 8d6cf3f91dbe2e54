use Rattle.witness_runs.specs.Runs.{HasRun, NameKinds}
use Rattle.witness_runs.proofs.runs.chains_due.Given as goal

abbrev pub invariant-loop-line : goal.invariant-loop-line
invariant-loop-line g l = record {
  run : HasRun g.row.P l.word l.first l.numbers l.line l.bytes l.chains.items l.rest;
  names : NameKinds l.kinds l.wanted l.chains.items l.line;
}
