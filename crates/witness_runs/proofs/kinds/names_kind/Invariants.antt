use Rattle.std.proofs.Common.{take}
use Rattle.witness_runs.specs.Kinds.{NamesKind}
use Rattle.witness_runs.proofs.kinds.names_kind.Given as goal

abbrev pub invariant-loop-term : goal.invariant-loop-term
invariant-loop-term l = NamesKind l.kinds l.wanted (take l.term-index l.terms)
