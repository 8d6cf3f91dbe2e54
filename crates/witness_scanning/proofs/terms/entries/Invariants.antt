use Rattle.std.proofs.Common.{◌-◌, length}
use Rattle.witness_scanning.proofs.Progress.{HasReadEntries}
use Rattle.witness_scanning.proofs.terms.entries.Given as goal

abbrev pub invariant-loop-rest : goal.invariant-loop-rest
invariant-loop-rest l = HasReadEntries l.modulus l.width l.bytes l.entries.items l.rest

abbrev pub decreases-loop-rest : goal.decreases-loop-rest
decreases-loop-rest l = l.width - length l.entries.items
