use Rattle.std.proofs.Common.{take}
use Rattle.witness_sections.proofs.Termwise.{IsReadTo}
use Rattle.witness_sections.proofs.reading.read_chain.Given as goal

abbrev pub invariant-loop-place : goal.invariant-loop-place
invariant-loop-place g l = IsReadTo l.cells l.to (take l.place l.chain) l.terms.items
