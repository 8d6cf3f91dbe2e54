use Rattle.std.proofs.Common.{take}
use Rattle.chain_files.specs.Making.{AreChains}
use Rattle.chain_files.proofs.making.chains_of.Given as goal

abbrev pub invariant-loop-entry : goal.invariant-loop-entry
invariant-loop-entry g l = AreChains g.row.P (take l.entry-index l.entries) l.chains.items
