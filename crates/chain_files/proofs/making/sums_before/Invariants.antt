use Rattle.std.proofs.Common.{◌≡◌, sum, take}
use Rattle.chain_files.specs.Making.{AreSumsBefore}
use Rattle.chain_files.proofs.making.sums_before.Given as goal

abbrev pub invariant-loop-number : goal.invariant-loop-number
invariant-loop-number l = AreSumsBefore l.numbers l.number-index l.sums.items × (l.before ≡ sum (take l.number-index l.numbers))
