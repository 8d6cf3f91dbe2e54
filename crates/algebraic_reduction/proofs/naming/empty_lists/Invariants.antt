use Rattle.std.proofs.Common.{◌≡◌, length}
use Rattle.algebraic_reduction.proofs.naming.empty_lists.Given as goal

abbrev pub invariant-loop-index : goal.invariant-loop-index
invariant-loop-index l = length l.lists.items ≡ l._index
