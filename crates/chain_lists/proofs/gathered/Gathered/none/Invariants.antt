use Rattle.chain_lists.proofs.Gathering.{EmptyTo}
use Rattle.chain_lists.proofs.gathered.Gathered.none.Given as goal

abbrev pub invariant-loop : goal.invariant-loop
invariant-loop l = EmptyTo (λ y. y.items) l.lists.items l.counter
