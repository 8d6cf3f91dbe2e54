use Rattle.excision.proofs.Owning.{EmptyTo}
use Rattle.excision.proofs.owners.Owners.none.Given as goal

abbrev pub invariant-loop : goal.invariant-loop
invariant-loop l = EmptyTo (λ y. y.items) l.lists.items l.counter
