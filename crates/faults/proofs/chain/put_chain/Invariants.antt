use Rattle.std.proofs.Common.{◌≡◌, ◌++◌, take}
use Rattle.std.specs.Prelude.{codes}
use Rattle.std.specs.List.{flat_map}
use Rattle.faults.specs.ChainText.{term_text}
use Rattle.faults.proofs.chain.put_chain.Given as goal

abbrev pub invariant-loop-term : goal.invariant-loop-term
invariant-loop-term g l = l.to.items ≡ l.initial.to.items ++ flat_map (λ t. codes " + " ++ term_text g.G.Generator.text t) (take l.term-index l.rest)
