use Rattle.std.proofs.Common.{ℕ, ◌+◌, length}
use Rattle.field_mod.specs.Modular.{Same}
use Rattle.chains.specs.Terms.{coefficient}
use Rattle.algebraic_reduction.proofs.numbers.chain_of.Given as goal

abbrev pub invariant-taking : goal.invariant-taking
invariant-taking g l = (j : ℕ) → Same g.row.P (coefficient l.terms.items j + coefficient l.rest j) (coefficient l.fn.numbers j)

abbrev pub decreases-taking : goal.decreases-taking
decreases-taking g l = length l.rest
