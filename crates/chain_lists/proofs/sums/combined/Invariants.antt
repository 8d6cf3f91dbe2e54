use Rattle.std.proofs.Common.{ℕ, take}
use Rattle.field_mod.specs.Modular.{Same}
use Rattle.chains.specs.Terms.{coefficient}
use Rattle.chains.specs.ChainComplex.{boundary}
use Rattle.chain_lists.proofs.sums.combined.Given as goal

abbrev pub invariant-loop-index : goal.invariant-loop-index
invariant-loop-index g l = (at : ℕ) → Same g.row.P (coefficient l.products.items at) (boundary l.chains (coefficient (take l.index l.coefficients)) at)
