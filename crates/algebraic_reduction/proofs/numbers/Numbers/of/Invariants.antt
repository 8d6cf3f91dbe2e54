use Rattle.std.proofs.Common.{ℕ, take}
use Rattle.field_mod.specs.Modular.{Same}
use Rattle.chains.specs.Terms.{coefficient}
use Rattle.algebraic_reduction.proofs.numbers.Numbers.of.Given as goal

abbrev pub invariant-loop-index : goal.invariant-loop-index
invariant-loop-index g l = (j : ℕ) → Same g.row.P (coefficient l.numbers j) (coefficient (take l.index l.chain) j)
