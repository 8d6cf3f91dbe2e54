use Rattle.std.proofs.Common.{ℕ, ◌+◌, ◌*◌, take}
use Rattle.field_mod.specs.Modular.{Same}
use Rattle.chains.specs.Terms.{coefficient}
use Rattle.chains.proofs.complex.push_scaled.Given as goal

abbrev pub invariant-loop-index : goal.invariant-loop-index
invariant-loop-index g l = (h : ℕ) → Same g.row.P (coefficient l.products.items h) (coefficient l.initial.products.items h + l.scale * coefficient (take l.index l.chain) h)
