use Rattle.std.proofs.Common.{ℕ, ◌+◌, ◌*◌, take}
use Rattle.field_mod.specs.Modular.{Same}
use Rattle.chains.specs.Terms.{coefficient}
use Rattle.chain_lists.proofs.sums.push_scaled.Given as goal

abbrev pub invariant-loop-place : goal.invariant-loop-place
invariant-loop-place g l = (h : ℕ) → Same g.row.P (coefficient l.terms.items h) (coefficient l.initial.terms.items h + l.scale * coefficient (take l.place l.chain) h)
