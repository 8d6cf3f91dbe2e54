use Rattle.std.proofs.Common.{ℕ, ◌+◌, ◌++◌, ◌≡◌, take}
use Rattle.chains.specs.Terms.{coefficient}
use Rattle.cell_complex.proofs.complex.add_turned.Given as goal

abbrev pub invariant-loop-place : goal.invariant-loop-place
invariant-loop-place l = (g : ℕ)
    → coefficient l.terms.items g + coefficient (take l.place l.more) g ≡ coefficient (l.fn.terms.items ++ l.more) g
