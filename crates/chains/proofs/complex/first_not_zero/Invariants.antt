use Rattle.std.proofs.Common.{ℕ, ◌<◌}
use Rattle.chains.specs.ChainComplex.{IsNotZero}
use Rattle.chains.proofs.complex.first_not_zero.Given as goal

abbrev pub invariant-loop-place : goal.invariant-loop-place
invariant-loop-place g l = (j : ℕ) → j < l.place → (k : ℕ) → ¬ IsNotZero g.row.P l.boundaries j k
