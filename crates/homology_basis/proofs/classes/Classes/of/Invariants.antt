use Rattle.std.proofs.Common.{ℕ}
use Rattle.homology_basis.specs.Bases.{in_degree}
use Rattle.homology_basis.specs.Classes.{AreClassesBelow}
use Rattle.homology_basis.proofs.classes.Classes.of.Given as goal

abbrev pub invariant-loop-generator : goal.invariant-loop-generator
invariant-loop-generator g l = (k : ℕ) → AreClassesBelow g.row.P l.log.complex l.log.steps l.wanted l.generator k (in_degree l.classes k)
