use Rattle.std.proofs.Common.{ℕ, get_or}
use Rattle.leray_conley.proofs.matrix.Matrix.known_inverse.Goals as goal

pub unreachable-requires : goal.unreachable-requires
unreachable-requires g c =
    let h = rw c.in-Err-Singular.field-0-is at c.in-Err-Singular.ensures.fault in
    c.requires.unkilled (λ (j : ℕ). get_or c.in-Err-Singular.field-0-0.items j 0) h.0.killed
