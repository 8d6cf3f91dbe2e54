use Rattle.std.proofs.Common.{◌∙◌, ◌*◌, ℕ, ap, arith}
use Rattle.leray_conley.proofs.Filling.{filled_matrix}
use Rattle.leray_conley.proofs.matrix.Matrix.times_transposed.Goals as goal

pub returns : goal.returns
returns g c =
    let e = ap (λ (v : ℕ). v * c.rows-columns.result) c.rows.ensures.value in
    filled_matrix c.new.result c.args.self.now.rows c.args.other.now.rows c.loop-k.invariant c.rows-columns.ensures.value (omega arith) (c.new.ensures.rows ∙ c.rows-2.ensures.value) c.new.ensures.columns c.new.ensures.entries
