use Rattle.std.proofs.Common.{◌∙◌, ◌*◌, ℕ, ap, arith, length, refl}
use Rattle.leray_conley.proofs.Filling.{filled_matrix}
use Rattle.leray_conley.proofs.matrix.Matrix.columns_at.Goals as goal

pub returns : goal.returns
returns g c =
    let w = length c.args.places.now in
    let e = ap (λ (v : ℕ). v * w) c.rows.ensures.value in
    let t = c.loop-k-test.false in
    filled_matrix c.new.result c.args.self.now.rows w c.loop-k.invariant refl (omega arith) (c.new.ensures.rows ∙ c.rows-2.ensures.value) c.new.ensures.columns c.new.ensures.entries
