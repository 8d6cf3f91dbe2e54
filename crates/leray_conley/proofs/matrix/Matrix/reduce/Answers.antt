use Rattle.std.proofs.Common.{◌≡◌, ◌+◌, ℕ, arith, subst}
use Rattle.leray_conley.specs.Echelons.{IsReduction}
use Rattle.leray_conley.specs.Products.{identity}
use Rattle.leray_conley.specs.Splitting.{beside}
use Rattle.leray_conley.specs.Tables.{entry}
use Rattle.leray_conley.proofs.Reductions.{reduced_more}
use Rattle.leray_conley.proofs.matrix.Matrix.reduce.Goals as goal

pub loop-i-preserved : goal.loop-i-preserved
loop-i-preserved g c =
    let a = c.args.self.now in
    reduced_more g.row.P (a.columns + c.args.extra) c.loop-i.i (beside a.columns (entry a) identity) c.loop-i.echelon.rows.items c.insert.new.self.rows.items c.loop-i.echelon.pivots.items c.insert.new.self.pivots.items c.in_ok-row.row
    c.loop-i.invariant c.in_ok-row.ensures c.in_ok-insert.ensures.form c.in_ok-insert.ensures.kernel

pub returns : goal.returns
returns g c =
    let a = c.args.self.now in
    let e : c.loop-i.i ≡ a.rows = omega arith in
    subst (λ (m : ℕ). IsReduction g.row.P (a.columns + c.args.extra) m (beside a.columns (entry a) identity) c.loop-i.echelon.rows.items c.loop-i.echelon.pivots.items) e c.loop-i.invariant
