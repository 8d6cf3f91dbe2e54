use Rattle.std.proofs.Common.{arith}
use Rattle.leray_conley.specs.Tables.{entry}
use Rattle.leray_conley.proofs.Algebra.{by, chain, mul_one}
use Rattle.leray_conley.proofs.Transfers.{entries_same, squared_power}
use Rattle.leray_conley.proofs.matrix.Matrix.raise.Goals as goal

pub loop-exponent-init : goal.loop-exponent-init
loop-exponent-init g c =
    let a = c.args.self.now in
    let h = c.requires.copy in
    record { rows = h.has_rows; columns = h.has_columns; positive = (omega arith); value = chain (entries_same g.row.P c.args.current.now h) (by (mul_one g.row.P a.rows a.rows (entry a))) }

pub loop-exponent-preserved : goal.loop-exponent-preserved
loop-exponent-preserved g c =
    let a = c.args.self.now in
    let i = c.loop-exponent.invariant in
    let s = squared_power g.row.P a.rows c.loop-exponent.exponent (entry a) c.loop-exponent.current c.in_ok-square.square i.rows i.columns i.value c.in_ok-square.ensures in
    let q = i.positive in
    record { rows = s.rows; columns = s.columns; positive = (omega arith); value = s.value }

pub returns : goal.returns
returns g c =
    let i = c.loop-exponent.invariant in
    let m = c.rows.ensures.value in
    let f = c.from-size.ensures in
    let t = c.loop-exponent-test.false in
    record { has_rows = i.rows; has_columns = i.columns; exponent = c.loop-exponent.exponent; high = (omega arith); is_power = i.value }
