use Rattle.std.proofs.Common.{lit<, ◌%◌, ◌*◌, ◌<◌, ℕ, ap, arith}
use Rattle.std.proofs.lemmas.Result.{IfOk-weaker}
use Rattle.field_mod.proofs.Table.{two_le}
use Rattle.leray_conley.specs.Products.{product}
use Rattle.leray_conley.specs.Tables.{entry}
use Rattle.leray_conley.proofs.Filling.{map_entries, product_entries, resized}
use Rattle.leray_conley.proofs.matrix.Matrix.times.Goals as goal

pub times_transposed-requires : goal.times_transposed-requires
times_transposed-requires g c =
    let t = two_le g.row.P c.args._f.listed in
    let h = c.in_ok-turned.ensures in
    let q = c.requires.fits in
    let e = ap (λ (v : ℕ). c.args.self.now.rows * v) h.has_rows in
    let b = c.requires.bound in
    (lit< tt, (let u : 0 < g.row.P = omega arith in u, ((omega arith), (omega arith))))

pub returns : goal.returns
returns g c =
    let h = c.in_ok-turned.ensures in
    let a = c.args.self.now in
    let b = c.args.other.now in
    IfOk-weaker _ _ _ (λ m k. map_entries (λ i j. product a.columns (entry a) (entry b) i j % g.row.P) (resized k h.has_rows) (λ i j li lj. product_entries g.row.P a.columns (entry a) (entry c.in_ok-turned.turned) (entry b) i j (λ l ll. h.at j l lj (let q = c.requires.fits in omega arith)))) c.times_transposed.ensures
