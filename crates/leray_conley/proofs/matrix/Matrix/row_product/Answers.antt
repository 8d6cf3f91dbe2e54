use Rattle.std.proofs.Common.{◌∙◌, ◌%◌, ap, ℕ, arith}
use Rattle.leray_conley.specs.Products.{product, transpose}
use Rattle.leray_conley.specs.Tables.{entry}
use Rattle.leray_conley.proofs.Totals.{total-lists}
use Rattle.leray_conley.proofs.matrix.Matrix.row_product.Goals as goal

pub returns-clause-value : goal.returns-clause-value
returns-clause-value g c =
    let a = c.args.self.now in
    let b = c.args.other.now in
    let s = total-lists a.columns c.row.result.now c.row-2.result.now (entry a c.args.i) (entry b c.args.j) c.row.ensures.len c.row.ensures.value (λ l m. c.row-2.ensures.value l (let q = c.requires.fits in omega arith)) in
    ap (λ (v : ℕ). v % c.from.result) (c.dot.ensures ∙ s) ∙ ap (λ (v : ℕ). product a.columns (entry a) (transpose (entry b)) c.args.i c.args.j % v) c.from.ensures
