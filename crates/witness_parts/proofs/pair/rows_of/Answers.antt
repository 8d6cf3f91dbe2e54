use Rattle.std.proofs.Common.{ℕ, List, ◌+◌, arith, sym, subst}
use Rattle.elem_cubes.specs.Cells.{Factor}
use Rattle.cell_complex.specs.Numbering.{by_cell}
use Rattle.homology_basis.specs.Bases.{homotopy_in}
use Rattle.witness_parts.specs.Filed.{AreFiled}
use Rattle.witness_parts.proofs.Degrees.{filed_none, filed_more}
use Rattle.witness_parts.proofs.pair.rows_of.Goals as goal

pub loop-generator-init : goal.loop-generator-init
loop-generator-init g c =
    let rows : ℕ → List Factor → ℕ = λ s. by_cell c.args.cells.now (homotopy_in g.row.P c.args.basis.now s) in
    subst (AreFiled g.row.P c.args.all.now 0 rows) (sym c.new-rows.ensures.items) (filed_none g.row.P c.args.all.now rows)

pub loop-generator-preserved : goal.loop-generator-preserved
loop-generator-preserved g c =
    let rows : ℕ → List Factor → ℕ = λ s. by_cell c.args.cells.now (homotopy_in g.row.P c.args.basis.now s) in
    subst (AreFiled g.row.P c.args.all.now (c.loop-generator.generator + 1) rows) (sym c.in_ok-push.ensures.items)
    (filed_more g.row.P c.args.all.now c.loop-generator.generator rows c.loop-generator.rows.items c.in_ok-filed_row.field-0 c.loop-generator.invariant c.in_ok-filed_row.ensures)

pub returns : goal.returns
returns g c =
    subst (λ (n : ℕ). AreFiled g.row.P c.args.all.now n (λ s. by_cell c.args.cells.now (homotopy_in g.row.P c.args.basis.now s)) c.loop-generator.rows.items)
    (omega (arith, c.loop-generator-test.false, c.len-generator-end.ensures.count)) c.loop-generator.invariant
