use Rattle.std.proofs.Common.{ℕ, List, ◌+◌, arith, sym, subst}
use Rattle.elem_cubes.specs.Cells.{Factor}
use Rattle.cell_complex.specs.Numbering.{by_cell}
use Rattle.acyclic_values.specs.Contracted.{homotopy_in}
use Rattle.witness_parts.specs.Filed.{AreFiled}
use Rattle.witness_parts.proofs.Degrees.{filed_none, filed_more}
use Rattle.map_parts.proofs.values.filed_rows.Goals as goal

pub loop-place-init : goal.loop-place-init
loop-place-init g c =
    let rows : ℕ → List Factor → ℕ = λ m. by_cell c.args.value.now (homotopy_in c.args.contraction.now m) in
    subst (AreFiled g.row.P c.args.all.now 0 rows) (sym c.new-rows.ensures.items) (filed_none g.row.P c.args.all.now rows)

pub loop-place-preserved : goal.loop-place-preserved
loop-place-preserved g c =
    let rows : ℕ → List Factor → ℕ = λ m. by_cell c.args.value.now (homotopy_in c.args.contraction.now m) in
    subst (AreFiled g.row.P c.args.all.now (c.loop-place.place + 1) rows) (sym c.in_ok-push.ensures.items)
    (filed_more g.row.P c.args.all.now c.loop-place.place rows c.loop-place.rows.items c.in_ok-filed_row.field-0 c.loop-place.invariant c.in_ok-filed_row.ensures)

pub returns : goal.returns
returns g c =
    subst (λ (n : ℕ). AreFiled g.row.P c.args.all.now n (λ m. by_cell c.args.value.now (homotopy_in c.args.contraction.now m)) c.loop-place.rows.items)
    (omega (arith, c.loop-place-test.false, c.len-place-end.ensures.count)) c.loop-place.invariant
