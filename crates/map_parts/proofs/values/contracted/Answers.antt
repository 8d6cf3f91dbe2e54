use Rattle.std.proofs.Common.{◌≡◌, suc, List, length, subst}
use Rattle.elem_cubes.specs.Cells.{Factor}
use Rattle.elem_cubes.specs.Laws.{cell_at}
use Rattle.cell_complex.specs.Numbering.{by_cell, number_of}
use Rattle.acyclic_values.specs.Contracted.{homotopy_in}
use Rattle.witness_parts.specs.Filed.{AreFiled}
use Rattle.map_parts.proofs.Contracting.{filed_contraction}
use Rattle.map_parts.proofs.values.contracted.Goals as goal

pub returns : goal.returns
returns g c =
    let all = c.args.all.now in
    let k = c.in_ok-contraction.contraction in
    filed_contraction g.row.P all c.args.value.now k c.filed_vertex-vertex.result c.in_ok-rows.rows.items c.in_ok-contraction.ensures
    (subst (λ (l : List (List Factor)). c.filed_vertex-vertex.result ≡ suc (number_of all (cell_at l k.vertex))) c.in_ok-cells.ensures c.filed_vertex-vertex.ensures)
    (subst (λ (l : List (List Factor)). AreFiled g.row.P all (length l) (λ m. by_cell l (homotopy_in k m)) c.in_ok-rows.rows.items) c.in_ok-cells.ensures c.in_ok-rows.ensures)
