use Rattle.std.proofs.Common.{arith, subst, length, List}
use Rattle.field_mod.proofs.Table.{two_le}
use Rattle.elem_cubes.specs.Cells.{Factor}
use Rattle.chain_selector.specs.Renumbered.{IsRenumbered}
use Rattle.chain_selector.proofs.Values.{not_empty, acyclic_value, closed_value}
use Rattle.chain_selector.proofs.Vertices.{right_vertex, vertex_past}
use Rattle.chain_selector.proofs.selector.Selector.vertex_image.Goals as goal

pub first_vertex-place-requires-clause-some : goal.first_vertex-place-requires-clause-some
first_vertex-place-requires-clause-some g c = not_empty c.args.value.now (acyclic_value g.row.P c.args.self.now.carrying c.dimension-dimension.ensures.selection.carrier c.args.cell.now c.requires.domain c.args.value.now c.requires.value).some

pub first_vertex-place-requires-clause-closed : goal.first_vertex-place-requires-clause-closed
first_vertex-place-requires-clause-closed g c = closed_value g.row.P c.args.self.now.carrying c.dimension-dimension.ensures.selection.carrier c.args.cell.now c.requires.domain c.args.value.now c.requires.value

pub renumbered-requires : goal.renumbered-requires
renumbered-requires g c = ((omega arith), ((omega arith), vertex_past g.row.P c.first_vertex-place.result (length c.args.value.now) c.in_ok-vertex.vertex c.first_vertex-place.ensures.inside c.in_ok-vertex.ensures.sum))

pub returns : goal.returns
returns g c =
    right_vertex g.row.P c.args.self.now c.dimension-dimension.ensures.selection (omega (arith, two_le g.row.P c.args.field.listed)) c.args.cell.now c.requires.domain c.args.value.now c.requires.value
    c.first_vertex-place.result c.first_vertex-place.ensures.inside c.first_vertex-place.ensures.vertex c.requires.vertex c.in_ok-vertex.vertex c.in_ok-image.image c.in_ok-vertex.ensures.sum
    (subst (λ (cells : List (List Factor)). IsRenumbered g.row.P c.args.value.now cells c.in_ok-vertex.vertex c.in_ok-image.image) c.range_cells.ensures c.in_ok-image.ensures)
