use Rattle.std.proofs.Common.{◌^◌, arith, ap, ◌∙◌}
use Rattle.elem_cubes.specs.Cells.{upper_of, cell_of}
use Rattle.cell_points.proofs.Edges.{edge_made, made_some, same_some, edge_upper}
use Rattle.cell_points.proofs.places.up_along.Goals as goal

pub unwrap-edge-requires : goal.unwrap-edge-requires
unwrap-edge-requires c = made_some c.new.result _ (c.new.ensures ∙ edge_made c.args.corner.now c.args.axis c.requires.axis (omega (arith, c.len.ensures.len, c.len.ensures.few)) c.requires.range)

pub returns : goal.returns
returns c =
    c.upper.ensures
    ∙ ap upper_of (same_some c.new.result c.unwrap-edge.result (cell_of c.args.corner.now (2 ^ c.args.axis)) c.unwrap-edge.ensures
    (c.new.ensures ∙ edge_made c.args.corner.now c.args.axis c.requires.axis (omega (arith, c.len.ensures.len, c.len.ensures.few)) c.requires.range))
    ∙ edge_upper c.args.corner.now c.args.axis c.requires.axis
