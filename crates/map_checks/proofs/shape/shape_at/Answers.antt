use Rattle.std.proofs.Common.{◌∙◌, sym, ap, List, [], ◌∷◌, ◌++◌}
use Rattle.elem_cubes.specs.Cells.{Factor}
use Rattle.elem_cubes.specs.Covers.{covers_of}
use Rattle.map_checks.proofs.Leaving.{in_set, out_of_set}
use Rattle.map_checks.proofs.Narrowing.{cell_in_range}
use Rattle.map_checks.proofs.Shaping.{shaped_passed, shaped_taken, shaped_at}
use Rattle.map_checks.proofs.shape.shape_at.Goals as goal

pub covers-cube-items-requires : goal.covers-cube-items-requires
covers-cube-items-requires c = cell_in_range c.args.domain.now c.args.cell.now c.len-members.ensures.set c.requires.cell

pub named_value-requires : goal.named_value-requires
named_value-requires c = c.requires.named c.in-Some.cube (in_set c.args.domain.now.cells c.in-Some.cube (sym c.holds.ensures ∙ c.if-holds.true))

pub loop-cube-preserved-in-Continue-1 : goal.loop-cube-preserved-in-Continue-1
loop-cube-preserved-in-Continue-1 c =
    shaped_taken c.args.map.now.named c.args.domain.now.cells (covers_of c.args.cell.now) c.loop-cube.cube-iterator c.next.new.self c.in-Some.cube c.in-Some.ensures.steps c.loop-cube.shape c.add.new.self
    (c.in_ok-add.ensures ∙ ap (λ (v : List (List Factor)). c.loop-cube.shape ++ v ∷ []) c.named_value.ensures) (in_set c.args.domain.now.cells c.in-Some.cube (sym c.holds.ensures ∙ c.if-holds.true)) c.loop-cube.invariant

pub loop-cube-preserved : goal.loop-cube-preserved
loop-cube-preserved c =
    shaped_passed c.args.map.now.named c.args.domain.now.cells (covers_of c.args.cell.now) c.loop-cube.cube-iterator c.next.new.self c.in-Some.cube c.in-Some.ensures.steps c.loop-cube.shape
    (out_of_set c.args.domain.now.cells c.in-Some.cube (sym c.holds.ensures ∙ c.if-holds.false)) c.loop-cube.invariant

pub returns : goal.returns
returns c =
    shaped_at c.args.map.now c.len-cubes.ensures.map c.args.domain.now.cells c.requires.named c.args.cell.now c.loop-cube.cube-iterator c.loop-cube.shape c.in-None.ensures.steps.0 c.loop-cube.invariant
