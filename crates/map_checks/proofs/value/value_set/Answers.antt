use Rattle.std.proofs.Common.{◌∙◌, sym, subst, Option}
use Rattle.elem_cubes.specs.Covers.{covers_of}
use Rattle.cube_sets.specs.Sets.{Members}
use Rattle.map_checks.specs.declared.value.TheConstants.{MOST}
use Rattle.map_checks.proofs.Leaving.{in_set, out_of_set}
use Rattle.map_checks.proofs.Narrowing.{IsNarrowed, one_taken, one_passed, value_is, never_none, cell_in_range}
use Rattle.map_checks.proofs.value.value_set.Goals as goal

pub covers-cube-items-requires : goal.covers-cube-items-requires
covers-cube-items-requires c = cell_in_range c.args.domain.now c.args.cell.now c.len-members.ensures.set c.requires.cell

pub cells_of_value-requires : goal.cells_of_value-requires
cells_of_value-requires c = c.requires.named c.in-Some.cube (in_set c.args.domain.now.cells c.in-Some.cube (sym c.holds.ensures ∙ c.if-holds.true))

pub loop-cube-preserved-then-holds : goal.loop-cube-preserved-then-holds
loop-cube-preserved-then-holds c =
    one_taken c.args.map.now c.args.domain.now.cells (covers_of c.args.cell.now) MOST c.loop-cube.cube-iterator c.next.new.self c.in-Some.cube c.in-Some.ensures.steps
    c.loop-cube.so_far c.in_ok-cells.cells.cells c.in_ok-narrowed.field-0 (in_set c.args.domain.now.cells c.in-Some.cube (sym c.holds.ensures ∙ c.if-holds.true))
    c.in_ok-cells.ensures.cells c.in_ok-cells.ensures.few c.in_ok-narrowed.ensures.cells (c.in_ok-narrowed.ensures.dimension ∙ c.in_ok-cells.ensures.dimension) c.loop-cube.invariant

pub loop-cube-preserved : goal.loop-cube-preserved
loop-cube-preserved c =
    one_passed c.args.map.now c.args.domain.now.cells (covers_of c.args.cell.now) MOST c.loop-cube.cube-iterator c.next.new.self c.in-Some.cube c.in-Some.ensures.steps
    c.loop-cube.so_far (out_of_set c.args.domain.now.cells c.in-Some.cube (sym c.holds.ensures ∙ c.if-holds.false)) c.loop-cube.invariant

pub unreachable-requires : goal.unreachable-requires
unreachable-requires c =
    never_none c.args.map.now c.len-cubes.ensures.map c.args.domain.now.cells c.requires.named c.args.cell.now MOST c.loop-cube.cube-iterator c.in-None.ensures.steps.0 c.requires.cell
    (subst (λ (o : Option Members). IsNarrowed c.args.map.now c.args.domain.now.cells (covers_of c.args.cell.now) c.loop-cube.cube-iterator MOST o) c.in_default.is c.loop-cube.invariant)

pub returns : goal.returns
returns c =
    value_is c.args.map.now c.len-cubes.ensures.map c.args.domain.now.cells c.requires.named c.args.cell.now MOST c.in-Some-so_far.value c.loop-cube.cube-iterator c.in-None.ensures.steps.0 c.len-count.ensures.set
    (subst (λ (o : Option Members). IsNarrowed c.args.map.now c.args.domain.now.cells (covers_of c.args.cell.now) c.loop-cube.cube-iterator MOST o) c.in-Some-so_far.is c.loop-cube.invariant)
