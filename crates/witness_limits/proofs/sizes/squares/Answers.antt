use Rattle.std.proofs.Common.{◌≡◌, ◌+◌, ◌<◌, length, [], refl, ap, ◌∙◌, arith}
use Rattle.std.proofs.lemmas.List.{get_or_read}
use Rattle.elem_cubes.specs.Laws.{cell_at}
use Rattle.cube_sets.specs.Closures.{cells_of}
use Rattle.witness_laws.specs.Inputs.{all_cells}
use Rattle.witness_limits.proofs.Measuring.{cell_inside, squares_more}
use Rattle.witness_limits.proofs.sizes.squares.Goals as goal

pub square_at-requires-clause-cell : goal.square_at-requires-clause-cell
square_at-requires-clause-cell c =
    let inside : c.loop-i.i < length c.cells-cells.result.now = omega (arith, c.loop-i-test.true) in
    cell_inside c.args.domain.now.cells c.cells-cells.result.now c.args.cells.now.cells c.loop-i.i c.index-cells-i.result c.cells-cells.ensures.cells c.requires.cells inside c.index-cells-i.is

pub loop-i-preserved : goal.loop-i-preserved
loop-i-preserved c =
    let m = c.args.map.now in
    let cells = c.cells-cells.result.now in
    let i = c.loop-i.i in
    let s = c.index-cells-i.result in
    let inside : i < length cells = omega (arith, c.loop-i-test.true) in
    let all : cells ≡ all_cells m.x.cells m.a.cells = c.cells-cells.ensures.cells ∙ c.requires.cells ∙ ap cells_of c.requires.domain in
    let at : s ≡ cell_at cells i = get_or_read cells i s inside c.index-cells-i.is [] in
    squares_more m c.requires.few c.requires.sound cells i c.loop-i.size c.in_ok-size.field-0 (c.loop-i.size + c.in_ok-size.field-0) s all at c.loop-i.invariant.0 c.loop-i.invariant.1 c.in_ok-size.ensures.square c.in_ok-size.ensures.small refl
