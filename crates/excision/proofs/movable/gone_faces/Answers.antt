use Rattle.std.proofs.Common.{arith, sym, subst, List}
use Rattle.elem_cubes.specs.Cells.{Factor}
use Rattle.cell_complex.specs.Sorted.{IsSortedCells}
use Rattle.excision.specs.Left.{is_gone}
use Rattle.excision.proofs.Gone.{rest_end, dead_few, dead_alike, sorted_of_set}
use Rattle.excision.proofs.movable.gone_faces.Goals as goal

pub of_cells-requires-clause-few : goal.of_cells-requires-clause-few
of_cells-requires-clause-few g c =
    let t = is_gone c.args.cells.now c.args.log.now.steps in
    let e = rest_end t c.args.cell.now c.loop-face.gone.items c.loop-face.face-iterator c.in-None.ensures.steps.0 c.loop-face.invariant in
    let h = dead_few t c.args.cell.now c.loop-face.gone.items e (omega (arith, c.embedding-dimension.ensures.embedding, c.embedding-dimension.ensures.few)) in
    omega arith

pub of_cells-requires-clause-alike : goal.of_cells-requires-clause-alike
of_cells-requires-clause-alike g c =
    let t = is_gone c.args.cells.now c.args.log.now.steps in
    let e = rest_end t c.args.cell.now c.loop-face.gone.items c.loop-face.face-iterator c.in-None.ensures.steps.0 c.loop-face.invariant in
    dead_alike t c.args.cell.now c.loop-face.gone.items c.embedding-dimension.result e c.embedding-dimension.ensures.embedding c.requires.range

pub of_sorted-requires : goal.of_sorted-requires
of_sorted-requires g c = subst (λ (xs : List (List Factor)). IsSortedCells xs) (sym c.cells.ensures.cells) (sorted_of_set c.in_ok-set.set c.cells.ensures.set)
