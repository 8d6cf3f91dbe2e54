use Rattle.std.proofs.Common.{◌≡◌, ◌∙◌, arith}
use Rattle.map_checks.proofs.Moving.{moved_by_ends}
use Rattle.map_checks.proofs.moves.is_moved.Goals as goal

pub returns : goal.returns
returns c t =
    let same : c.axes.result ≡ c.axes-2.result = omega arith in
    moved_by_ends c.args.by.now c.coordinates.result.now c.coordinates-2.result.now c.args.from.now c.args.to.now c.axes.result c.axes-2.result c.axes.ensures.parts c.axes-2.ensures.parts same
    (c.coordinates.ensures.coordinates ∙ c.lower.ensures) (c.coordinates-2.ensures.coordinates ∙ c.lower-2.ensures) (c.are_ends_moved.ensures t)
