use Rattle.std.proofs.Common.{◌≡◌, ◌+◌, ◌*◌, ap, ◌∙◌, arith}
use Rattle.hole_squares.specs.Columns.{columns}
use Rattle.hole_squares.proofs.Making.{is_hole_set, squares_few, squares_alike}
use Rattle.hole_squares.proofs.squares.hole_squares.Goals as goal

pub of_cells-requires-clause-few : goal.of_cells-requires-clause-few
of_cells-requires-clause-few c =
    let e : c.loop-x.x ≡ 2 * c.args.n + 1 = omega arith in
    let few = squares_few c.args.n c.loop-x.squares.items (c.loop-x.invariant ∙ ap (columns (2 * c.args.n + 1)) e) c.requires in
    omega (arith, few, c.loop-x.squares.ok.0)

pub of_cells-requires-clause-alike : goal.of_cells-requires-clause-alike
of_cells-requires-clause-alike c =
    let e : c.loop-x.x ≡ 2 * c.args.n + 1 = omega arith in
    squares_alike c.args.n _ (c.loop-x.invariant ∙ ap (columns (2 * c.args.n + 1)) e) c.requires

pub returns : goal.returns
returns c =
    let e : c.loop-x.x ≡ 2 * c.args.n + 1 = omega arith in
    is_hole_set c.args.n c.loop-x.squares.items (c.loop-x.invariant ∙ ap (columns (2 * c.args.n + 1)) e) c.in_ok-set.set c.in_ok-set.ensures.dimension c.len-count.ensures.set c.in_ok-set.ensures.members
