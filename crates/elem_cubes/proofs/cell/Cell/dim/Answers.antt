use Rattle.std.proofs.Common.{arith}
use Rattle.elem_cubes.proofs.Bits.{few_intervals}
use Rattle.elem_cubes.proofs.Keeping.{dimension_kept, cell_kept, not_many}
use Rattle.elem_cubes.proofs.cell.Cell.dim.Goals as goal

pub returns-clause-dimension : goal.returns-clause-dimension
returns-clause-dimension c = dimension_kept c.self.inside.ends c.self.inside.len c.self.inside.axes c.args.self.now c.self.invariant c.self.view_is

pub returns-clause-within : goal.returns-clause-within
returns-clause-within c = let e = dimension_kept c.self.inside.ends c.self.inside.len c.self.inside.axes c.args.self.now c.self.invariant c.self.view_is in omega (arith, few_intervals c.args.self.now)

pub returns-clause-few : goal.returns-clause-few
returns-clause-few c =
    let e = dimension_kept c.self.inside.ends c.self.inside.len c.self.inside.axes c.args.self.now c.self.invariant c.self.view_is in
    let m = not_many c.args.self.now (cell_kept c.self.inside.ends c.self.inside.len c.self.inside.axes c.args.self.now c.self.invariant c.self.view_is) in
    omega (arith, few_intervals c.args.self.now)
