use Rattle.std.proofs.Common.{ap, ◌∙◌, eqb, pos}
use Rattle.std.proofs.lemmas.Nat.Bits.{shr_and_one}
use Rattle.elem_cubes.specs.Cells.{point}
use Rattle.elem_cubes.proofs.Keeping.{wide_kept}
use Rattle.elem_cubes.proofs.cell.Cell.is_wide.Goals as goal

pub returns : goal.returns
returns c = ap (λ n. eqb n 1) (shr_and_one c.self.inside.axes c.args.i) ∙ wide_kept c.self.inside.ends c.self.inside.len c.self.inside.axes c.args.self.now c.self.invariant c.self.view_is c.args.i (point (pos 0)) c.requires
