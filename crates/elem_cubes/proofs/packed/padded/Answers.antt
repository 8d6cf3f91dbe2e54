use Rattle.std.proofs.Common.{arith, pos, rules, get_or}
use Rattle.std.specs.Int.{w32}
use Rattle.std.specs.Prelude.{FitsSigned}
use Rattle.std.proofs.lemmas.Int.{to_z-of_z}
use Rattle.elem_cubes.specs.declared.range.TheConstants.{MAX_EMBEDDING}
use Rattle.elem_cubes.proofs.Words.{pad_step}
use Rattle.elem_cubes.proofs.packed.padded.Goals as goal

pub loop-i-preserved : goal.loop-i-preserved
loop-i-preserved c =
    let x = get_or c.args.xs.now c.loop-i.i (pos 0) in
    let f : FitsSigned w32 x = search rules in
    pad_step MAX_EMBEDDING c.args.xs.now c.loop-i.ends c.loop-i.i _ (omega arith) (omega arith) c.loop-i.invariant (to_z-of_z w32 x f)
