use Rattle.std.proofs.Common.{◌≡◌, ◌++◌, ◌-◌, take, replicate}
use Rattle.elem_cubes.specs.declared.range.TheConstants.{MAX_EMBEDDING}
use Rattle.elem_cubes.specs.declared.packed.TheConstants.{PADDING}
use Rattle.elem_cubes.proofs.packed.padded.Given as goal

abbrev pub invariant-loop-i : goal.invariant-loop-i
invariant-loop-i l = l.ends ≡ take l.i l.xs ++ replicate (MAX_EMBEDDING - l.i) PADDING
