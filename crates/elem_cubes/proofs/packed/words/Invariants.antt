use Rattle.std.proofs.Common.{◌≡◌, ◌++◌, ◌-◌, ◌*◌, take, replicate, pos}
use Rattle.elem_cubes.specs.declared.packed.TheConstants.{WORDS}
use Rattle.elem_cubes.specs.Packed.{words_of}
use Rattle.elem_cubes.proofs.packed.words.Given as goal

abbrev pub invariant-loop-i : goal.invariant-loop-i
invariant-loop-i l = l.words ≡ words_of (take (2 * l.i) l.ends) ++ replicate (WORDS - l.i) (pos 0)
