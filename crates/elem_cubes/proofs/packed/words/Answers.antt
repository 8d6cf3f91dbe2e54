use Rattle.std.proofs.Common.{arith, ◌∙◌, pos, ◌*◌, ◌+◌, rules, get_or}
use Rattle.std.specs.Int.{w32, w64}
use Rattle.std.specs.Prelude.{FitsSigned}
use Rattle.std.proofs.lemmas.Int.{to_z-of_z}
use Rattle.elem_cubes.specs.declared.packed.TheConstants.{WORDS}
use Rattle.elem_cubes.specs.Packed.{word}
use Rattle.elem_cubes.proofs.Words.{words_step}
use Rattle.elem_cubes.proofs.packed.words.Goals as goal

pub loop-i-preserved : goal.loop-i-preserved
loop-i-preserved c =
    let a = get_or c.args.ends.now (2 * c.loop-i.i) (pos 0) in
    let b = get_or c.args.ends.now (2 * c.loop-i.i + 1) (pos 0) in
    let f : FitsSigned w32 a = search rules in
    let g : FitsSigned w32 b = search rules in
    let h : FitsSigned w64 c.word.result = search rules in
    words_step WORDS c.args.ends.now c.loop-i.words c.loop-i.i _ (omega arith) (omega arith) c.loop-i.invariant (to_z-of_z w64 c.word.result h ∙ c.word.ensures ∙ λ i. word (to_z-of_z w32 a f i) (to_z-of_z w32 b g i))
