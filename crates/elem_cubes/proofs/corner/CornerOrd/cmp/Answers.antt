use Rattle.std.proofs.Common.{ap, ◌∙◌, take}
use Rattle.std.specs.Ordering.{int_cmp}
use Rattle.std.specs.Cmp.Lexicographic.{slice_cmp}
use Rattle.elem_cubes.specs.Corners.{corner_cmp}
use Rattle.elem_cubes.specs.Packed.{words_of}
use Rattle.elem_cubes.proofs.Words.{corner_words}
use Rattle.elem_cubes.proofs.corner.CornerOrd.cmp.Goals as goal

pub returns : goal.returns
returns c =
    c.cmp.ensures ∙ ap (λ ws. slice_cmp int_cmp ws c.words-2.result) c.words.ensures ∙ ap (slice_cmp int_cmp (words_of c.self.inside.ends)) c.words-2.ensures
    ∙ corner_words c.self.inside.ends c.self.inside.len c.other.inside.ends c.other.inside.len c.self.invariant c.other.invariant
    ∙ ap (λ xs. corner_cmp xs (take c.other.inside.len c.other.inside.ends)) c.self.view_is
    ∙ ap (corner_cmp c.args.self.now) c.other.view_is
