use Rattle.std.proofs.Common.{ap, ◌∙◌}
use Rattle.std.specs.Ordering.{ordering_then, int_cmp}
use Rattle.std.specs.Cmp.Lexicographic.{slice_cmp}
use Rattle.elem_cubes.specs.Packed.{words_of}
use Rattle.elem_cubes.proofs.Uses.{cells_cmp}
use Rattle.elem_cubes.proofs.cell.CellOrd.cmp.Goals as goal

pub returns : goal.returns
returns c =
    c.then.ensures
    ∙ ap (λ o. ordering_then o c.compare_axes-upper.result) (c.cmp-lower.ensures ∙ ap (λ ws. slice_cmp int_cmp ws c.words-2.result) c.words.ensures ∙ ap (slice_cmp int_cmp (words_of c.self.inside.ends)) c.words-2.ensures)
    ∙ cells_cmp c.self.inside.ends c.self.inside.len c.self.inside.axes c.args.self.now c.self.invariant c.self.view_is
    c.other.inside.ends c.other.inside.len c.other.inside.axes c.args.other.now c.other.invariant c.other.view_is c.compare_axes-upper.result c.compare_axes-upper.ensures
