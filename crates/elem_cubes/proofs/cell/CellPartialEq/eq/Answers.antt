use Rattle.std.proofs.Common.{ap, ◌∙◌, sym}
use Rattle.std.specs.Ordering.{int_eq}
use Rattle.std.specs.Cmp.Lexicographic.{pointwise}
use Rattle.elem_cubes.specs.Packed.{words_of}
use Rattle.elem_cubes.proofs.Uses.{same_axes, other_words}
use Rattle.elem_cubes.proofs.cell.CellPartialEq.eq.Goals as goal

pub returns-then-eq : goal.returns-then-eq
returns-then-eq c =
    same_axes c.self.inside.ends c.self.inside.len c.self.inside.axes c.args.self.now c.self.invariant c.self.view_is
    c.other.inside.ends c.other.inside.len c.other.inside.axes c.args.other.now c.other.invariant c.other.view_is
    (ap (λ ws. pointwise int_eq ws (words_of c.other.inside.ends)) (sym c.words.ensures) ∙ ap (pointwise int_eq c.words.result) (sym c.words-2.ensures) ∙ sym c.eq.ensures ∙ c.if-eq.true)

pub returns-else-eq : goal.returns-else-eq
returns-else-eq c =
    c.if-eq.false
    ∙ other_words c.self.inside.ends c.self.inside.len c.self.inside.axes c.args.self.now c.self.invariant c.self.view_is
    c.other.inside.ends c.other.inside.len c.other.inside.axes c.args.other.now c.other.invariant c.other.view_is
    (ap (λ ws. pointwise int_eq ws (words_of c.other.inside.ends)) (sym c.words.ensures) ∙ ap (pointwise int_eq c.words.result) (sym c.words-2.ensures) ∙ sym c.eq.ensures ∙ c.if-eq.false)
