use Rattle.std.proofs.Common.{◌<◌, ◌+◌, ◌∙◌, ap, sym, arith, [], ◌∷◌, length, drop}
use Rattle.elem_cubes.specs.Covers.{covers_of}
use Rattle.elem_cubes.proofs.Making.{drop_next}
use Rattle.elem_cubes.proofs.Covering.{covers_read}
use Rattle.elem_cubes.proofs.covers.CoversIterator.next.Goals as goal

pub returns-clause-steps : goal.returns-clause-steps
returns-clause-steps c =
    let q = c.self.inside.cell in
    let n = c.self.inside.next in
    let h : n < length (covers_of q) = omega (arith, c.self.invariant.0.within, c.self.invariant.0.counted, c.if-self.false) in
    sym c.self.view_is ∙ drop_next (covers_of q) n [] h ∙ ap (λ r. r ∷ drop (n + 1) (covers_of q)) (covers_read q n [] h ∙ sym c.cover_at-cover.ensures)
