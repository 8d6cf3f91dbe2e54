use Rattle.std.proofs.Common.{◌<◌, ◌+◌, ◌∙◌, ap, sym, arith, [], ◌∷◌, length, drop}
use Rattle.elem_cubes.specs.Faces.{closure_of}
use Rattle.elem_cubes.proofs.Making.{drop_next}
use Rattle.elem_cubes.proofs.Choosing.{closure_read}
use Rattle.elem_cubes.proofs.closure.ClosureIterator.next.Goals as goal

pub returns-clause-steps : goal.returns-clause-steps
returns-clause-steps c =
    let q = c.self.inside.cell in
    let n = c.self.inside.next in
    let h : n < length (closure_of q) = omega (arith, c.self.invariant.within, c.self.invariant.counted, c.if-self.false) in
    sym c.self.view_is ∙ drop_next (closure_of q) n [] h ∙ ap (λ r. r ∷ drop (n + 1) (closure_of q)) (closure_read q n [] h ∙ sym c.face_at-face.ensures)
