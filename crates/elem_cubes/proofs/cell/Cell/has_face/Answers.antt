use Rattle.std.proofs.Common.{◌≡◌, ◌∙◌, ap, sym, length, eqb-true}
use Rattle.std.proofs.lemmas.List.{length-map}
use Rattle.elem_cubes.specs.Cells.{cell_of, low}
use Rattle.elem_cubes.specs.Faces.{is_face}
use Rattle.elem_cubes.proofs.FaceLemmas.{face-Decides, face_length}
use Rattle.elem_cubes.proofs.Keeping.{parts_kept, len_kept}
use Rattle.elem_cubes.proofs.cell.Cell.has_face.Goals as goal

pub are_parts-requires : goal.are_parts-requires
are_parts-requires c =
    ap length c.low_ends.ensures ∙ length-map c.args.self.now low ∙ sym (len_kept c.self.inside.ends c.self.inside.len c.self.inside.axes c.args.self.now c.self.invariant c.self.view_is)
    ∙ c.if-self-other.true ∙ len_kept c.other.inside.ends c.other.inside.len c.other.inside.axes c.args.other.now c.other.invariant c.other.view_is ∙ sym (length-map c.args.other.now low) ∙ sym (ap length c.low_ends-then-self-other.ensures)

pub returns-then-self-other : goal.returns-then-self-other
returns-then-self-other c =
    let e : c.are_parts.result ≡ is_face c.args.self.now c.args.other.now =
    c.are_parts.ensures
    ∙ ap (λ ls. is_face (cell_of ls c.self.inside.axes) (cell_of c.low_ends-then-self-other.result.now c.other.inside.axes)) c.low_ends.ensures
    ∙ ap (λ q. is_face q (cell_of c.low_ends-then-self-other.result.now c.other.inside.axes)) (sym (parts_kept c.self.inside.ends c.self.inside.len c.self.inside.axes c.args.self.now c.self.invariant c.self.view_is))
    ∙ ap (λ ls. is_face c.args.self.now (cell_of ls c.other.inside.axes)) c.low_ends-then-self-other.ensures
    ∙ ap (is_face c.args.self.now) (sym (parts_kept c.other.inside.ends c.other.inside.len c.other.inside.axes c.args.other.now c.other.invariant c.other.view_is)) in
    (λ t. (face-Decides c.args.self.now c.args.other.now).0 (sym e ∙ t), λ f. e ∙ (face-Decides c.args.self.now c.args.other.now).1 f)

pub returns-else-self-other : goal.returns-else-self-other
returns-else-self-other c = (
  λ t. absurd (c.if-self-other.false (eqb-true c.self.inside.len c.other.inside.len t)),
  λ f. absurd (c.if-self-other.false (len_kept c.self.inside.ends c.self.inside.len c.self.inside.axes c.args.self.now c.self.invariant c.self.view_is
      ∙ sym (face_length c.args.self.now c.args.other.now f)
      ∙ sym (len_kept c.other.inside.ends c.other.inside.len c.other.inside.axes c.args.other.now c.other.invariant c.other.view_is))),
)
