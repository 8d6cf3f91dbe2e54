use Rattle.std.proofs.Common.{◌∙◌, arith}
use Rattle.cell_complex.proofs.Deciding.{closed}
use Rattle.chain_selector.proofs.Settling.{extends_itself, extends_on, settled_first, settled_more, settled_end, face_next, kept_faces_on}
use Rattle.chain_selector.proofs.Reading.{still_cell, lower_faces}
use Rattle.chain_selector.proofs.selector.Selector.settle_faces.Goals as goal

pub loop-face-init : goal.loop-face-init
loop-face-init g c = record {
  extends = extends_itself c.args.self.now;
  selection = c.dimension-dimension.ensures.selection;
  settled = settled_first c.args.self.now c.args.cell.now c.args.dimension c.into_iter-face-iterator.result (c.into_iter-face-iterator.ensures.into_iter_gives ∙ c.closure-face-items.ensures);
}

pub loop-face-preserved-then-dim-dimension : goal.loop-face-preserved-then-dim-dimension
loop-face-preserved-then-dim-dimension g c = record {
  extends = c.loop-face.invariant.extends;
  selection = c.loop-face.invariant.selection;
  settled = settled_more c.loop-face.self c.loop-face.self c.args.cell.now c.args.dimension c.loop-face.face-iterator c.next.new.self c.in-Some.face c.in-Some.ensures.steps c.loop-face.invariant.settled (extends_itself c.loop-face.self)
      (λ e. absurd (c.if-dim-dimension.true (c.dim.ensures.dimension ∙ e)));
}

pub keep-requires : goal.keep-requires
keep-requires g c =
    let d =
    still_cell c.args.self.now c.loop-face.self c.in-Some.face c.loop-face.invariant.extends
    (closed c.args.self.now.carrying.domain c.args.cell.now c.in-Some.face (face_next c.loop-face.self c.loop-face.self c.args.cell.now c.args.dimension c.loop-face.face-iterator c.next.new.self c.in-Some.face c.in-Some.ensures.steps c.loop-face.invariant.settled) c.requires.domain) in
    let f =
    lower_faces c.args.self.now c.loop-face.self c.args.cell.now c.in-Some.face c.args.dimension c.loop-face.invariant.extends c.requires.lower
    (face_next c.loop-face.self c.loop-face.self c.args.cell.now c.args.dimension c.loop-face.face-iterator c.next.new.self c.in-Some.face c.in-Some.ensures.steps c.loop-face.invariant.settled) (omega (arith, c.if-dim-dimension.false, c.dim.ensures.dimension)) in
    ((omega arith), ((omega arith), (d, f)))

pub returns-in_err-keep-clause-extends : goal.returns-in_err-keep-clause-extends
returns-in_err-keep-clause-extends g c = extends_on c.args.self.now c.loop-face.self c.keep.new.self c.loop-face.invariant.extends c.keep.ensures.extends

pub loop-face-preserved : goal.loop-face-preserved
loop-face-preserved g c = record {
  extends = extends_on c.args.self.now c.loop-face.self c.keep.new.self c.loop-face.invariant.extends c.keep.ensures.extends;
  selection = c.keep.ensures.selection;
  settled = settled_more c.loop-face.self c.keep.new.self c.args.cell.now c.args.dimension c.loop-face.face-iterator c.next.new.self c.in-Some.face c.in-Some.ensures.steps c.loop-face.invariant.settled c.keep.ensures.extends (λ e. c.in_ok-keep.ensures.kept);
}

pub returns-clause-kept : goal.returns-clause-kept
returns-clause-kept g c =
    settled_end c.loop-face.self c.args.cell.now c.args.dimension c.loop-face.face-iterator c.in-None.ensures.steps.0
    (kept_faces_on c.args.self.now c.loop-face.self c.args.cell.now c.args.dimension c.loop-face.invariant.extends c.requires.lower) c.loop-face.invariant.settled
