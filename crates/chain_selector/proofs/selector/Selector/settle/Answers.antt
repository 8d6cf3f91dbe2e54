use Rattle.std.proofs.Common.{arith}
use Rattle.elem_cubes.proofs.FaceLemmas.{face_refl}
use Rattle.chain_selector.proofs.Settling.{extends_itself, extends_on}
use Rattle.chain_selector.proofs.Reading.{still_cell}
use Rattle.chain_selector.proofs.selector.Selector.settle.Goals as goal

pub loop-dimension-init : goal.loop-dimension-init
loop-dimension-init g c = record { extends = extends_itself c.args.self.now; selection = c.dimension-dimension.ensures.selection; kept = λ r f l. absurd (omega arith) }

pub settle_faces-requires : goal.settle_faces-requires
settle_faces-requires g c = ((omega arith), ((omega arith), (still_cell c.args.self.now c.loop-dimension.self c.args.cell.now c.loop-dimension.invariant.extends c.requires, c.loop-dimension.invariant.kept)))

pub loop-dimension-preserved : goal.loop-dimension-preserved
loop-dimension-preserved g c = record {
  extends = extends_on c.args.self.now c.loop-dimension.self c.settle_faces.new.self c.loop-dimension.invariant.extends c.settle_faces.ensures.extends;
  selection = c.settle_faces.ensures.selection;
  kept = c.in_ok-settle_faces.ensures.kept;
}

pub returns-clause-kept : goal.returns-clause-kept
returns-clause-kept g c = c.loop-dimension.invariant.kept c.args.cell.now (face_refl c.args.cell.now) (omega (arith, c.loop-dimension-test.false, c.dim-dimension-end.ensures.dimension))
