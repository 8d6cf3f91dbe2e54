use Rattle.std.proofs.Common.{refl, ◌∙◌, arith}
use Rattle.face_reduction.proofs.Pairing.{collapse_none, collapse_both}
use Rattle.face_reduction.proofs.Taking.{steps_kept, complex_kept}
use Rattle.face_reduction.proofs.rising.take_rising.Goals as goal

pub faces-init : goal.faces-init
faces-init g c = record {
  complex = refl;
  collapse = collapse_none c.args.cells.now c.args.log.steps c.len.ensures.sorted;
  tallies = c.requires.tallies;
}

pub take_waiting-requires : goal.take_waiting-requires
take_waiting-requires g c =
    let i = c.faces.invariant in
    let complex = complex_kept g.row.P c.args.cells.now c.args.log.complex c.faces.log.complex i.complex c.requires.complex in
    let steps = steps_kept c.args.cells.now c.args.log.steps c.faces.log.steps c.len.ensures.sorted i.collapse c.requires.steps in
    (omega arith, (omega arith, (complex, (steps, i.tallies))))

pub faces-preserved : goal.faces-preserved
faces-preserved g c =
    let i = c.faces.invariant in
    record {
      complex = c.in_ok-log.ensures.complex ∙ i.complex;
      collapse = collapse_both c.args.cells.now c.args.log.steps c.faces.log.steps c.in_ok-log.log.steps c.len.ensures.sorted i.collapse c.in_ok-log.ensures.collapse;
      tallies = c.in_ok-log.ensures.tallies;
    }
