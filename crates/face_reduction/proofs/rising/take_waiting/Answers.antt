use Rattle.std.proofs.Common.{refl, ◌∙◌, arith}
use Rattle.field_mod.proofs.Table.{two_le}
use Rattle.face_reduction.proofs.Pairing.{collapse_none, collapse_both}
use Rattle.face_reduction.proofs.Taking.{took, one_less, steps_kept, complex_kept}
use Rattle.face_reduction.proofs.rising.take_waiting.Goals as goal

pub pairs-init : goal.pairs-init
pairs-init g c = record {
  complex = refl;
  collapse = collapse_none c.args.cells.now c.args.log.steps c.len.ensures.sorted;
  tallies = c.requires.tallies;
}

pub pairs-smaller : goal.pairs-smaller
pairs-smaller g c = one_less c.args.cells.now c.pairs.log.steps c.in_ok-log.log.steps c.in-Some.pair.0 c.in-Some.pair.1 c.len.ensures.sorted c.in-Some.ensures.some c.in_ok-log.ensures.taken

pub next_rising-requires : goal.next_rising-requires
next_rising-requires g c = (
  omega arith,
  (complex_kept g.row.P c.args.cells.now c.args.log.complex c.pairs.log.complex c.pairs.invariant.complex c.requires.complex, (two_le g.row.P c.args.field.listed, c.pairs.invariant.tallies)),
)

pub take_pair-requires : goal.take_pair-requires
take_pair-requires g c =
    let i = c.pairs.invariant in
    let complex = complex_kept g.row.P c.args.cells.now c.args.log.complex c.pairs.log.complex i.complex c.requires.complex in
    let steps = steps_kept c.args.cells.now c.args.log.steps c.pairs.log.steps c.len.ensures.sorted i.collapse c.requires.steps in
    (omega arith, (omega arith, (complex, (steps, (i.tallies, (c.in-Some.ensures.inside, c.in-Some.ensures.some))))))

pub pairs-preserved : goal.pairs-preserved
pairs-preserved g c =
    let i = c.pairs.invariant in
    let cells = c.args.cells.now in
    record {
      complex = c.in_ok-log.ensures.complex ∙ i.complex;
      collapse = collapse_both cells c.args.log.steps c.pairs.log.steps c.in_ok-log.log.steps c.len.ensures.sorted i.collapse
          (took cells c.pairs.log.steps c.in_ok-log.log.steps c.in-Some.pair.0 c.in-Some.pair.1 c.in-Some.ensures.some c.in_ok-log.ensures.taken);
      tallies = c.in_ok-log.ensures.tallies;
    }
