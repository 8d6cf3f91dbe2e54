use Rattle.std.proofs.Common.{arith, refl, get_or}
use Rattle.algebraic_reduction.specs.Laws.{left_of}
use Rattle.excision.proofs.Parted.{place_in, inside_now, entry_nonzero, face_listed, face_alive, part_take, part_end}
use Rattle.excision.proofs.part.reduce_part.Goals as goal

pub alive-requires : goal.alive-requires
alive-requires g c = (omega arith, inside_now c.args.log.complex c.loop-i.log.complex c.args.part.now (get_or c.args.part.now c.loop-i.i 0) c.loop-i.invariant.complex c.requires.inside (place_in c.args.part.now c.loop-i.i c.loop-i-test.true))

pub left_boundary-requires : goal.left_boundary-requires
left_boundary-requires g c = (omega arith, (omega arith, (omega arith, (inside_now c.args.log.complex c.loop-i.log.complex c.args.part.now (get_or c.args.part.now c.loop-i.i 0) c.loop-i.invariant.complex c.requires.inside (place_in c.args.part.now c.loop-i.i c.loop-i-test.true), c.alive.ensures.0 c.if-not-alive.false))))

pub reduce_pair-requires : goal.reduce_pair-requires
reduce_pair-requires g c =
    let h = get_or c.args.part.now c.loop-i.i 0 in
    let a = c.term-face.result.0 in
    let nonzero = entry_nonzero g.row.P c.in_ok-boundary.boundary c.term-face.result (left_of g.row.P c.loop-i.log.complex c.loop-i.log.steps h) c.term-face.ensures.alone c.term-face.ensures.nonzero c.term-face.ensures.below c.in_ok-boundary.ensures in
    let inside = inside_now c.args.log.complex c.loop-i.log.complex c.args.part.now in (
      omega arith,
      (
        omega arith,
        (
          (
            inside a c.loop-i.invariant.complex c.requires.inside (face_listed g.row.P c.args.log.complex c.loop-i.log.complex c.args.log.steps c.loop-i.log.steps c.args.part.now c.loop-i.i h refl c.loop-i.invariant c.requires.closed c.loop-i-test.true a nonzero),
            face_alive g.row.P c.args.log.complex c.loop-i.log.complex c.args.log.steps c.loop-i.log.steps c.args.part.now c.loop-i.i h refl c.loop-i.invariant c.requires.closed c.loop-i-test.true a nonzero (c.step_count.ensures.reduction c.args.field.listed),
          ),
          ((inside h c.loop-i.invariant.complex c.requires.inside (place_in c.args.part.now c.loop-i.i c.loop-i-test.true), c.alive.ensures.0 c.if-not-alive.false), nonzero),
        ),
      ),
    )

pub loop-i-preserved : goal.loop-i-preserved
loop-i-preserved g c =
    let h = get_or c.args.part.now c.loop-i.i 0 in
    let nonzero = entry_nonzero g.row.P c.in_ok-boundary.boundary c.term-face.result (left_of g.row.P c.loop-i.log.complex c.loop-i.log.steps h) c.term-face.ensures.alone c.term-face.ensures.nonzero c.term-face.ensures.below c.in_ok-boundary.ensures in
    part_take g.row.P c.args.log.complex c.loop-i.log.complex c.args.log.steps c.loop-i.log.steps c.args.part.now c.loop-i.i h refl c.loop-i.invariant c.requires.closed c.loop-i-test.true c.term-face.result.0 nonzero c.in_ok-log.log.complex c.in_ok-log.log.steps c.in_ok-log.ensures.complex c.in_ok-log.ensures.one_more

pub returns-clause-nothing_left : goal.returns-clause-nothing_left
returns-clause-nothing_left g c = part_end g.row.P c.args.log.complex c.loop-i.log.complex c.args.log.steps c.loop-i.log.steps c.args.part.now c.loop-i.i (omega arith) c.loop-i.invariant
