use Rattle.std.proofs.Common.{ℕ, ap, arith}
use Rattle.face_reduction.proofs.Tallying.{adds_none, adds_more}
use Rattle.face_reduction.proofs.cofaces.change_faces.Goals as goal

pub loop-place-init : goal.loop-place-init
loop-place-init g c = adds_none c.args.one c.args.number c.args.tallies.now

pub loop-place-preserved : goal.loop-place-preserved
loop-place-preserved g c =
    let t = c.term-face.ensures in
    let e = c.change_at.ensures in
    adds_more c.args.boundary.now c.args.one c.args.number c.args.tallies.now c.loop-place.tallies c.change_at.new.tallies c.loop-place.place c.term-face.result.0 c.term-face.result.1 (omega (arith, c.loop-place-test.true, c.len-place-end.ensures.count))
    (ap (λ (t : ℕ × ℕ). t.0) t.value) (ap (λ (t : ℕ × ℕ). t.1) t.value) t.alone t.nonzero c.loop-place.invariant e.length e.count e.sum e.counts e.sums
