use Rattle.std.proofs.Common.{ℕ, ap, arith}
use Rattle.face_reduction.proofs.Cofacing.{woken_more, woken_end}
use Rattle.face_reduction.proofs.cofaces.wake_faces.Goals as goal

pub loop-place-init : goal.loop-place-init
loop-place-init g c = record { kept = λ k w. w; woken = λ k l. absurd (omega arith) }

pub loop-place-preserved : goal.loop-place-preserved
loop-place-preserved g c = woken_more c.args.tallies.now c.args.boundary.now c.args.waiting.now c.loop-place.waiting c.wake.new.waiting c.loop-place.place c.term-face.result.0 (ap (λ (t : ℕ × ℕ). t.0) c.term-face.ensures.value) c.loop-place.invariant c.in_ok-wake.ensures.kept c.in_ok-wake.ensures.woken

pub returns-clause-woken : goal.returns-clause-woken
returns-clause-woken g c = woken_end c.args.tallies.now c.args.boundary.now c.args.waiting.now c.loop-place.waiting c.loop-place.place (omega (arith, c.loop-place-test.false, c.len-place-end.ensures.count)) c.loop-place.invariant
