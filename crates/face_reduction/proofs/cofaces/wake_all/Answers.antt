use Rattle.face_reduction.proofs.Cofacing.{all_more}
use Rattle.face_reduction.proofs.cofaces.wake_all.Goals as goal

pub loop-face-preserved : goal.loop-face-preserved
loop-face-preserved c = all_more c.args.tallies.now c.loop-face.waiting c.wake_last.new.waiting c.loop-face.face c.loop-face.invariant c.in_ok-wake_last.ensures.kept c.in_ok-wake_last.ensures.woken
