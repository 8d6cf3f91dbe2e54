-- What is left to show of `pour_front`.
use Rattle.std.proofs.Common.{◌∙◌, length-drop, arith}
use Rattle.outside.proofs.Streams.{appends_more}
use Rattle.outside.proofs.real.pour_front.Goals as goal

pub loop-sent-preserved : goal.loop-sent-preserved
loop-sent-preserved g c = record {
  within = let b = rw c.in-Ok.ensures.ok.0 at c.write.ensures.bound in omega (arith, length-drop c.loop-sent.sent c.args.piece.now);
  gained = appends_more _ _ _ _ _ c.args.piece.now c.loop-sent.invariant.gained (rw c.in-Ok.ensures.ok.0 at c.write.ensures.bytes);
  errors = c.in-Ok.ensures.counts ∙ c.loop-sent.invariant.errors;
}
