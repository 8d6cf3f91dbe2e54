-- What is left to show of `fill_front`.
use Rattle.std.proofs.Common.{◌∙◌}
use Rattle.outside.proofs.Streams.{placed_within, consumes_more}
use Rattle.outside.proofs.real.fill_front.Goals as goal

pub loop-filled-preserved : goal.loop-filled-preserved
loop-filled-preserved g c =
    let bound = (rw c.in_ok-n.ensures.ok at c.read.ensures.bound).0 in
    let bytes = (rw c.in_ok-n.ensures.ok at c.read.ensures.bytes).0 in
    record {
      within = placed_within _ c.in_ok-n.n c.loop-filled.buf c.read.new.buf _ c.loop-filled.invariant.within bound;
      taken = consumes_more _ _ _ _ c.in_ok-n.n c.loop-filled.buf c.read.new.buf _ c.loop-filled.invariant.within bound
          c.loop-filled.invariant.taken bytes;
      errors = c.in_ok-n.ensures.counts ∙ c.loop-filled.invariant.errors;
    }
