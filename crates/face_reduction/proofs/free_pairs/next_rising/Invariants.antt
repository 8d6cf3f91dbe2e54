use Rattle.std.proofs.Common.{length}
use Rattle.face_reduction.proofs.free_pairs.next_rising.Given as goal

abbrev pub decreases-looking : goal.decreases-looking
decreases-looking g l = length l.waiting
