use Rattle.word_sweeps.proofs.FreeSlots.{vertex_some}
use Rattle.word_sweeps.proofs.pairs.vertex_at.Goals as goal

pub unwrap-requires : goal.unwrap-requires
unwrap-requires c = vertex_some c.args.corner c.new.result c.new.ensures c.len.ensures.corner
