use Rattle.cube_sets.proofs.Steps.{something, union-most}
use Rattle.cube_sets.proofs.sorted.union_of_all.Goals as goal

pub unwrap-requires : goal.unwrap-requires
unwrap-requires g c = something _ _ _ c.in_ok-all.ensures.more (union-most g.T.Ord.cmp c.args.left.now c.args.right.now)
