use Rattle.std.proofs.Common.{◌≡◌, ◌+◌, ◌%◌, ◌^◌}
use Rattle.std.specs.Int.RustNames.{count_ones}
use Rattle.cell_points.proofs.mask.rank_at.Given as goal

abbrev pub invariant-loop-rank : goal.invariant-loop-rank
invariant-loop-rank l = l.left + count_ones (l.mask % 2 ^ l.rank) ≡ l.below
