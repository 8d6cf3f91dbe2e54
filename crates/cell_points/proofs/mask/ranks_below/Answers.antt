use Rattle.std.proofs.Common.{◌∙◌, ◌-◌, ap}
use Rattle.std.specs.Prelude.{bit_and}
use Rattle.std.specs.Int.RustNames.{count_ones}
use Rattle.std.proofs.lemmas.Nat.{one_shl, and_mask}
use Rattle.cell_points.proofs.mask.ranks_below.Goals as goal

pub returns : goal.returns
returns c = ap count_ones (ap (λ x. bit_and c.args.mask (x - 1)) (one_shl c.args.rank 16 c.requires) ∙ and_mask c.args.mask c.args.rank)
