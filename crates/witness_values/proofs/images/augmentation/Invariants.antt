use Rattle.std.proofs.Common.{◌≡◌, ◌%◌, ◌<◌, take}
use Rattle.chains.specs.Terms.{augmentation}
use Rattle.witness_values.proofs.images.augmentation.Given as goal

abbrev pub invariant-loop-place : goal.invariant-loop-place
invariant-loop-place g l = record {
  below : l.sum < g.row.P;
  value : l.sum ≡ augmentation (take l.place l.chain) % g.row.P;
}
