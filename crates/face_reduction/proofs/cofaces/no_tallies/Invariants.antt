use Rattle.std.proofs.Common.{◌≡◌, ℕ, length}
use Rattle.face_reduction.specs.Cofaces.{count_at, sum_at}
use Rattle.face_reduction.proofs.cofaces.no_tallies.Given as goal

abbrev pub invariant-loop-index : goal.invariant-loop-index
invariant-loop-index l = record {
  count : length l.tallies.items ≡ l._index;
  none : (n : ℕ) → (count_at l.tallies.items n ≡ 0) × (sum_at l.tallies.items n ≡ 0);
}
