use Rattle.std.proofs.Common.{◌≡◌, ◌+◌, ◌*◌, ◌<◌, ℕ, length, get_or}
use Rattle.leray_conley.specs.Echelons.{IsRightBlock, cell}
use Rattle.leray_conley.proofs.inverse.right_block.Given as goal

abbrev pub invariant-loop-j : goal.invariant-loop-j
invariant-loop-j g l = record {
  count : length l.entries.items ≡ l.j * l.size;
  below : (q : ℕ) → q < length l.entries.items → get_or l.entries.items q 0 < g.row.P;
  block : IsRightBlock l.size (length l.echelon.rows.items) (cell l.echelon.rows.items) (λ k. get_or l.echelon.pivots.items k 0) (λ q i. get_or l.entries.items (q * l.size + i) 0) l.j;
}
