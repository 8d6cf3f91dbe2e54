use Rattle.std.proofs.Common.{◌≡◌, ◌+◌, ◌*◌, ◌%◌, ◌<◌, ◌≤◌, ℕ, get_or}
use Rattle.leray_conley.proofs.row.add_multiple.Given as goal

abbrev pub invariant-loop-j : goal.invariant-loop-j
invariant-loop-j g l = record {
  done : (q : ℕ) → q < l.j → get_or l.row q 0 ≡ (get_or l.initial.row q 0 + l.by * get_or l.other q 0) % g.row.P;
  left : (q : ℕ) → l.j ≤ q → get_or l.row q 0 ≡ get_or l.initial.row q 0;
}
