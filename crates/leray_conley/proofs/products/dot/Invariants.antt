use Rattle.std.proofs.Common.{◌≡◌, ◌*◌, ◌≤◌, get_or}
use Rattle.field_mod.specs.Sums.{total}
use Rattle.leray_conley.proofs.products.dot.Given as goal

abbrev pub invariant-loop-i : goal.invariant-loop-i
invariant-loop-i l = record { value : l.sum ≡ total l.i (λ k. get_or l.a k 0 * get_or l.b k 0); bound : l.sum ≤ l.i * 4294967296 }
