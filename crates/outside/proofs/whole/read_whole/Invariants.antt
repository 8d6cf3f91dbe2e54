-- What the loop of `read_whole` keeps, and what it counts down.
use Rattle.std.proofs.Common.{◌≡◌, ◌+◌, ◌-◌, ◌≤◌, ◌^◌, length, take, IfSome}
use Rattle.outside.specs.Causes.{NoneFell, more}
use Rattle.outside.specs.Disk.{content}
use Rattle.outside.proofs.whole.read_whole.Given as goal

abbrev pub invariant-loop-block : goal.invariant-loop-block
invariant-loop-block g l = record {
  front : IfSome (g.F.Files.seen l.fn.files).holds (λ disk. l.bytes.items ≡ take (length l.bytes.items) (content disk l.name));
  within : length l.bytes.items ≤ l.limit + 1;
  limit : l.limit ≤ 2 ^ 30;
  holds : (g.F.Files.seen l.files).holds ≡ (g.F.Files.seen l.fn.files).holds;
  reads : NoneFell (g.F.Files.seen l.fn.files).read_faults (g.F.Files.seen l.files).read_faults;
  writes : NoneFell (g.F.Files.seen l.fn.files).write_faults (g.F.Files.seen l.files).write_faults;
  given : more (g.F.Files.seen l.files).given 0 ≡ more (g.F.Files.seen l.fn.files).given (length l.bytes.items);
  most : (g.F.Files.seen l.files).given ≤ (g.F.Files.seen l.fn.files).given + length l.bytes.items;
}

abbrev pub decreases-loop-block : goal.decreases-loop-block
decreases-loop-block g l = l.limit + 1 - length l.bytes.items
