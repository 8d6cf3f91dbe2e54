-- What the loop of `place_of` keeps, and what it counts down.
use Rattle.std.proofs.Common.{◌≡◌, drop, take, None, string_bytes}
use Rattle.outside.specs.Disk.{held}
use Rattle.outside.proofs.memory.files.place_of.Given as goal

abbrev pub invariant-loop-i : goal.invariant-loop-i
invariant-loop-i l = record {
  left : held string_bytes (λ b. b.items) (drop l.i l.files) l.name ≡ held string_bytes (λ b. b.items) l.files l.name;
  none : held string_bytes (λ b. b.items) (take l.i l.files) l.name ≡ None;
}
