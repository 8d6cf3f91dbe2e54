-- A front of the bytes stands in the file, and no count fell.
use Rattle.std.proofs.Common.{length, take, ◌-◌, ◌≡◌, ◌≤◌}
use Rattle.outside.specs.Told.{Told}
use Rattle.outside.specs.Causes.{NoneFell}
use Rattle.outside.specs.Disk.{Puts}
use Rattle.witness_delivery.proofs.whole_file.put_file.Given as goal

abbrev pub invariant-loop-done : goal.invariant-loop-done
invariant-loop-done g l =
    let before = g.F.Files.seen l.fn.files in
    let now = g.F.Files.seen l.files in
    record {
      within : l.done ≤ length l.bytes;
      stands : Told before.holds now.holds (Puts l.name (take l.done l.bytes));
      later : before.write_faults l.name ≤ now.write_faults l.name;
      reads : NoneFell before.read_faults now.read_faults;
      writes : NoneFell before.write_faults now.write_faults;
      given : now.given ≡ before.given;
    }

abbrev pub decreases-loop-done : goal.decreases-loop-done
decreases-loop-done g l = length l.bytes - l.done
