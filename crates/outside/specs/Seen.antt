-- What files tell and count.
use Rattle.std.specs.Prelude.{ℕ, List, Option}
use Rattle.outside.specs.Disk.{Disk}

pub record Seen : Type 0 where
  -- what the files hold, where told
  pub holds : Option Disk
  -- how often reads failed, and writes, for each name
  pub read_faults : List ℕ → ℕ
  pub write_faults : List ℕ → ℕ
  -- how many bytes the reads gave, up to 2 ^ 64 - 1
  pub given : ℕ
