-- What stands after a run that came to its writing.
use Rattle.std.specs.Prelude.{◌≡◌, ℕ, List, Option, Some, None, true}
use Rattle.outside.specs.Told.{Told}
use Rattle.outside.specs.Causes.{Rose}
use Rattle.outside.specs.Disk.{Disk, Puts, MayPut}
use Rattle.outside.specs.Seen.{Seen}

-- a file that is to be written: its name and its bytes
pub record WholeFile : Type 0 where
  pub name : List ℕ
  pub bytes : List ℕ

abbrev pub whole : List ℕ → List ℕ → WholeFile
whole name bytes = record { name = name; bytes = bytes }

-- the files hold what they held; but the one that was to be written, where there is one, has its
-- bytes
abbrev pub HoldsFile : Option WholeFile → Option Disk → Option Disk → Type 0
HoldsFile None old new = new ≡ old
HoldsFile (Some file) old new = Told old new (Puts file.name file.bytes)

-- the file was not written whole: it holds what it held or a front of its bytes, its count of failed
-- writes rose, and all other files stay
abbrev pub LacksFile : Option WholeFile → Seen → Seen → Type 0
LacksFile None old new = ⊥
LacksFile (Some file) old new = Told old.holds new.holds (MayPut true file.name file.bytes)
    × Rose (old.write_faults file.name) (new.write_faults file.name)
