-- The faults of a set file.
use Rattle.std.specs.Prelude.{ℕ, List}
use Rattle.grid_files.specs.SetFile.{IsRefusedAt}
use Rattle.grid_files.specs.declared.fault.Kind.{Kind}
use Rattle.grid_files.specs.declared.fault.TextFault.{TextFault}
use Rattle.grid_files.specs.declared.fault.TextFault.TheVariants.{At, NoMemory}

-- the text is refused there, or no memory was left
abbrev pub IsFaultOf : Kind → List ℕ → TextFault → Type 0
IsFaultOf kind text (At place cause) = IsRefusedAt kind text place cause
IsFaultOf kind text NoMemory = Unit {0}
