-- The faults of a map file.
use Rattle.std.specs.Prelude.{ℕ, List}
use Rattle.grid_files.specs.declared.fault.TextFault.{TextFault}
use Rattle.grid_files.specs.declared.fault.TextFault.TheVariants.{At, NoMemory}
use Rattle.map_files.specs.MapFile.{IsRefusedAt}

-- the text is refused there, or no memory was left
abbrev pub IsFaultOf : List ℕ → TextFault → Type 0
IsFaultOf text (At place cause) = IsRefusedAt text place cause
IsFaultOf text NoMemory = Unit {0}
