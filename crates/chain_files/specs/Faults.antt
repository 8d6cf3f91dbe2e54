-- The faults of a chain file.
use Rattle.std.specs.Prelude.{ℕ, List}
use Rattle.chain_files.specs.Content.{Content}
use Rattle.chain_files.specs.ChainFile.{HasValue, IsRefusedAt}
use Rattle.chain_files.specs.Complexes.{IsNotComplexAt}
use Rattle.chain_files.specs.declared.fault.ChainFault.{ChainFault}
use Rattle.chain_files.specs.declared.fault.ChainFault.TheVariants.{At, NotComplex, NoMemory}

-- The text is refused there; or its value is no complex; or no memory was left.
abbrev pub IsFaultOf : ℕ → List ℕ → ChainFault → Type 0
IsFaultOf p text (At place cause) = IsRefusedAt p text place cause
IsFaultOf p text (NotComplex degree generator at value) = (content : Content)
    × HasValue p text content × IsNotComplexAt p content degree generator at value
IsFaultOf p text NoMemory = Unit {0}
