-- What the first pass over a witness file of version 1 answers.
use Rattle.std.specs.Prelude.{◌≡◌, ℕ, ◌+◌, ◌⊎◌, List, IfSome}
use Rattle.witness_laws.specs.declared.law.Law.TheVariants.{Text, Cell}
use Rattle.witness_laws.specs.declared.law.WitnessFault.{WitnessFault}
use Rattle.witness_laws.specs.declared.law.WitnessFault.TheVariants.{At, NoMemory}
use Rattle.witness_laws.specs.Formats.{HasValue, MeetsFirst, IsFirstFault}
use Rattle.witness_laws.specs.Inputs.{Given}
use Rattle.witness_laws.specs.Tables.{tables_format}
use Rattle.witness_types.specs.Parts.{IsInOrder}
use Rattle.read_parts.specs.declared.parts.Parts.{Parts}
use Rattle.read_parts.specs.Values.{parts_value}

-- the lines have the value that the parts are, and none of them fails in the first pass
pub record IsRead (p : ℕ) (G : Given) (ts : List (List ℕ)) (parts : Parts p) : Type 0 where
  pub has : HasValue (tables_format p G) ts (parts_value G parts)
  pub first : MeetsFirst (tables_format p G) (parts_value G parts)
  pub order : IsInOrder G.top parts.domain
  pub range_order : IfSome parts.map (λ m. IsInOrder G.top m.range)

-- the first line that fails in the first pass, where lines count from 1 and the header has three
abbrev pub IsReadFault : ℕ → Given → List (List ℕ) → WitnessFault → Type 0
IsReadFault p G ts (At line law) = ((law ≡ Text) ⊎ (law ≡ Cell)) × (k : ℕ) × (line ≡ k + 4)
    × IsFirstFault (tables_format p G) ts k law
IsReadFault p G ts NoMemory = Unit {0}
