-- The last line, and which line it is that fails.
use Rattle.std.specs.Prelude.{◌≡◌, ℕ, ◌+◌, ◌-◌, ◌⊎◌, List, ◌∷◌, ◌++◌, length, drop, codes}
use Rattle.witness_laws.specs.declared.law.Law.TheVariants as laws
use Rattle.witness_laws.specs.declared.law.WitnessFault.{WitnessFault}
use Rattle.witness_laws.specs.declared.law.WitnessFault.TheVariants as faults
use Rattle.witness_laws.specs.Lines.{lines_of}
use Rattle.witness_scanning.specs.Fronts.{BeginsOtherwise}
use Rattle.witness_runs.specs.declared.miss.Stop.{Stop}
use Rattle.witness_runs.specs.declared.miss.Stop.TheVariants as stops

-- a stop at a line is one of these; want of memory may always come
abbrev pub IfTold : (Stop → Type 0) → Stop → Type 0
IfTold S (stops.At left law) = S (stops.At left law)
IfTold S stops.NoMemory = Unit {0}

-- the last line does not stand at the front
pub record LacksEnd (bytes : List ℕ) (stop : Stop) : Type 0 where
  pub left_is : stop ≡ stops.At (length bytes) laws.Text
  pub here : BeginsOtherwise bytes (codes "end\n")

-- or something stands behind it
pub record GoesOn (bytes : List ℕ) (stop : Stop) : Type 0 where
  pub first : ℕ
  pub more : List ℕ
  pub split : bytes ≡ codes "end\n" ++ first ∷ more
  pub left_is : stop ≡ stops.At (length (first ∷ more)) laws.Text

abbrev pub StopsEnd : List ℕ → Stop → Type 0
StopsEnd bytes stop = LacksEnd bytes stop ⊎ GoesOn bytes stop

-- the number of the line at the front of the last bytes, of which there are so many, where lines
-- count from 1 and the three of the header stand before
abbrev pub line_from : List ℕ → ℕ → ℕ
line_from bytes left =
    length (lines_of bytes) - length (lines_of (drop (length bytes - left) bytes)) + 4

abbrev pub told_of : List ℕ → Stop → WitnessFault
told_of bytes (stops.At left law) = faults.At (line_from bytes left) law
told_of bytes stops.NoMemory = faults.NoMemory
