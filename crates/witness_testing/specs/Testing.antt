-- What is told of a value whose laws are tested.
use Rattle.std.specs.Prelude.{◌≡◌, ℕ, ◌+◌, ◌<◌, length, map, slice_index_or}
use Rattle.witness_laws.specs.declared.law.Law.{Law}
use Rattle.witness_laws.specs.declared.law.Law.TheVariants.{Text}
use Rattle.witness_laws.specs.declared.law.WitnessFault.{WitnessFault}
use Rattle.witness_laws.specs.declared.law.WitnessFault.TheVariants.{At, NoMemory}
use Rattle.witness_laws.specs.Formats.{Format, MeetsBefore, MeetsLaws, line_at}
use Rattle.witness_laws.specs.Inputs.{Given}
use Rattle.witness_laws.specs.Tables.{Tables, map_of, holds, lines_of_tables, tables_format}
use Rattle.witness_types.specs.declared.part.Claim.{Claim}
use Rattle.witness_types.specs.Answers.{IsClaimWith}
use Rattle.witness_sections.specs.Outcomes.{Meet}

-- line k of the value is the first that fails in the second pass, and the law is the first that it
-- fails by
pub record FailsAt {V : Type 0} (F : Format V) (v : V) (k : ℕ) (law : Law) : Type 0 where
  pub within : k < length (F.lines v)
  pub at : ℕ
  pub inside : at < length F.second
  pub named : law ≡ slice_index_or F.second at Text
  pub before : MeetsBefore F v k at
  pub here : F.holds v law (line_at F v k) → ⊥

-- the fault tells that line and law, where lines count from 1 and the header has three
abbrev pub IsTestFault : {V : Type 0} → Format V → V → WitnessFault → Type 0
IsTestFault F v (At line law) = (k : ℕ) × (line ≡ k + 4) × FailsAt F v k law
IsTestFault F v NoMemory = Unit {0}

-- the value meets the laws, and the claim is what it claims
pub record IsTested {p : ℕ} (G : Given) (W : Tables) (claim : Claim p) : Type 0 where
  pub meets : MeetsLaws (tables_format p G) W
  pub claimed : IsClaimWith claim (map length W.domain.cycles)
      (map length (map_of W).range.cycles) (map_of W).matrices

-- all lines of the value meet the laws of the second pass
abbrev pub MeetsAll : ℕ → Given → Tables → Type 0
MeetsAll p G W = Meet (holds p G W) (lines_of_tables W)
