-- What is promised of the test of a witness.
use Rattle.std.specs.Prelude.{◌≡◌, ◌⊎◌, ℕ, List, [], length, Option, None, Some, Result, Ok, Err}
use Rattle.faults.specs.declared.fault.Fault.{Fault}
use Rattle.faults.specs.declared.fault.Fault.TheVariants.{OutOfMemory}
use Rattle.witness_laws.specs.Inputs.{Given}
use Rattle.report.specs.declared.accepted.Accepted.{Accepted}
use Rattle.report.specs.declared.accepted.AcceptedMap.{AcceptedMap}
use Rattle.witness_types.specs.declared.part.Claim.{Claim}
use Rattle.induced_map.specs.Matrices.{nth}
use Rattle.index_part.specs.Filled.{IsFilled}
use Rattle.index_part.specs.Tables.{AreRowsOf, IsRankOf}
use Rattle.replay_tool.specs.Right.{IsRightReport}
use Rattle.replay_tool.specs.Refusals.{FailsBy}

-- a right report, or the first line and law that fail, or that memory ran out
abbrev pub IsReplayed : List ℕ → ℕ → Given → List ℕ → Result Accepted Fault → Type 0
IsReplayed name p G bytes (Ok report) = IsRightReport p G bytes report
IsReplayed name p G bytes (Err fault) = FailsBy name p G bytes fault ⊎ (fault ≡ OutOfMemory)

-- a report tells of a claim on a pair its dimensions
pub record TellsPair {p : ℕ} (claim : Claim p) (report : Accepted) : Type 0 where
  pub domain : report.domain ≡ claim.domain.items
  pub map : report.map ≡ None

-- .. and on a map the dimensions of both pairs, the matrices and their ranks
abbrev pub TellsTarget : (p : ℕ) → Claim p → Option AcceptedMap → Type 0
TellsTarget p claim None = ⊥
TellsTarget p claim (Some report) = (report.range ≡ claim.range.items)
    × IsFilled [] (λ k. AreRowsOf p (nth claim.matrices.items k)) (length claim.matrices.items)
    report.matrices.items
    × IsFilled 0 (λ k. IsRankOf p (nth claim.matrices.items k)) (length claim.matrices.items)
    report.ranks

pub record TellsMap (p : ℕ) (claim : Claim p) (report : Accepted) : Type 0 where
  pub domain : report.domain ≡ claim.domain.items
  pub map : TellsTarget p claim report.map
