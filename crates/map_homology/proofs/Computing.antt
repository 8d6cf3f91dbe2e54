-- What is computed of a map of pairs, as promised of the job.
use Rattle.std.proofs.Common.{◌≡◌, ◌⊎◌, inl, inr, ⊎_elim, ℕ, sym, ap, ◌∙◌, subst, List, Bool, true, Result, Ok, Err, IfOk, IfErr}
use Rattle.field_mod.specs.Moduli.{IsModulus}
use Rattle.faults.specs.declared.fault.Fault.{Fault}
use Rattle.faults.specs.declared.fault.Fault.TheVariants.{OutOfMemory}
use Rattle.loading.specs.Jobs.{Computes, IsAllowed}
use Rattle.report.specs.declared.map_report.MapReport.{MapReport}
use Rattle.report.specs.declared.reports.Report.TheVariants.{Map}
use Rattle.report.specs.declared.reports.Shown.{Shown}
use Rattle.report.specs.ReportText.{report_text}
use Rattle.pair_maps.specs.declared.inputs.PairMap.{PairMap}
use Rattle.pair_maps.specs.Moduli.{modulus_of}
use Rattle.pair_maps.specs.Refusals.{RefusesPairMap}
use Rattle.pair_maps.proofs.Moduli.{of_table}
use Rattle.map_homology.specs.Right.{IsRightMap}
use Rattle.homology_basis.specs.Bases.{BasisOfLog, CyclesOfLog}
use Rattle.map_checks.specs.Carriers.{Carrying}
use Rattle.index_part.specs.Refusals.{RefusesInclusion}
use Rattle.index_part.specs.Made.{TellsFault}
use Rattle.index_part.proofs.Refused.{told_refuses}
use Rattle.map_homology.specs.declared.bases.PairCells.{PairCells}
use Rattle.map_homology.specs.Bases.{AreBasesWith}
use Rattle.map_homology.specs.Refusals.{RefusesMatrices, RefusesMapHomology}
use Rattle.map_homology.specs.Jobs.{IsMapText}

-- what refuses a map of pairs refuses it here
pub pair_refused : (p : ℕ) (wanted : Bool) (m : PairMap) (fault : Fault) → RefusesPairMap p m fault ⊎ (fault ≡ OutOfMemory) → RefusesMapHomology p wanted m fault ⊎ (fault ≡ OutOfMemory)
pair_refused p wanted m fault r = ⊎_elim (λ l. inl (inl (inl l))) (λ e. inr e) r

-- and so does that the pair is not included, where the index part is wanted
pub inclusion_refused : (p : ℕ) (wanted : Bool) (m : PairMap) (fault : Fault) → IsAllowed (RefusesMatrices p) m → (wanted ≡ true) × RefusesInclusion m fault → RefusesMapHomology p wanted m fault ⊎ (fault ≡ OutOfMemory)
inclusion_refused p wanted m fault none (on, r) = inl (inr (on, none, inl r))

-- .. and that its inclusion is not invertible
pub index_refused : (p : ℕ) (wanted : Bool) (m : PairMap) (c : Carrying) (domain : PairCells) (A : CyclesOfLog) (range : PairCells) (B : BasisOfLog) → AreBasesWith p wanted m c domain A range B → (fault : Fault) → IsAllowed (RefusesMatrices p) m
    → ((wanted ≡ true) × TellsFault p domain.cells A range.cells B fault) ⊎ (fault ≡ OutOfMemory) → RefusesMapHomology p wanted m fault ⊎ (fault ≡ OutOfMemory)
index_refused p wanted m c domain A range B h fault none (inl (on, tells)) = ⊎_elim
    (λ r. inl (inr (on, none, inr r)))
    (λ e. inr e)
    (told_refuses p m domain.cells A range.cells B h.bases.of_domain.sorted h.bases.of_range.sorted (record { included = h.included on; domain = h.bases.of_domain.relative; range = h.bases.of_range.relative }) fault tells)
index_refused p wanted m c domain A range B h fault none (inr e) = inr e

pub map_refused : (p : ℕ) (shown : Shown) (wanted : Bool) (m : PairMap) (fault : Fault) → IsModulus p → RefusesMapHomology p wanted m fault ⊎ (fault ≡ OutOfMemory) → Computes (RefusesMapHomology (modulus_of p) wanted) (IsMapText shown wanted) m (Err fault)
map_refused p shown wanted m fault h r = record {
  right = tt;
  allowed = tt;
  fault = subst (λ (q : ℕ). RefusesMapHomology q wanted m fault ⊎ (fault ≡ OutOfMemory)) (sym (of_table p h)) r;
}

pub map_computed : (p : ℕ) (shown printed : Shown) (wanted : Bool) (m : PairMap) (report : MapReport) (result : Result (List ℕ) Fault) → IsModulus p → shown.modulus ≡ p → printed ≡ shown
    → IsRightMap p wanted m report → IsAllowed (RefusesMapHomology p wanted) m → IfOk result (λ text. text ≡ report_text (Map report) printed) → IfErr result (λ fault. fault ≡ OutOfMemory)
    → Computes (RefusesMapHomology (modulus_of p) wanted) (IsMapText shown wanted) m result
map_computed p shown printed wanted m report (Ok text) h e f right none is err = record {
  right = (report, subst (λ (q : ℕ). IsRightMap q wanted m report) (sym e) right, is ∙ ap (report_text (Map report)) f);
  allowed = subst (λ (q : ℕ). IsAllowed (RefusesMapHomology q wanted) m) (sym (of_table p h)) none;
  fault = tt;
}
map_computed p shown printed wanted m report (Err fault) h e f right none is err = record { right = tt; allowed = tt; fault = inr err }
