-- What is made of a map of pairs, as promised of the task.
use Rattle.std.proofs.Common.{◌≡◌, ◌⊎◌, ℕ, sym, subst, List, Bool, Some, Ok, Err}
use Rattle.field_mod.specs.Moduli.{IsModulus}
use Rattle.faults.specs.declared.fault.Fault.{Fault}
use Rattle.faults.specs.declared.fault.Fault.TheVariants.{OutOfMemory}
use Rattle.loading.specs.Jobs.{IsAllowed}
use Rattle.report.specs.declared.map_report.MapReport.{MapReport}
use Rattle.report.specs.declared.reports.Report.TheVariants.{Map}
use Rattle.report.specs.declared.reports.Shown.{Shown}
use Rattle.report.specs.ReportText.{report_text}
use Rattle.pair_maps.specs.declared.inputs.PairMap.{PairMap}
use Rattle.pair_maps.specs.Moduli.{modulus_of}
use Rattle.pair_maps.proofs.Moduli.{of_table}
use Rattle.tool.specs.Tasks.{Written, Produces}
use Rattle.witness_delivery.specs.Delivery.{whole}
use Rattle.map_witness.specs.Refusals.{RefusesMapWitness}
use Rattle.map_witness.specs.Jobs.{IsWitnessedMap, IsWritten}

module _ (p : ℕ) (shown : Shown) (wanted : Bool) (file : List ℕ) (m : PairMap) (is_modulus : IsModulus p) where
  pub task_refused : (fault : Fault) → RefusesMapWitness p wanted m fault ⊎ (fault ≡ OutOfMemory) → Produces (RefusesMapWitness (modulus_of p) wanted) (IsWritten shown wanted file) m (Err fault)
  task_refused fault r = record {
    right = tt;
    allowed = tt;
    fault = subst (λ (q : ℕ). RefusesMapWitness q wanted m fault ⊎ (fault ≡ OutOfMemory)) (sym (of_table p is_modulus)) r;
  }

  pub task_done : (report : MapReport) (bytes : List ℕ) (written : Written) → shown.modulus ≡ p → IsWitnessedMap p wanted m report bytes → IsAllowed (RefusesMapWitness p wanted) m
      → written.text ≡ report_text (Map report) shown → written.file ≡ Some (whole file bytes) → Produces (RefusesMapWitness (modulus_of p) wanted) (IsWritten shown wanted file) m (Ok written)
  task_done report bytes written e w none told filed = record {
    right = (
      report,
      bytes,
      subst (λ (q : ℕ). IsWitnessedMap q wanted m report bytes) (sym e) w,
      told,
      filed,
    );
    allowed = subst (λ (q : ℕ). IsAllowed (RefusesMapWitness q wanted) m) (sym (of_table p is_modulus)) none;
    fault = tt;
  }
