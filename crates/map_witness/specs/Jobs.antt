-- What `homcubes --map --witness` is asked to do.
use Rattle.std.specs.Prelude.{◌≡◌, ◌⊎◌, ℕ, ◌<◌, List, length, Bool, Some, Result, Ok, Err, Vec}
use Rattle.faults.specs.declared.fault.Fault.{Fault}
use Rattle.faults.specs.declared.fault.Fault.TheVariants.{OutOfMemory}
use Rattle.report.specs.declared.map_report.MapReport.{MapReport}
use Rattle.report.specs.declared.reports.Report.TheVariants.{Map}
use Rattle.report.specs.declared.reports.Shown.{Shown}
use Rattle.report.specs.ReportText.{report_text}
use Rattle.loading.specs.Jobs.{IsAllowed}
use Rattle.pair_maps.specs.declared.inputs.PairMap.{PairMap}
use Rattle.pair_maps.specs.Inputs.{names_of, bytes_of, IsPairMapIn}
use Rattle.pair_maps.specs.Moduli.{modulus_of}
use Rattle.map_homology.specs.declared.map_job.MapJob.{MapJob}
use Rattle.map_homology.specs.Jobs.{IsMapText, shown_of}
use Rattle.map_homology.specs.Right.{IsRightMap}
use Rattle.tool.specs.Tasks.{Task, Written}
use Rattle.witness_delivery.specs.Delivery.{whole}
use Rattle.pair_witness.specs.Witnesses.{witness_bytes}
use Rattle.map_witness.specs.Refusals.{RefusesMapWitness}
use Rattle.map_witness.specs.Witnesses.{IsFileOfMap}

-- the report is right, the bytes are a witness of it, and they are not too many
pub record IsWitnessedMap (p : ℕ) (wanted : Bool) (m : PairMap) (report : MapReport)
    (bytes : List ℕ) : Type 0 where
  pub right : IsRightMap p wanted m report
  pub file : IsFileOfMap p m report.domain.cycles report.range.cycles report.matrices.items bytes
  pub few : length bytes < witness_bytes

-- a right report and its witness, where nothing refuses the map; else what refuses it, or that
-- memory ran out
abbrev pub IsMade : {A : Type 0} → ℕ → Bool → PairMap → Result (MapReport × Vec ℕ A) Fault → Type 0
IsMade p wanted m (Ok made) = IsWitnessedMap p wanted m made.0 made.1.items
    × IsAllowed (RefusesMapWitness p wanted) m
IsMade p wanted m (Err fault) = RefusesMapWitness p wanted m fault ⊎ (fault ≡ OutOfMemory)

-- the text of a right report, and a file of this name with its witness
abbrev pub IsWritten : Shown → Bool → List ℕ → PairMap → Written → Type 0
IsWritten shown wanted file m written = (report : MapReport) × (bytes : List ℕ)
    × IsWitnessedMap shown.modulus wanted m report bytes
    × (written.text ≡ report_text (Map report) shown) × (written.file ≡ Some (whole file bytes))

unfoldable pub map_witness_task : MapJob → List ℕ → Task
map_witness_task job file = record {
  job = record {
    Input = PairMap;
    names = names_of job.files;
    most = bytes_of job.files;
    gives = IsPairMapIn job.files;
    refuses = RefusesMapWitness (modulus_of job.modulus) job.index;
    answers = IsMapText (shown_of job) job.index;
  };
  file = Some file;
  answers = IsWritten (shown_of job) job.index file;
}
