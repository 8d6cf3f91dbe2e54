-- What `homcubes --witness` is asked to do.
use Rattle.std.specs.Prelude.{◌≡◌, ◌⊎◌, ◌<◌, ℕ, List, Some, length, Result, Ok, Err, Vec}
use Rattle.faults.specs.declared.fault.Fault.{Fault}
use Rattle.faults.specs.declared.fault.Fault.TheVariants.{Limit, OutOfMemory}
use Rattle.faults.specs.declared.limit_name.LimitName.TheVariants.{WitnessCells}
use Rattle.report.specs.declared.pair.PairReport.{PairReport}
use Rattle.report.specs.declared.reports.Report.TheVariants.{Pair}
use Rattle.report.specs.declared.reports.Shown.{Shown}
use Rattle.report.specs.ReportText.{report_text}
use Rattle.loading.specs.TwoSets.{two_names, two_bytes, AreTwoSetsIn}
use Rattle.loading.specs.Jobs.{IsAllowed}
use Rattle.loading.specs.declared.two_sets.TwoSets.{TwoSets}
use Rattle.pair_tool.specs.declared.homcubes.PairJob.{PairJob}
use Rattle.pair_tool.specs.Jobs.{RefusesPair, IsHomologyOf, AreCountsOf, IsPairText, shown_of}
use Rattle.tool.specs.Tasks.{Task, Written}
use Rattle.witness_delivery.specs.Delivery.{whole}
use Rattle.witness_laws.specs.Inputs.{all_cells}
use Rattle.witness_limits.specs.Limits.{most_witness_cells}
use Rattle.pair_witness.specs.Witnesses.{IsPairWitness}

-- what refuses the pair without a witness, and then the cells of both sets
abbrev pub RefusesWitness : TwoSets → Fault → Type 0
RefusesWitness pair fault = RefusesPair pair fault
    ⊎ (IsAllowed RefusesPair pair
    × (most_witness_cells < length (all_cells pair.x.cells pair.y.cells))
    × (fault ≡ Limit WitnessCells most_witness_cells))

-- the report is right, and the bytes are a witness of it
pub record IsWitnessed (p : ℕ) (pair : TwoSets) (report : PairReport) (bytes : List ℕ)
    : Type 0 where
  pub homology : IsHomologyOf p pair report.dimensions report.cycles
  pub counts : AreCountsOf p pair report
  pub witness : IsPairWitness p pair report.cycles bytes

-- a right report and its witness, where nothing refuses the pair; else what refuses it, or that
-- memory ran out
abbrev pub IsMade : {A : Type 0} → ℕ → TwoSets → Result (PairReport × Vec ℕ A) Fault → Type 0
IsMade p pair (Ok made) =
    IsWitnessed p pair made.0 made.1.items × IsAllowed RefusesWitness pair
IsMade p pair (Err fault) = RefusesWitness pair fault ⊎ (fault ≡ OutOfMemory)

-- the text of a right report, and a file of this name with its witness
abbrev pub IsWritten : Shown → List ℕ → TwoSets → Written → Type 0
IsWritten shown file pair written = (report : PairReport) × (bytes : List ℕ)
    × IsWitnessed shown.modulus pair report bytes
    × (written.text ≡ report_text (Pair report) shown) × (written.file ≡ Some (whole file bytes))

unfoldable pub witness_task : PairJob → List ℕ → Task
witness_task job file = record {
  job = record {
    Input = TwoSets;
    names = two_names job.x job.a;
    most = two_bytes job.a;
    gives = AreTwoSetsIn job.x job.a;
    refuses = RefusesWitness;
    answers = IsPairText (shown_of job);
  };
  file = Some file;
  answers = IsWritten (shown_of job) file;
}
