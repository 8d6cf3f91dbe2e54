-- What `homcubes --map` is asked to do.
use Rattle.std.specs.Prelude.{◌≡◌, ℕ, List, Bool}
use Rattle.report.specs.declared.map_report.MapReport.{MapReport}
use Rattle.report.specs.declared.reports.Report.TheVariants.{Map}
use Rattle.report.specs.declared.reports.Shown.{Shown}
use Rattle.report.specs.ReportText.{report_text}
use Rattle.loading.specs.Jobs.{Job}
use Rattle.pair_maps.specs.declared.inputs.PairMap.{PairMap}
use Rattle.pair_maps.specs.Inputs.{names_of, bytes_of, IsPairMapIn}
use Rattle.pair_maps.specs.Moduli.{modulus_of}
use Rattle.map_homology.specs.declared.map_job.MapJob.{MapJob}
use Rattle.map_homology.specs.Right.{IsRightMap}
use Rattle.map_homology.specs.Refusals.{RefusesMapHomology}

-- the text of a right report on the map
abbrev pub IsMapText : Shown → Bool → PairMap → List ℕ → Type 0
IsMapText shown wanted m text = (report : MapReport)
    × IsRightMap shown.modulus wanted m report × (text ≡ report_text (Map report) shown)

-- how the report is printed
abbrev pub shown_of : MapJob → Shown
shown_of job = record {
  modulus = job.modulus;
  cycles = job.cycles;
  matrix = job.matrix;
  stats = job.stats;
}

unfoldable pub map_job : MapJob → Job
map_job job = record {
  Input = PairMap;
  names = names_of job.files;
  most = bytes_of job.files;
  gives = IsPairMapIn job.files;
  refuses = RefusesMapHomology (modulus_of job.modulus) job.index;
  answers = IsMapText (shown_of job) job.index;
}
