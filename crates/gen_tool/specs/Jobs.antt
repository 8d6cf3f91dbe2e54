-- What the generator is asked to make.
use Rattle.std.specs.Prelude.{◌≡◌, ℕ, List, [], Bool, true, false, Ok}
use Rattle.cube_sets.specs.Sets.{Members}
use Rattle.grid_files.specs.Written.{written}
use Rattle.hole_squares.specs.Holes.{IsHoleSet}
use Rattle.faults.specs.declared.fault.Fault.{Fault}
use Rattle.loading.specs.Steps.{Is}
use Rattle.loading.specs.Jobs.{Job}
use Rattle.gen_tool.specs.declared.holes.HolesJob.{HolesJob}
use Rattle.gen_tool.specs.declared.summary.Summary.{Summary}
use Rattle.gen_tool.specs.Summaries.{IsRightSummary, summary_text}

-- the text of the squares with n by n holes, as a set file
abbrev pub IsSetText : ℕ → List ℕ → Type 0
IsSetText n text = (set : Members) × IsHoleSet n set × (text ≡ written set)

-- the text of a right summary of these squares
abbrev pub IsSummaryText : ℕ → ℕ → List ℕ → Type 0
IsSummaryText p n text =
    (summary : Summary) × IsRightSummary p n summary × (text ≡ summary_text p summary)

-- the one or the other
abbrev pub IsEither : Bool → ℕ → ℕ → List ℕ → Type 0
IsEither true p n = IsSetText n
IsEither false p n = IsSummaryText p n

abbrev pub IsGenerated : HolesJob → Unit {0} → List ℕ → Type 0
IsGenerated job input = IsEither job.set_alone job.modulus job.holes

-- nothing refuses it
abbrev pub RefusesNothing : Unit {0} → Fault → Type 0
RefusesNothing input fault = ⊥

-- no file is read
unfoldable pub holes_job : HolesJob → Job
holes_job job = record {
  Input = Unit {0};
  names = [];
  most = 0;
  gives = λ read. Is (Ok tt);
  refuses = RefusesNothing;
  answers = IsGenerated job;
}
