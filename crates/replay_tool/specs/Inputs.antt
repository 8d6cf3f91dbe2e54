-- A witness file and what it speaks of, and the files that give them.
use Rattle.std.specs.Prelude.{◌≡◌, ◌≢◌, ◌⊎◌, ℕ, List, [], ◌∷◌, None, Result, Ok, Err, Vec}
use Rattle.faults.specs.declared.fault.Fault.{Fault}
use Rattle.faults.specs.declared.fault.Fault.TheVariants.{LawFails}
use Rattle.faults.specs.declared.law.Law.TheVariants as told
use Rattle.witness_laws.specs.declared.law.Law.TheVariants as laws
use Rattle.witness_laws.specs.declared.law.WitnessFault.TheVariants.{At}
use Rattle.witness_laws.specs.Inputs.{Given}
use Rattle.witness_types.specs.declared.heading.ClaimKind.{ClaimKind}
use Rattle.witness_types.specs.declared.heading.ClaimKind.TheVariants as kinds
use Rattle.witness_types.specs.declared.heading.Header.{Header}
use Rattle.witness_types.specs.Headers.{IsHeader, IsHeaderFault}
use Rattle.witness_types.specs.Inputs.{first_known}
use Rattle.witness_limits.specs.Maps.{given_of_map}
use Rattle.loading.specs.Steps.{Then, Is}
use Rattle.loading.specs.Readings.{Reading, Finds}
use Rattle.loading.specs.TwoSets.{two_names, two_bytes, AreTwoSetsIn, AreOperands}
use Rattle.pair_maps.specs.Inputs.{names_of, bytes_of, IsPairMapIn, IsFitting}
use Rattle.replay_tool.specs.declared.inputs.ReplayFiles.{ReplayFiles}
use Rattle.replay_tool.specs.declared.inputs.ReplayFiles.TheVariants as files
use Rattle.replay_tool.specs.declared.inputs.ReplayJob.{ReplayJob}
use Rattle.replay_tool.specs.declared.inputs.Subject.{Subject}
use Rattle.replay_tool.specs.declared.inputs.Subject.TheVariants as subjects

-- ---- the witness file

-- the most bytes of a witness file, and one more, which is read to see that it is too long
abbrev pub witness_bytes : ℕ
witness_bytes = 1073741824

abbrev pub read_witness : ℕ
read_witness = 1073741825

-- a witness file, by its bytes and the modulus in its header
pub record Headed : Type 0 where
  pub bytes : List ℕ
  pub modulus : ℕ

-- the header is refused: one of the first three lines may not stand there
pub record IsBadHead (name bytes : List ℕ) (fault : Fault) : Type 0 where
  pub line : ℕ
  pub fails : IsHeaderFault bytes (At line laws.Header)
  pub is : fault ≡ LawFails name line told.Header

-- or it claims something of what the number of files does not fit
pub record IsOtherClaim (name : List ℕ) (kind : ClaimKind) (bytes : List ℕ) (fault : Fault)
    : Type 0 where
  pub header : Header
  pub heads : IsHeader bytes header
  pub other : header.kind ≢ kind
  pub is : fault ≡ LawFails name 3 told.Header

abbrev pub header_of : ClaimKind → ℕ → Header
header_of kind p = record { version = 1; modulus = p; kind = kind }

-- the bytes begin with a header on what the files give, or are refused
abbrev pub IsHeadOf : List ℕ → ClaimKind → List ℕ → Result Headed Fault → Type 0
IsHeadOf name kind bytes (Ok headed) =
    (headed.bytes ≡ bytes) × IsHeader bytes (header_of kind headed.modulus)
IsHeadOf name kind bytes (Err fault) =
    IsBadHead name bytes fault ⊎ IsOtherClaim name kind bytes fault

-- the witness file: its reading, and then its header
abbrev pub IsWitnessIn : List ℕ → ClaimKind → Reading → Result Headed Fault → Type 0
IsWitnessIn name kind read = Then (Finds read witness_bytes name) (IsHeadOf name kind)

-- the outcome that a vector of bytes and a modulus are
abbrev pub headed_of : {A : Type 0} → Result (Vec ℕ A × ℕ) Fault → Result Headed Fault
headed_of (Ok made) = Ok (record { bytes = made.0.items; modulus = made.1 })
headed_of (Err fault) = Err fault

-- ---- what it speaks of

-- of what these files want a claim
abbrev pub kind_of : ReplayFiles → ClaimKind
kind_of (files.Pair x a) = kinds.Pair
kind_of (files.Map map) = kinds.Map

-- the files in the order in which they are read, and the most bytes that are read of them
abbrev pub subject_names : ReplayFiles → List (List ℕ)
subject_names (files.Pair x a) = two_names x a
subject_names (files.Map map) = names_of map

abbrev pub subject_bytes : ReplayFiles → ℕ
subject_bytes (files.Pair x a) = two_bytes a
subject_bytes (files.Map map) = bytes_of map

-- the pair, or the map with its pairs
abbrev pub IsSubjectIn : ReplayFiles → Reading → Result Subject Fault → Type 0
IsSubjectIn (files.Pair x a) read =
    Then (AreTwoSetsIn x a read) (λ sets. Is (Ok (subjects.Pair sets)))
IsSubjectIn (files.Map map) read =
    Then (IsPairMapIn map read) (λ m. Is (Ok (subjects.Map m)))

-- what the laws of witnesses are told of it
abbrev pub given_of : Subject → Given
given_of (subjects.Pair sets) = record {
  top = first_known (sets.x.dimension ∷ sets.y.dimension ∷ []);
  x = sets.x.cells;
  a = sets.y.cells;
  target = None;
}
given_of (subjects.Map m) = given_of_map m

abbrev pub kind_of_subject : Subject → ClaimKind
kind_of_subject (subjects.Pair sets) = kinds.Pair
kind_of_subject (subjects.Map m) = kinds.Map

-- its sets, and its map, are of one dimension
abbrev pub IsFit : Subject → Type 0
IsFit (subjects.Pair sets) = AreOperands sets
IsFit (subjects.Map m) = IsFitting m

-- ---- both

pub record Testimony : Type 0 where
  pub bytes : List ℕ
  pub modulus : ℕ
  pub subject : Subject

abbrev pub testimony : Headed → Subject → Testimony
testimony headed subject =
    record { bytes = headed.bytes; modulus = headed.modulus; subject = subject }

-- the witness file with its header, and then what it speaks of
abbrev pub IsTestimonyIn : ReplayJob → Reading → Result Testimony Fault → Type 0
IsTestimonyIn job read = Then (IsWitnessIn job.witness (kind_of job.files) read)
    (λ headed. Then (IsSubjectIn job.files read)
    (λ subject. Is (Ok (testimony headed subject))))
