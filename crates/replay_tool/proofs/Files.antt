-- The files of a witness and of what it speaks of.
use Rattle.std.proofs.Common.{◌≡◌, ◌⊎◌, inl, inr, ⊎_elim, ℕ, ◌+◌, refl, sym, subst, arith, List, ◌∷◌, Option, Result, Ok, Err, Contains}
use Rattle.outside.specs.Seen.{Seen}
use Rattle.faults.specs.declared.fault.Fault.{Fault}
use Rattle.faults.specs.declared.fault.Fault.TheVariants.{OutOfMemory}
use Rattle.witness_types.specs.declared.heading.ClaimKind.{ClaimKind}
use Rattle.witness_types.specs.Headers.{IsHeader}
use Rattle.loading.specs.Steps.{Then, Is}
use Rattle.loading.specs.Readings.{Reading, Finds}
use Rattle.loading.specs.Loads.{Loads}
use Rattle.loading.specs.TwoSets.{two_names, two_bytes, AreTwoSetsIn}
use Rattle.loading.specs.Jobs.{Job, Computes, Answers}
use Rattle.loading.specs.declared.two_sets.TwoSets.{TwoSets}
use Rattle.loading.proofs.OfFiles.{IsOfFiles, then_files, made, value_made, of_file}
use Rattle.loading.proofs.Loading.{named_itself, named_later, then_loads, refused, after, widened}
use Rattle.loading.proofs.LoadingTwo.{two_of_files}
use Rattle.pair_maps.specs.declared.inputs.MapFiles.{MapFiles}
use Rattle.pair_maps.specs.declared.inputs.PairMap.{PairMap}
use Rattle.pair_maps.specs.Inputs.{names_of, bytes_of, IsPairMapIn}
use Rattle.pair_maps.proofs.Files.{map_of_files}
use Rattle.replay_tool.specs.declared.inputs.ReplayFiles.{ReplayFiles}
use Rattle.replay_tool.specs.declared.inputs.ReplayFiles.TheVariants as files
use Rattle.replay_tool.specs.declared.inputs.ReplayJob.{ReplayJob}
use Rattle.replay_tool.specs.declared.inputs.Subject.{Subject}
use Rattle.replay_tool.specs.declared.inputs.Subject.TheVariants as subjects
use Rattle.replay_tool.specs.Inputs.{witness_bytes, read_witness, Headed, header_of, IsHeadOf, IsWitnessIn, kind_of, subject_names, subject_bytes, IsSubjectIn, Testimony, testimony, IsTestimonyIn}
use Rattle.replay_tool.proofs.Heading.{head_plain, head_made}

-- what reads these files reads some of more
among : {A : Type 0} (names others : List (List ℕ)) (gives : Reading → Result A Fault → Type 0) → ((n : List ℕ) → Contains names n → Contains others n) → IsOfFiles names gives → IsOfFiles others gives
among names others gives within f = record { one = f.one; stable = f.stable; named = λ holds name h. within name (f.named holds name h) }

-- ---- the witness file

module _ (name : List ℕ) (kind : ClaimKind) where
  pub witness_in_files : (names : List (List ℕ)) → Contains names name → IsOfFiles names (IsWitnessIn name kind)
  witness_in_files names within = then_files names (λ read. Finds read witness_bytes name) (λ read. IsHeadOf name kind) (of_file names witness_bytes name within)
      (λ bytes. made names (IsHeadOf name kind bytes) (head_made name kind bytes))

  module _ (old new : Seen) where
    pub witness_refused : (fault : Fault) → Loads {A = List ℕ} read_witness (λ read. Finds read witness_bytes name) old new (Err fault) → Loads {A = Headed} read_witness (IsWitnessIn name kind) old new (Err fault)
    witness_refused fault h = refused read_witness (λ read. Finds read witness_bytes name) (λ read. IsHeadOf name kind) old new fault h

    module _ (text bytes : List ℕ) (e : bytes ≡ text) (h : Loads read_witness (λ read. Finds read witness_bytes name) old new (Ok text)) where
      pub head_refused : (fault : Fault) → IsHeadOf name kind bytes (Err fault) ⊎ (fault ≡ OutOfMemory) → Loads {A = Headed} read_witness (IsWitnessIn name kind) old new (Err fault)
      head_refused fault r = then_loads read_witness (λ read. Finds read witness_bytes name) (IsHeadOf name kind) old new text h (head_plain name kind text) (Err fault) tt
          (subst (λ (b : List ℕ). IsHeadOf name kind b (Err fault) ⊎ (fault ≡ OutOfMemory)) e r)

      pub witness_loads : (p : ℕ) → IsHeader bytes (header_of kind p) → Loads read_witness (IsWitnessIn name kind) old new (Ok (record { bytes = text; modulus = p }))
      witness_loads p is = then_loads read_witness (λ read. Finds read witness_bytes name) (IsHeadOf name kind) old new text h (head_plain name kind text) (Ok (record { bytes = text; modulus = p }))
          (refl, subst (λ (b : List ℕ). IsHeader b (header_of kind p)) e is) tt

-- ---- what it speaks of

abbrev pub Sets : TwoSets → Result Subject Fault → Type 0
Sets sets = Is (Ok (subjects.Pair sets))

abbrev pub Maps : PairMap → Result Subject Fault → Type 0
Maps m = Is (Ok (subjects.Map m))

pub subject_in_files : (read : ReplayFiles) (names : List (List ℕ)) → ((n : List ℕ) → Contains (subject_names read) n → Contains names n) → IsOfFiles names (IsSubjectIn read)
subject_in_files (files.Pair x a) names within = then_files names (AreTwoSetsIn x a) (λ read. Sets) (among (two_names x a) names (AreTwoSetsIn x a) within (two_of_files x a))
    (λ sets. made names (Sets sets) (value_made (subjects.Pair sets)))
subject_in_files (files.Map map) names within = then_files names (IsPairMapIn map) (λ read. Maps) (among (names_of map) names (IsPairMapIn map) within (map_of_files map))
    (λ m. made names (Maps m) (value_made (subjects.Map m)))

module _ (x : List ℕ) (a : Option (List ℕ)) (old new : Seen) where
  pub sets_refused : (fault : Fault) → Loads {A = TwoSets} (two_bytes a) (AreTwoSetsIn x a) old new (Err fault) → Loads {A = Subject} (two_bytes a) (λ read. Then (AreTwoSetsIn x a read) Sets) old new (Err fault)
  sets_refused fault h = refused (two_bytes a) (AreTwoSetsIn x a) (λ read. Sets) old new fault h

  pub sets_load : (sets : TwoSets) → Loads (two_bytes a) (AreTwoSetsIn x a) old new (Ok sets) → Loads (two_bytes a) (λ read. Then (AreTwoSetsIn x a read) Sets) old new (Ok (subjects.Pair sets))
  sets_load sets h = then_loads (two_bytes a) (AreTwoSetsIn x a) Sets old new sets h (value_made (subjects.Pair sets)).plain (Ok (subjects.Pair sets)) refl tt

module _ (map : MapFiles) (old new : Seen) where
  pub maps_refused : (fault : Fault) → Loads {A = PairMap} (bytes_of map) (IsPairMapIn map) old new (Err fault) → Loads {A = Subject} (bytes_of map) (λ read. Then (IsPairMapIn map read) Maps) old new (Err fault)
  maps_refused fault h = refused (bytes_of map) (IsPairMapIn map) (λ read. Maps) old new fault h

  pub maps_load : (m : PairMap) → Loads (bytes_of map) (IsPairMapIn map) old new (Ok m) → Loads (bytes_of map) (λ read. Then (IsPairMapIn map read) Maps) old new (Ok (subjects.Map m))
  maps_load m h = then_loads (bytes_of map) (IsPairMapIn map) Maps old new m h (value_made (subjects.Map m)).plain (Ok (subjects.Map m)) refl tt

-- ---- both

module _ (job : ReplayJob) where
  abbrev pub names : List (List ℕ)
  names = job.witness ∷ subject_names job.files

  abbrev pub kind : ClaimKind
  kind = kind_of job.files

  abbrev pub Whole : Headed → Subject → Result Testimony Fault → Type 0
  Whole headed subject = Is (Ok (testimony headed subject))

  abbrev pub Rest : Reading → Headed → Result Testimony Fault → Type 0
  Rest read headed = Then (IsSubjectIn job.files read) (Whole headed)

  witness_files : IsOfFiles names (IsWitnessIn job.witness kind)
  witness_files = witness_in_files job.witness kind names (named_itself (subject_names job.files) job.witness)

  pub testimony_files : IsOfFiles names (IsTestimonyIn job)
  testimony_files = then_files names (IsWitnessIn job.witness kind) Rest witness_files
      (λ headed. then_files names (IsSubjectIn job.files) (λ read. Whole headed) (subject_in_files job.files names (named_later (subject_names job.files) job.witness))
      (λ subject. made names (Whole headed subject) (value_made (testimony headed subject))))

  abbrev most : ℕ
  most = read_witness + subject_bytes job.files

  module _ (old between new : Seen) where
    -- the witness file is refused
    pub no_witness : (fault : Fault) → Loads {A = Headed} read_witness (IsWitnessIn job.witness kind) old new (Err fault) → Loads {A = Testimony} most (IsTestimonyIn job) old new (Err fault)
    no_witness fault h = widened {A = Testimony} read_witness most (IsTestimonyIn job) old new (Err fault) (omega arith) (refused read_witness (IsWitnessIn job.witness kind) Rest old new fault h)

    module _ (headed : Headed) (h : Loads read_witness (IsWitnessIn job.witness kind) old between (Ok headed)) where
      behind : (result : Result Testimony Fault) → Loads (subject_bytes job.files) (λ read. Rest read headed) between new result → Loads most (IsTestimonyIn job) old new result
      behind result k = after names read_witness (subject_bytes job.files) (IsWitnessIn job.witness kind) Rest old between new headed witness_files h result k

      -- what it speaks of is refused
      pub no_subject : (fault : Fault) → Loads {A = Subject} (subject_bytes job.files) (IsSubjectIn job.files) between new (Err fault) → Loads {A = Testimony} most (IsTestimonyIn job) old new (Err fault)
      no_subject fault k = behind (Err fault) (refused (subject_bytes job.files) (IsSubjectIn job.files) (λ read. Whole headed) between new fault k)

      -- both are loaded
      pub testimony_loads : (subject : Subject) → Loads (subject_bytes job.files) (IsSubjectIn job.files) between new (Ok subject) → Loads most (IsTestimonyIn job) old new (Ok (testimony headed subject))
      testimony_loads subject k = behind (Ok (testimony headed subject))
          (then_loads (subject_bytes job.files) (IsSubjectIn job.files) (Whole headed) between new subject k (value_made (testimony headed subject)).plain (Ok (testimony headed subject)) refl tt)

-- what is computed of what the files give answers the job
pub answered : (job : Job) (old new : Seen) (input : job.Input) → Loads job.most job.gives old new (Ok input) → (result : Result (List ℕ) Fault) → Computes job.refuses job.answers input result → Answers job old new result
answered job old new input h (Ok text) k = record { right = (input, (h.value, k.allowed), k.right); fault = tt; given = h.given; left = h.holds; writes = h.writes }
answered job old new input h (Err fault) k = record { right = tt; fault = ⊎_elim (λ r. inr (input, h.value, r)) (λ e. inl (inl e)) k.fault; given = h.given; left = h.holds; writes = h.writes }

-- the same by the files that the job names
pub of_pair : (x : List ℕ) (named a : Option (List ℕ)) (old new : Seen) (result : Result Subject Fault) (read : ReplayFiles) → read ≡ files.Pair x a → named ≡ a
    → Loads (two_bytes named) (λ read. Then (AreTwoSetsIn x named read) Sets) old new result → Loads (subject_bytes read) (IsSubjectIn read) old new result
of_pair x named a old new result read e n h = subst (λ (f : ReplayFiles). Loads (subject_bytes f) (IsSubjectIn f) old new result) (sym e)
    (subst (λ (y : Option (List ℕ)). Loads (two_bytes y) (λ read. Then (AreTwoSetsIn x y read) Sets) old new result) n h)

pub of_map : (map : MapFiles) (old new : Seen) (result : Result Subject Fault) (read : ReplayFiles) → read ≡ files.Map map
    → Loads (bytes_of map) (λ read. Then (IsPairMapIn map read) Maps) old new result → Loads (subject_bytes read) (IsSubjectIn read) old new result
of_map map old new result read e h = subst (λ (f : ReplayFiles). Loads (subject_bytes f) (IsSubjectIn f) old new result) (sym e) h
