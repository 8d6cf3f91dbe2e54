-- What a fault rests on decides the status, for any job that is judged in one way.
use Rattle.std.proofs.Common.{◌≡◌, ◌≢◌, ℕ, false, List, [], append-nil, Option, None, Some, Result, Ok, Err, IfSome, refl, sym, ap, ◌∙◌, subst, ◌⊎◌, inl, inr}
use Rattle.outside.specs.Disk.{Disk}
use Rattle.outside.specs.Seen.{Seen}
use Rattle.outside.specs.Told.{Gains}
use Rattle.faults.specs.declared.fault.Fault.{Fault}
use Rattle.faults.specs.declared.fault.Fault.TheVariants.{NoTool, NotAForm, CannotRead, BadText, NotComplex, Dimension, Limit, Undefined, LeavesRange, LeavesSubset, EmptyValue, NotAcyclic, NotInRange, NotInSubset, Killed, Missed, LawFails, CannotWriteOut, CannotWrite, OutOfMemory}
use Rattle.faults.specs.declared.status.Status.{Status}
use Rattle.faults.specs.declared.status.Status.TheVariants as statuses
use Rattle.faults.specs.Statuses.{status_of, without_chain}
use Rattle.loading.specs.Readings.{reading, as_read}
use Rattle.loading.specs.Loads.{IsCaused}
use Rattle.loading.specs.Jobs.{Job, IsJudged, IsJudgedOnce, IsRefusedWith, RestsOn}
use Rattle.tool.specs.Ends.{ReadFailed, EndsAs}

status_without_chain : (fault : Fault) → status_of (without_chain fault) ≡ status_of fault
status_without_chain (NotAcyclic cell degree cycle cocycle) = refl
status_without_chain (NotInRange cube) = refl
status_without_chain (NotInSubset cube) = refl
status_without_chain (Killed degree chain) = refl
status_without_chain (Missed degree chain) = refl
status_without_chain NoTool = refl
status_without_chain (NotAForm tool) = refl
status_without_chain (CannotRead name) = refl
status_without_chain (BadText name place cause) = refl
status_without_chain (NotComplex name degree generator value at) = refl
status_without_chain (Dimension name found earlier) = refl
status_without_chain (Limit count number) = refl
status_without_chain (Undefined cube) = refl
status_without_chain (LeavesRange cube value) = refl
status_without_chain (LeavesSubset cube value) = refl
status_without_chain (EmptyValue cell) = refl
status_without_chain (LawFails name line law) = refl
status_without_chain CannotWriteOut = refl
status_without_chain (CannotWrite name) = refl
status_without_chain OutOfMemory = refl

one_status : (f g : Fault) → without_chain f ≡ without_chain g → status_of f ≡ status_of g
one_status f g e = sym (status_without_chain f) ∙ ap status_of e ∙ status_without_chain g

each : {A : Type 0} (P : A → Type 0) (o : Option A) → ((x : A) → o ≡ Some x → P x) → IfSome o P
each P None f = tt
each P (Some x) f = f x refl

by_read : {A : Type 0} (r : Result A Fault) (read wrote : Type 0) → read → EndsAs r read wrote statuses.Read
by_read (Ok input) read wrote failed = inr (inl (refl, failed))
by_read (Err fault) read wrote failed = inr (inl (refl, failed))

by_memory : {A : Type 0} (r : Result A Fault) (read wrote : Type 0) → EndsAs r read wrote statuses.NoMemory
by_memory (Ok input) read wrote = inr (inr (inr refl))
by_memory (Err fault) read wrote = inr (inr refl)

module _ (job : Job) (once : IsJudgedOnce job) (old new : Seen) where
  abbrev pub Failed : Type 0
  Failed = ReadFailed job.names old new

  -- why a fault came up: memory was wanting, a read failed, or it is the judgement
  data Why (fault : Fault) : Type 0 where
    for_memory : fault ≡ OutOfMemory → Why fault
    for_a_read : status_of fault ≡ statuses.Read → Failed → Why fault
    as_judged : IsJudged job (reading old.holds) (Err fault) → Why fault

  at_loading : (fault : Fault) → IsCaused old new fault → job.gives (as_read fault (reading old.holds)) (Err fault) → Why fault
  at_loading (CannotRead name) c h = for_a_read refl (name, once.named old.holds name h, c)
  at_loading fault c h = as_judged (inl h)

  why : (fault : Fault) → RestsOn job old new fault → Why fault
  why fault (inl (inl e)) = for_memory e
  why fault (inl (inr (c, h))) = at_loading fault c h
  why fault (inr (input, given, r)) = as_judged (inr (input, given, r))

  module _ (wrote : Type 0) where
    abbrev pub Exact : Status → Disk → Type 0
    Exact status disk = (outcome : Result job.Input Fault) → IsJudged job (reading (Some disk)) outcome → EndsAs outcome Failed wrote status

    judged : (disk : Disk) (fault : Fault) → IsJudged job (reading (Some disk)) (Err fault) → Exact (status_of fault) disk
    judged disk fault h (Ok input) k = absurd (once.one disk (λ name. false) (Ok input) (Err fault) k h)
    judged disk fault h (Err other) k = inl (one_status fault other (once.one disk (λ name. false) (Err fault) (Err other) h k))

    by_why : (fault : Fault) → Why fault → (disk : Disk) → old.holds ≡ Some disk → Exact (status_of fault) disk
    by_why fault (for_memory e) disk is outcome k = subst (λ (f : Fault). EndsAs outcome Failed wrote (status_of f)) (sym e) (by_memory outcome Failed wrote)
    by_why fault (for_a_read e failed) disk is outcome k = subst (λ (s : Status). EndsAs outcome Failed wrote s) (sym e) (by_read outcome Failed wrote failed)
    by_why fault (as_judged h) disk is outcome k = judged disk fault (subst (λ (o : Option Disk). IsJudged job (reading o) (Err fault)) is h) outcome k

    -- the status of a run that ended with a fault
    pub refusal_ends : (fault said : Fault) (status : Status) → RestsOn job old new fault → (said ≡ fault) ⊎ (said ≡ OutOfMemory) → status ≡ status_of said → IfSome old.holds (Exact status)
    refusal_ends fault said status r m s = each (Exact status) old.holds (λ disk is. subst (λ (v : Status). Exact v disk) (sym s) (by m disk is))
      where
        by : (said ≡ fault) ⊎ (said ≡ OutOfMemory) → (disk : Disk) → old.holds ≡ Some disk → Exact (status_of said) disk
        by (inl e) = subst (λ (f : Fault). (disk : Disk) → old.holds ≡ Some disk → Exact (status_of f) disk) (sym e) (by_why fault (why fault r))
        by (inr e) = by_why said (for_memory e)

    -- the status of a run that came to its writing
    pub delivery_ends : (input : job.Input) (status : Status) → IsJudged job (reading old.holds) (Ok input)
        → (status ≡ statuses.Done) ⊎ (status ≡ statuses.Write) ⊎ (status ≡ statuses.NoMemory) → (status ≡ statuses.Write → wrote)
        → IfSome old.holds (Exact status)
    delivery_ends input status judged_so ends rose = each (Exact status) old.holds given
      where
        ended : (other : job.Input) → (status ≡ statuses.Done) ⊎ (status ≡ statuses.Write) ⊎ (status ≡ statuses.NoMemory) → EndsAs {A = job.Input} (Ok other) Failed wrote status
        ended other (inl e) = inl e
        ended other (inr (inl e)) = inr (inr (inl (e, rose e)))
        ended other (inr (inr e)) = inr (inr (inr e))

        given : (disk : Disk) → old.holds ≡ Some disk → Exact status disk
        given disk is (Ok other) k = ended other ends
        given disk is (Err fault) k = absurd (once.one disk (λ name. false) (Ok input) (Err fault) (subst (λ (o : Option Disk). IsJudged job (reading o) (Ok input)) is judged_so) k)

  -- ---- what is refused whatever the reads find

  pub refusal_is : (fault said : Fault) (status : Status) → RestsOn job old new fault → (said ≡ fault) ⊎ (said ≡ OutOfMemory) → status ≡ status_of said
      → (refusal : Fault) → IsRefusedWith job refusal → (status ≡ status_of refusal) ⊎ (status ≡ statuses.NoMemory)
  refusal_is fault said status r (inr m) s refusal only = inr (s ∙ ap status_of m)
  refusal_is fault said status r (inl m) s refusal only = by r
    where
      is : (e : ◌≡◌ {A = Result job.Input Fault} (Err fault) (Err refusal)) → status ≡ status_of refusal
      is e = s ∙ ap status_of (m ∙ (let i : fault ≡ refusal = cc in i))

      by : RestsOn job old new fault → (status ≡ status_of refusal) ⊎ (status ≡ statuses.NoMemory)
      by (inl (inl e)) = inr (s ∙ ap status_of (m ∙ e))
      by (inl (inr (c, h))) = inl (is (only (as_read fault (reading old.holds)) (Err fault) (inl h)))
      by (inr (input, given, refused)) = inl (is (only (reading old.holds) (Err fault) (inr (input, given, refused))))

  pub never_answered : (input : job.Input) → IsJudged job (reading old.holds) (Ok input) → (refusal : Fault) → IsRefusedWith job refusal → ⊥
  never_answered input judged_so refusal only =
      let e : ◌≡◌ {A = Result job.Input Fault} (Ok input) (Err refusal) = only (reading old.holds) (Ok input) judged_so in cc

  -- ---- what the fault that is said rests on

  pub said_rests : (fault said : Fault) → RestsOn job old new fault → (said ≡ fault) ⊎ (said ≡ OutOfMemory) → RestsOn job old new said
  said_rests fault said r (inl e) = subst (λ (f : Fault). RestsOn job old new f) (sym e) r
  said_rests fault said r (inr e) = inl (inl e)

  caused_so : (fault : Fault) → IsCaused old new fault → status_of fault ≢ statuses.Write
  caused_so NoTool c e = c
  caused_so (NotAForm tool) c e = c
  caused_so (CannotRead name) c e = cc
  caused_so (BadText name place cause) c e = cc
  caused_so (NotComplex name degree generator value at) c e = cc
  caused_so (Dimension name found earlier) c e = cc
  caused_so (Limit count number) c e = cc
  caused_so (Undefined cube) c e = c
  caused_so (LeavesRange cube value) c e = c
  caused_so (LeavesSubset cube value) c e = c
  caused_so (EmptyValue cell) c e = c
  caused_so (NotAcyclic cell degree cycle cocycle) c e = c
  caused_so (NotInRange cube) c e = c
  caused_so (NotInSubset cube) c e = c
  caused_so (Killed degree chain) c e = c
  caused_so (Missed degree chain) c e = c
  caused_so (LawFails name line law) c e = cc
  caused_so CannotWriteOut c e = c
  caused_so (CannotWrite name) c e = c
  caused_so OutOfMemory c e = c

  -- a fault that comes up before the writing is not that of a failed write
  pub never_writes : (fault : Fault) → RestsOn job old new fault → status_of fault ≢ statuses.Write
  never_writes fault (inl (inl e)) w = let h : statuses.NoMemory ≡ statuses.Write = sym (ap status_of e) ∙ w in cc
  never_writes fault (inl (inr (c, h))) w = caused_so fault c w
  never_writes fault (inr (input, given, r)) w = once.before input fault r w

  pub never_ends_so : (fault said : Fault) (status : Status) → RestsOn job old new fault → (said ≡ fault) ⊎ (said ≡ OutOfMemory) → status ≡ status_of said → status ≢ statuses.Write
  never_ends_so fault said status r m s w = never_writes said (said_rests fault said r m) (sym s ∙ w)

pub gains_nothing : (told : Option (List ℕ)) → Gains told told []
gains_nothing None = tt
gains_nothing (Some bytes) = sym (append-nil bytes)
