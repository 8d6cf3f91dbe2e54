-- Steps that read files of these names and no others: where the files are told they have one outcome, and where one file more cannot
-- be read, what was found is still there, or it is the one that cannot be read.
use Rattle.std.proofs.Common.{◌≡◌, ℕ, ◌<◌, ◌≤◌, Bool, true, false, cond, List, length, Option, None, Some, Result, Ok, Err, Contains, refl, sym, ap, ◌∙◌, subst, arith, ◌⊎◌, inl, inr}
use Rattle.std.proofs.lemmas.Bool.{cases_lt}
use Rattle.std.proofs.lemmas.Slice.Eq.{bytes_eq-Decides}
use Rattle.std.specs.Str.{bytes_eq}
use Rattle.outside.specs.Disk.{Disk, content}
use Rattle.cube_sets.specs.Sets.{Members}
use Rattle.grid_files.specs.SetFile.{HasValue, IsRefusedAt, no_members}
use Rattle.grid_files.specs.declared.fault.Kind.{Kind}
use Rattle.grid_files.specs.declared.fault.TextCause.{TextCause}
use Rattle.grid_files.specs.declared.fault.TextCause.TheVariants.{BadByte, BadNumber, Unclosed, MixedDimension, DimensionTooLarge, CoordinateTooLarge, NotElementary, NotFull, TooMany}
use Rattle.grid_files.proofs.Outcomes.{one_outcome}
use Rattle.faults.specs.declared.fault.Fault.{Fault}
use Rattle.faults.specs.declared.fault.Fault.TheVariants.{BadText, NotComplex, Dimension, CannotRead, Limit, LawFails}
use Rattle.faults.specs.declared.limit_name.LimitName.TheVariants.{FileBytes}
use Rattle.loading.specs.Steps.{Then, Is, IsOne}
use Rattle.loading.specs.Readings.{Reading, Finds, reading, told, but_for, file_bytes}
use Rattle.loading.specs.Sets.{text_fault, IsSetOf, IsSetIn, IsSubsetIn, and_subset}
use Rattle.loading.proofs.Steps.{settled, then_one}

-- a fault of what was read, which rests on no count
abbrev pub IsPlain : Fault → Type 0
IsPlain (BadText name place cause) = Unit {0}
IsPlain (NotComplex name degree generator value at) = Unit {0}
IsPlain (Dimension name found earlier) = Unit {0}
IsPlain (Limit FileBytes number) = ⊥
IsPlain (Limit count number) = Unit {0}
IsPlain (LawFails name line law) = Unit {0}
IsPlain fault = ⊥

-- a step that reads nothing: it has one outcome, and refuses with faults of what was read
pub record IsMade {A : Type 0} (step : Result A Fault → Type 0) : Type 0 where
  pub one : IsOne step
  pub plain : (fault : Fault) → step (Err fault) → IsPlain fault

pub record IsOfFiles {A : Type 0} (names : List (List ℕ)) (gives : Reading → Result A Fault → Type 0) : Type 0 where
  pub one : (disk : Disk) (unread : List ℕ → Bool) → IsOne (gives (told disk unread))
  pub stable : (unread : List ℕ) (holds : Option Disk) (x : A) → gives (reading holds) (Ok x)
      → gives (but_for unread (reading holds)) (Ok x) ⊎ gives (but_for unread (reading holds)) (Err (CannotRead unread))
  pub named : (holds : Option Disk) (name : List ℕ) → gives (but_for name (reading holds)) (Err (CannotRead name)) → Contains names name

-- ---- what reads nothing

pub made : {A : Type 0} (names : List (List ℕ)) (step : Result A Fault → Type 0) → IsMade step → IsOfFiles names (λ read. step)
made names step m = record { one = λ disk unread. m.one; stable = λ unread holds x h. inl h; named = λ holds name h. absurd (m.plain (CannotRead name) h) }

pub value_made : {A : Type 0} (x : A) → IsMade (Is (Ok x))
value_made x = record { one = settled (Ok x); plain = λ fault e. absurd (never x fault e) }
  where
    never : {A : Type 0} (x : A) (fault : Fault) → ◌≡◌ {A = Result A Fault} (Err fault) (Ok x) → ⊥
    never x fault e = cc

-- ---- one read

found : (disk : Disk) (unread : List ℕ → Bool) (limit : ℕ) (name : List ℕ) → IsOne (Finds (told disk unread) limit name)
found disk unread limit name = by (unread name) refl (cases_lt limit (length (content disk name)))
  where
    never : limit < length (content disk name) → length (content disk name) ≤ limit → ⊥
    never l m = omega (arith, l, m)

    both : unread name ≡ false → unread name ≡ true → ⊥
    both f t = let e : false ≡ true = sym f ∙ t in cc

    few : (x : List ℕ) → Finds (told disk unread) limit name (Ok x) → length (content disk name) ≤ limit
    few x h = subst (λ (b : List ℕ). length b ≤ limit) h.2 h.1

    one : (o r : Result (List ℕ) Fault) → Finds (told disk unread) limit name o → Finds (told disk unread) limit name r → o ≡ r
    one (Ok x) (Ok y) h k = ap (λ b. Ok b) (h.2 ∙ sym k.2)
    one (Ok x) (Err g) h (inl k) = absurd (never k.2 (few x h))
    one (Ok x) (Err g) h (inr k) = absurd (both h.0 k.0)
    one (Err f) (Ok y) (inl h) k = absurd (never h.2 (few y k))
    one (Err f) (Ok y) (inr h) k = absurd (both k.0 h.0)
    one (Err f) (Err g) (inl h) (inl k) = ap (λ c. Err c) (h.1 ∙ sym k.1)
    one (Err f) (Err g) (inl h) (inr k) = absurd (both h.0 k.0)
    one (Err f) (Err g) (inr h) (inl k) = absurd (both k.0 h.0)
    one (Err f) (Err g) (inr h) (inr k) = ap (λ c. Err c) (h.1 ∙ sym k.1)

    by : (b : Bool) → unread name ≡ b → ((limit < length (content disk name)) ⊎ (length (content disk name) ≤ limit)) → IsOne (Finds (told disk unread) limit name)
    by true e m = record { outcome = Err (CannotRead name); holds = inr (e, refl); one = one }
    by false e (inl more) = record { outcome = Err (Limit FileBytes limit); holds = inl (e, refl, more); one = one }
    by false e (inr less) = record { outcome = Ok (content disk name); holds = (e, less, refl); one = one }

pub of_file : (names : List (List ℕ)) (limit : ℕ) (name : List ℕ) → Contains names name → IsOfFiles names (λ read. Finds read limit name)
of_file names limit name within = record { one = λ disk unread. found disk unread limit name; stable = stable; named = named }
  where
    stable : (unread : List ℕ) (holds : Option Disk) (x : List ℕ) → Finds (reading holds) limit name (Ok x)
        → Finds (but_for unread (reading holds)) limit name (Ok x) ⊎ Finds (but_for unread (reading holds)) limit name (Err (CannotRead unread))
    stable unread holds x h = by (bytes_eq name unread) refl
      where
        by : (b : Bool) → bytes_eq name unread ≡ b
            → Finds (but_for unread (reading holds)) limit name (Ok x) ⊎ Finds (but_for unread (reading holds)) limit name (Err (CannotRead unread))
        by true e = inr (inr (ap (λ (c : Bool). cond c true false) e, ap (λ (n : List ℕ). CannotRead n) (sym ((bytes_eq-Decides name unread).0 e))))
        by false e = inl (ap (λ (c : Bool). cond c true false) e, h.1, h.2)

    named : (holds : Option Disk) (other : List ℕ) → Finds (but_for other (reading holds)) limit name (Err (CannotRead other)) → Contains names other
    named holds other (inl (f, e, h)) = cc
    named holds other (inr (t, e)) = subst (λ (n : List ℕ). Contains names n) (let i : name ≡ other = cc in i) within

-- ---- one step after another

-- both find it also where one file more cannot be read, or one of them does not find that
abbrev Stays : {A B : Type 0} → (Reading → Result A Fault → Type 0) → (Reading → A → Result B Fault → Type 0) → List ℕ → Option Disk → B → Type 0
Stays first next unread holds y = Then (first (but_for unread (reading holds))) (next (but_for unread (reading holds))) (Ok y)
    ⊎ Then (first (but_for unread (reading holds))) (next (but_for unread (reading holds))) (Err (CannotRead unread))

pub then_files : {A B : Type 0} (names : List (List ℕ)) (first : Reading → Result A Fault → Type 0) (next : Reading → A → Result B Fault → Type 0)
    → IsOfFiles names first → ((x : A) → IsOfFiles names (λ read. next read x)) → IsOfFiles names (λ read. Then (first read) (next read))
then_files {A} {B} names first next f n = record {
  one = λ disk unread. then_one (first (told disk unread)) (next (told disk unread)) (f.one disk unread) (λ x. (n x).one disk unread);
  stable = stable;
  named = named;
}
  where
    stable : (unread : List ℕ) (holds : Option Disk) (y : B) → Then (first (reading holds)) (next (reading holds)) (Ok y) → Stays first next unread holds y
    stable unread holds y (x, h, k) = by (f.stable unread holds x h) ((n x).stable unread holds y k)
      where
        by : (first (but_for unread (reading holds)) (Ok x) ⊎ first (but_for unread (reading holds)) (Err (CannotRead unread)))
            → (next (but_for unread (reading holds)) x (Ok y) ⊎ next (but_for unread (reading holds)) x (Err (CannotRead unread))) → Stays first next unread holds y
        by (inl g) (inl l) = inl (x, g, l)
        by (inl g) (inr e) = inr (inr (x, g, e))
        by (inr e) l = inr (inl e)

    named : (holds : Option Disk) (name : List ℕ) → Then (first (but_for name (reading holds))) (next (but_for name (reading holds))) (Err (CannotRead name)) → Contains names name
    named holds name (inl h) = f.named holds name h
    named holds name (inr (x, h, k)) = (n x).named holds name k

-- ---- sets of files

set_outcome : (kind : Kind) (name text : List ℕ) → ((set : Members) × HasValue kind text set) ⊎ ((place : ℕ) × (cause : TextCause) × IsRefusedAt kind text place cause)
    → (o : Result Members Fault) × IsSetOf kind name text o
set_outcome kind name text (inl v) = (Ok v.0, v.1)
set_outcome kind name text (inr r) = (Err (text_fault name r.0 r.1), (r.0, r.1, r.2, refl))

same_set : (kind : Kind) (name text : List ℕ) (o r : Result Members Fault) → IsSetOf kind name text o → IsSetOf kind name text r → o ≡ r
same_set kind name text (Ok s) (Ok t) h k = ap (λ v. Ok v) (one_outcome.one_value kind text s t h k)
same_set kind name text (Ok s) (Err g) h k = absurd (one_outcome.never_both kind text s k.0 k.1 h k.2)
same_set kind name text (Err f) (Ok t) h k = absurd (one_outcome.never_both kind text t h.0 h.1 k h.2)
same_set kind name text (Err f) (Err g) h k =
    let q = one_outcome.one_place kind text h.0 k.0 h.1 k.1 h.2 k.2 in
    ap (λ v. Err v) (h.3 ∙ ap (λ n. text_fault name n h.1) q.0 ∙ ap (λ c. text_fault name k.0 c) q.1 ∙ sym k.3)

set_one : (kind : Kind) (name text : List ℕ) → IsOne (IsSetOf kind name text)
set_one kind name text = let o = set_outcome kind name text (one_outcome.some kind text) in record { outcome = o.0; holds = o.1; one = same_set kind name text }

pub set_plain : (kind : Kind) (name text : List ℕ) (fault : Fault) → IsSetOf kind name text (Err fault) → IsPlain fault
set_plain kind name text fault (place, cause, refused, is) = subst IsPlain (sym is) (by cause)
  where
    by : (cause : TextCause) → IsPlain (text_fault name place cause)
    by BadByte = tt
    by BadNumber = tt
    by Unclosed = tt
    by MixedDimension = tt
    by DimensionTooLarge = tt
    by CoordinateTooLarge = tt
    by NotElementary = tt
    by NotFull = tt
    by TooMany = tt

pub set_made : (kind : Kind) (name text : List ℕ) → IsMade (IsSetOf kind name text)
set_made kind name text = record { one = set_one kind name text; plain = set_plain kind name text }

pub set_in_files : (names : List (List ℕ)) (kind : Kind) (name : List ℕ) → Contains names name → IsOfFiles names (IsSetIn kind name)
set_in_files names kind name within = then_files names (λ read. Finds read file_bytes name) (λ read. IsSetOf kind name) (of_file names file_bytes name within)
    (λ text. made names (IsSetOf kind name text) (set_made kind name text))

pub subset_in_files : (names : List (List ℕ)) (kind : Kind) (name : Option (List ℕ)) → ((n : List ℕ) → Contains (and_subset name) n → Contains names n) → IsOfFiles names (IsSubsetIn kind name)
subset_in_files names kind None within = made names (Is (Ok no_members)) (value_made no_members)
subset_in_files names kind (Some name) within = set_in_files names kind name (within name (0, (omega arith), refl))
