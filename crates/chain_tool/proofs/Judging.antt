-- The jobs of this crate are judged in one way.
use Rattle.std.proofs.Common.{◌≡◌, ℕ, List, [], ◌∷◌, Result, Ok, Err, refl, sym, ap, ◌∙◌, subst, ◌⊎◌, inl, inr}
use Rattle.chain_files.specs.Content.{Content}
use Rattle.chain_files.specs.ChainFile.{HasValue, IsRefusedAt}
use Rattle.chain_files.specs.Complexes.{SquaresToZero, IsNotComplexAt}
use Rattle.chain_files.specs.declared.fault.ChainCause.{ChainCause}
use Rattle.chain_files.specs.declared.fault.ChainCause.TheVariants.{BadByte, BadNumber, Unclosed, UnknownGenerator, RepeatedGenerator, TooManyGenerators, TooManyTerms}
use Rattle.chain_files.proofs.Outcomes.{one_outcome as chain_outcome}
use Rattle.chain_files.proofs.Squares.{one_outcome as value_outcome}
use Rattle.faults.specs.declared.fault.Fault.{Fault}
use Rattle.faults.specs.declared.fault.Fault.TheVariants.{NotComplex}
use Rattle.loading.specs.Steps.{IsOne}
use Rattle.loading.specs.Readings.{Finds, file_bytes}
use Rattle.loading.specs.Jobs.{HasOneJudgement}
use Rattle.loading.proofs.Steps.{then_one}
use Rattle.loading.proofs.OfFiles.{IsPlain, IsMade, IsOfFiles, made, of_file, then_files}
use Rattle.loading.proofs.Loading.{named_itself}
use Rattle.loading.proofs.Judging.{judged_once}
use Rattle.chain_tool.specs.declared.homchain.ChainJob.{ChainJob}
use Rattle.chain_tool.specs.Contents.{chain_fault, IsValueOf, IsComplexOf, IsContentOf, IsContentIn}
use Rattle.chain_tool.specs.Jobs.{chain_job}

-- ---- the text

read_outcome : (p : ℕ) (name text : List ℕ) → ((content : Content) × HasValue p text content) ⊎ ((place : ℕ) × (cause : ChainCause) × IsRefusedAt p text place cause)
    → (o : Result Content Fault) × IsValueOf p name text o
read_outcome p name text (inl v) = (Ok v.0, v.1)
read_outcome p name text (inr r) = (Err (chain_fault name r.0 r.1), (r.0, r.1, r.2, refl))

same_read : (p : ℕ) (name text : List ℕ) (o r : Result Content Fault) → IsValueOf p name text o → IsValueOf p name text r → o ≡ r
same_read p name text (Ok c) (Ok e) h k = ap (λ v. Ok v) (chain_outcome.one_value p text c e h k)
same_read p name text (Ok c) (Err g) h k = absurd (chain_outcome.never_both p text c k.0 k.1 h k.2)
same_read p name text (Err f) (Ok e) h k = absurd (chain_outcome.never_both p text e h.0 h.1 k h.2)
same_read p name text (Err f) (Err g) h k =
    let q = chain_outcome.one_place p text h.0 k.0 h.1 k.1 h.2 k.2 in
    ap (λ v. Err v) (h.3 ∙ ap (λ n. chain_fault name n h.1) q.0 ∙ ap (λ c. chain_fault name k.0 c) q.1 ∙ sym k.3)

read_one : (p : ℕ) (name text : List ℕ) → IsOne (IsValueOf p name text)
read_one p name text = let o = read_outcome p name text (chain_outcome.some p text) in record { outcome = o.0; holds = o.1; one = same_read p name text }

-- ---- the complex

complex_outcome : (p : ℕ) (name : List ℕ) (content : Content) → SquaresToZero p content ⊎ ((degree : ℕ) × (generator : ℕ) × (at : ℕ) × (value : ℕ) × IsNotComplexAt p content degree generator at value)
    → (o : Result Content Fault) × IsComplexOf p name content o
complex_outcome p name content (inl s) = (Ok content, (s, refl))
complex_outcome p name content (inr r) = (Err (NotComplex name r.0 r.1 r.3 r.2), (r.0, r.1, r.2, r.3, r.4, refl))

same_complex : (p : ℕ) (name : List ℕ) (content : Content) (o r : Result Content Fault) → IsComplexOf p name content o → IsComplexOf p name content r → o ≡ r
same_complex p name content (Ok c) (Ok e) h k = ap (λ v. Ok v) (h.1 ∙ sym k.1)
same_complex p name content (Ok c) (Err g) h k = absurd (value_outcome.never_both p content k.0 k.1 k.2 k.3 h.0 k.4)
same_complex p name content (Err f) (Ok e) h k = absurd (value_outcome.never_both p content h.0 h.1 h.2 h.3 k.0 h.4)
same_complex p name content (Err f) (Err g) h k =
    let q = value_outcome.one_place p content h.0 k.0 h.1 k.1 h.2 k.2 h.3 k.3 h.4 k.4 in
    ap (λ v. Err v) (h.5
    ∙ ap (λ n. NotComplex name n h.1 h.3 h.2) q.0 ∙ ap (λ n. NotComplex name k.0 n h.3 h.2) q.1
    ∙ ap (λ n. NotComplex name k.0 k.1 h.3 n) q.2 ∙ ap (λ n. NotComplex name k.0 k.1 n k.2) q.3 ∙ sym k.5)

complex_one : (p : ℕ) (name : List ℕ) (content : Content) → IsOne (IsComplexOf p name content)
complex_one p name content = let o = complex_outcome p name content (value_outcome.some p content) in record { outcome = o.0; holds = o.1; one = same_complex p name content }

-- ---- refusals of a text rest on no count

value_plain : (p : ℕ) (name text : List ℕ) (fault : Fault) → IsValueOf p name text (Err fault) → IsPlain fault
value_plain p name text fault (place, cause, refused, e) = subst IsPlain (sym e) (by cause)
  where
    by : (cause : ChainCause) → IsPlain (chain_fault name place cause)
    by BadByte = tt
    by BadNumber = tt
    by Unclosed = tt
    by UnknownGenerator = tt
    by RepeatedGenerator = tt
    by TooManyGenerators = tt
    by TooManyTerms = tt

complex_plain : (p : ℕ) (name : List ℕ) (content : Content) (fault : Fault) → IsComplexOf p name content (Err fault) → IsPlain fault
complex_plain p name content fault (degree, generator, at, value, first, e) = subst IsPlain (sym e) tt

pub content_plain : (p : ℕ) (name text : List ℕ) (fault : Fault) → IsContentOf p name text (Err fault) → IsPlain fault
content_plain p name text fault (inl r) = value_plain p name text fault r
content_plain p name text fault (inr (content, value, r)) = complex_plain p name content fault r

content_made : (p : ℕ) (name text : List ℕ) → IsMade (IsContentOf p name text)
content_made p name text = record {
  one = then_one (IsValueOf p name text) (IsComplexOf p name) (read_one p name text) (complex_one p name);
  plain = content_plain p name text;
}

content_in_file : (p : ℕ) (name : List ℕ) → IsOfFiles (name ∷ []) (IsContentIn p name)
content_in_file p name = then_files (name ∷ []) (λ read. Finds read file_bytes name) (λ read. IsContentOf p name)
    (of_file (name ∷ []) file_bytes name (named_itself [] name)) (λ text. made (name ∷ []) (IsContentOf p name text) (content_made p name text))

-- ---- the job

pub chain_once : (job : ChainJob) → HasOneJudgement (chain_job job)
unfolding chain_job
chain_once job = judged_once (chain_job job) (record {
  files = content_in_file job.modulus job.file;
  found = λ content. inr (λ fault r. r);
  alike = λ content f g r s. absurd r;
  before = λ content fault r e. r;
})
