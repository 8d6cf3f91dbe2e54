-- From what a parse answers to what the words ask for.
use Rattle.std.proofs.Common.{◌≡◌, ◌⊎◌, ℕ, true, List, [], Option, None, Err, String, sym, ap, ◌∙◌, inl, inr, subst}
use Rattle.std.specs.Option.{option_and_then}
use Rattle.clap.specs.Kinds.{HasKind, IsAmong}
use Rattle.clap.specs.Values.{kind_of}
use Rattle.clap.specs.Faults.{fault_of, is_simple_and_free}
use Rattle.clap.specs.Matches.{found_of}
use Rattle.clap.specs.Simple.{App, HasMatchesOf, is_simple, matches_of}
use Rattle.clap.specs.Walk.{Text, rows_of}
use Rattle.clap.specs.declared.error.Error.{Error}
use Rattle.clap.specs.declared.error.kind.ErrorKind.TheVariants as kind
use Rattle.clap.specs.declared.parser.matches.ArgMatches.{ArgMatches}
use Rattle.clap.proofs.WalkLemmas.{both}
use Rattle.command_line.specs.Forms.{Row as Form, Spoken, Anything, spoken, words_read}
use Rattle.command_line.specs.Words.{Request, formed, request_of}
use Rattle.faults.specs.declared.fault.Fault.{Fault}
use Rattle.faults.specs.declared.fault.Fault.TheVariants.{NotAForm, OutOfMemory}
use Rattle.parsing.specs.Syntax.{IsListed, syntax}
use Rattle.parsing.specs.Found.{Finds, in_table}
use Rattle.parsing.proofs.Rules.{simple}
use Rattle.parsing.proofs.InTable.{same_request}
use Rattle.parsing.proofs.Reading.{Answer, answer, refuses, takes}

-- what the words after a tool's name ask for
abbrev pub asked : {A : Type 0} → Form → List (String A) → Option Request
asked form words = option_and_then (request_of form) (words_read form Anything (spoken words))

pub simply : (form : Form) (a : App) → a ≡ syntax form → is_simple_and_free a ≡ true
simply form a is = ap is_simple_and_free is ∙ simple form

-- another refusal than for want of memory comes where the words are of no form
pub refused_words : {A : Type 0} (form : Form) (words : List (String A)) (a : App) (texts : List Text) (e : Error) → IsListed form → a ≡ syntax form → texts ≡ spoken words
    → HasKind (fault_of a texts) e → (kind_of e ≡ kind.OutOfMemory → ⊥) → asked form words ≡ None
refused_words form words a texts e listed is same has other =
    by (answer form words listed) (subst (λ t. HasKind (fault_of (syntax form) t) e) same (subst (λ (x : App). HasKind (fault_of x texts) e) is has))
  where
    by : Answer form words → HasKind (fault_of (syntax form) (spoken words)) e → asked form words ≡ None
    by (refuses some none) has = none
    by (takes none said read once members found) (inl memory) = absurd (other memory)
    by (takes none said read once members found) (inr among) = absurd (subst (λ ks. IsAmong (kind_of e) ks) none among)

-- what the words said, where they were taken
pub record Taken {A : Type 0} (form : Form) (words : List (String A)) (m : ArgMatches) : Type 0 where
  pub said : Spoken
  pub found : Finds said (rows_of (found_of m))
  pub request : asked form words ≡ request_of form (in_table form.options said)

pub taken_words : {A : Type 0} (form : Form) (words : List (String A)) (a : App) (texts : List Text) (m : ArgMatches) → IsListed form → a ≡ syntax form → texts ≡ spoken words
    → fault_of a texts ≡ [] → HasMatchesOf a texts m → Taken form words m
taken_words form words a texts m listed is same nothing matches = by (answer form words listed)
  where
    kinds : fault_of (syntax form) (spoken words) ≡ []
    kinds = sym (λ i. fault_of (is i) (same i)) ∙ nothing

    rows : rows_of (found_of m) ≡ matches_of (syntax form) (spoken words)
    rows = (matches ((both (is_simple a) _ (simply form a is)).0)).0 ∙ (λ i. matches_of (is i) (same i))

    by : Answer form words → Taken form words m
    by (refuses some none) = absurd (some kinds)
    by (takes none said read once members found) = record {
      said = said;
      found = subst (Finds said) (sym rows) found;
      request = ap (option_and_then (request_of form)) read ∙ sym (same_request form said listed once members);
    }

pub not_formed : (form : Form) (name : List ℕ) (fault : Fault) (o : Option Request) → o ≡ None → name ≡ form.name → (fault ≡ NotAForm name) ⊎ (fault ≡ OutOfMemory)
    → (formed form o ≡ Err fault) ⊎ (fault ≡ OutOfMemory)
not_formed form name fault o none is (inl e) = inl (ap (λ (p : Option Request). formed form p) none ∙ ap (λ f. Err f) (ap (λ n. NotAForm n) (sym is) ∙ sym e))
not_formed form name fault o none is (inr e) = inr e
