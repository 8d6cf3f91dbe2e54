-- The outcome of a text: a value or a refusal, and one of them alone.
use Rattle.std.proofs.Common.{◌≡◌, ◌⊎◌, inl, inr, ℕ, List, length, false, Ok, Err, refl, ap, ◌∙◌}
use Rattle.outside.specs.Tokens.{tokens}
use Rattle.chain_files.specs.Content.{Content}
use Rattle.chain_files.specs.Known.{nothing_known}
use Rattle.chain_files.specs.ChainFile.{said, HasValue, IsRefusedAt}
use Rattle.chain_files.specs.Reading.{Outcome, read}
use Rattle.chain_files.specs.Laws.{TextsHaveOneOutcome}
use Rattle.chain_files.specs.declared.due.Due.TheVariants.{Chain, Between}
use Rattle.chain_files.specs.declared.fault.ChainCause.{ChainCause}
use Rattle.chain_files.proofs.Following.{Follows}
use Rattle.chain_files.proofs.Refusing.{refused_read, refusal_read}
use Rattle.chain_files.proofs.Values.{told}
use Rattle.chain_files.proofs.Spelled.{items_read, heading_read}

-- the reading of a whole text
abbrev pub reading : ℕ → List ℕ → Outcome
reading p text = read p nothing_known Chain (length text) (tokens text)

begun_value : (p : ℕ) (text : List ℕ) (content : Content) → Follows p nothing_known Chain content (said (tokens text)) → HasValue p text content
begun_value p text content h =
    let top = h.then.then.then.then in
    let rest = top.token.then in
    record {
      top = top.z;
      items = rest.items;
      begun = top.now;
      all = rest.all;
      spelling = rw (h.is, h.then.is, h.then.then.is, h.then.then.then.is, top.token.is, rest.spelling) refl;
      begins = top.made;
      gathers = rest.gathers;
      whole = rest.whole;
      is_content = rest.is_content;
    }

pub read_value : (p : ℕ) (text : List ℕ) (content : Content) → reading p text ≡ Ok content → HasValue p text content
read_value p text content h = begun_value p text content (told p (length text) content (tokens text) nothing_known Chain h)

pub value_read : (p : ℕ) (text : List ℕ) (content : Content) → HasValue p text content → reading p text ≡ Ok content
value_read p text content h =
    heading_read p (length text) content nothing_known h.begun h.top _ h.begins
    (items_read p (length text) content h.items h.begun h.all false Between refl h.gathers h.whole h.is_content)
    (tokens text) h.spelling

pub read_refusal : (p : ℕ) (text : List ℕ) (place : ℕ) (cause : ChainCause) → reading p text ≡ Err (place, cause) → IsRefusedAt p text place cause
read_refusal p text place cause h =
    let b = refused_read p (length text) nothing_known Chain (tokens text) place cause h in
    record { before = b.before; rest = b.rest; known = b.known; due = b.due'; split = b.split; leads = b.leads; stops = b.stops_at }

pub refusal_told : (p : ℕ) (text : List ℕ) (place : ℕ) (cause : ChainCause) → IsRefusedAt p text place cause → reading p text ≡ Err (place, cause)
refusal_told p text place cause h =
    ap (read p nothing_known Chain (length text)) h.split
    ∙ refusal_read p (length text) nothing_known h.known Chain h.due h.before h.rest place cause h.leads h.stops

some_outcome : (p : ℕ) (text : List ℕ) (r : Outcome) → reading p text ≡ r
    → ((content : Content) × HasValue p text content) ⊎ ((place : ℕ) × (cause : ChainCause) × IsRefusedAt p text place cause)
some_outcome p text (Ok content) e = inl (content, read_value p text content e)
some_outcome p text (Err f) e = inr (f.0, f.1, read_refusal p text f.0 f.1 e)

same_value : (r : Outcome) (v w : Content) → r ≡ Ok v → r ≡ Ok w → v ≡ w
same_value r v w h k = cc

same_refusal : (r : Outcome) (e f : ℕ × ChainCause) → r ≡ Err e → r ≡ Err f → e ≡ f
same_refusal r e f h k = cc

pub no_outcome : (r : Outcome) (v : Content) (e : ℕ × ChainCause) → r ≡ Ok v → r ≡ Err e → ⊥
no_outcome r v e h k = cc

pub one_outcome : TextsHaveOneOutcome
one_outcome = record {
  some = λ p text. some_outcome p text (reading p text) refl;
  one_value = λ p text content other h k. same_value (reading p text) content other (value_read p text content h) (value_read p text other k);
  one_place = λ p text place other cause why h k.
      let e = same_refusal (reading p text) (place, cause) (other, why) (refusal_told p text place cause h) (refusal_told p text other why k) in
      (ap (λ e. e.0) e, ap (λ e. e.1) e);
  never_both = λ p text content place cause h k.
      no_outcome (reading p text) content (place, cause) (value_read p text content h) (refusal_told p text place cause k);
}
