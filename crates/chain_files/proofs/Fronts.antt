-- Texts that share their first tokens with a text that is refused.
use Rattle.std.proofs.Common.{◌≡◌, ◌⊎◌, inl, inr, ℕ, List, [], ◌∷◌, ◌++◌, length, false, Ok, refl, sym, ap, ◌∙◌}
use Rattle.std.proofs.lemmas.List.{append-nil}
use Rattle.outside.specs.Tokens.{Lexeme, tokens}
use Rattle.chain_files.specs.Content.{Content}
use Rattle.chain_files.specs.Known.{Known, nothing_known}
use Rattle.chain_files.specs.Steps.{is_whole}
use Rattle.chain_files.specs.ChainFile.{said, HasValue, Leads, StopsAt, IsRefusedAt}
use Rattle.chain_files.specs.Reading.{read}
use Rattle.chain_files.specs.Refusals.{RefusalsAreFirst}
use Rattle.chain_files.specs.declared.due.Due.{Due}
use Rattle.chain_files.specs.declared.due.Due.TheVariants.{Chain, Between}
use Rattle.chain_files.specs.declared.fault.ChainCause.{ChainCause}
use Rattle.chain_files.specs.declared.fault.ChainCause.TheVariants.{Unclosed}
use Rattle.chain_files.proofs.Deciding.{on_test}
use Rattle.chain_files.proofs.Refusing.{led, read_end, refusal_read}
use Rattle.chain_files.proofs.Outcomes.{read_value, no_outcome}
use Rattle.chain_files.proofs.Spelled.{items_read, heading_read}

-- tokens at any place
abbrev placed : List Lexeme → List (ℕ × Lexeme)
placed [] = []
placed (l ∷ ls) = (0, l) ∷ placed ls

said_placed : (ls : List Lexeme) → said (placed ls) ≡ ls
said_placed [] = refl
said_placed (l ∷ ls) = ap (λ x. l ∷ x) (said_placed ls)

said_append : (xs ys : List (ℕ × Lexeme)) → said (xs ++ ys) ≡ said xs ++ said ys
said_append [] ys = refl
said_append (x ∷ xs) ys = ap (λ l. x.1 ∷ l) (said_append xs ys)

-- tokens that say what the text says are read with its value
read_alike : (p : ℕ) (other : List ℕ) (content : Content) (ts : List (ℕ × Lexeme)) → HasValue p other content
    → said ts ≡ said (tokens other) → read p nothing_known Chain 0 ts ≡ Ok content
read_alike p other content ts v e =
    heading_read p 0 content nothing_known v.begun v.top _ v.begins
    (items_read p 0 content v.items v.begun v.all false Between refl v.gathers v.whole v.is_content)
    ts (e ∙ v.spelling)

goes_on : (p : ℕ) (text other : List ℕ) (place : ℕ) (cause : ChainCause) (refusal : IsRefusedAt p text place cause)
    (t : ℕ × Lexeme) (ts : List (ℕ × Lexeme)) (more : List Lexeme) (content : Content)
    → refusal.rest ≡ t ∷ ts → said (tokens other) ≡ said refusal.before ++ t.1 ∷ more → ¬ HasValue p other content
goes_on p text other place cause refusal t ts more content split e v =
    let all = refusal.before ++ t ∷ placed more in
    let told : said all ≡ said (tokens other) = said_append refusal.before (t ∷ placed more)
    ∙ ap (λ x. said refusal.before ++ t.1 ∷ x) (said_placed more) ∙ sym e in
    let stop : StopsAt p refusal.known refusal.due (length text) (t ∷ ts) place cause = rw split at refusal.stops in
    no_outcome (read p nothing_known Chain 0 all) content (place, cause)
    (read_alike p other content all v told)
    (refusal_read p 0 nothing_known refusal.known Chain refusal.due refusal.before (t ∷ placed more) place cause refusal.leads stop)

-- what the first of some tokens lead to
record Led (p : ℕ) (s : Known) (due : Due) (ts : List (ℕ × Lexeme)) : Type 0 where
  known : Known
  due' : Due
  leads : Leads p s due ts known due'

leads_front : (p : ℕ) (s s' : Known) (due due' : Due) (xs ys : List (ℕ × Lexeme)) → Leads p s due (xs ++ ys) s' due' → Led p s due xs
leads_front p s s' due due' [] ys h = record { known = s; due' = due; leads = (refl, refl) }
leads_front p s s' due due' (t ∷ xs) ys h =
    let l = leads_front p h.0 s' h.1 due' xs ys h.3 in
    record { known = l.known; due' = l.due'; leads = (h.0, h.1, h.2, l.leads) }

led_text : (p : ℕ) (other : List ℕ) → Led p nothing_known Chain (tokens other)
    → ((content : Content) × HasValue p other content) ⊎ IsRefusedAt p other (length other) Unclosed
led_text p other l = on_test (is_whole l.known l.due')
    (λ w. inl (
      l.known.content,
      read_value p other l.known.content
          (ap (read p nothing_known Chain (length other)) (sym (append-nil (tokens other)))
          ∙ led p (length other) nothing_known l.known Chain l.due' (tokens other) [] l.leads
          ∙ read_end p (length other) l.known l.due' w),
    ))
    (λ w. inr (record {
      before = tokens other;
      rest = [];
      known = l.known;
      due = l.due';
      split = sym (append-nil (tokens other));
      leads = l.leads;
      stops = (w, refl, refl);
    }))

pub first_refusals : RefusalsAreFirst
first_refusals = record {
  none_goes_on = goes_on;
  front = λ p text other place cause refusal more split.
      led_text p other (leads_front p nothing_known refusal.known Chain refusal.due (tokens other) more (rw split at refusal.leads));
}
