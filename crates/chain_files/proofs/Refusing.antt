-- The reading as a function, and the relation of what is refused.
use Rattle.std.proofs.Common.{◌≡◌, ℕ, List, [], ◌∷◌, ◌++◌, true, false, Ok, Err, refl, sym, ap, ◌∙◌}
use Rattle.outside.specs.Tokens.{Lexeme}
use Rattle.chain_files.specs.Content.{Content}
use Rattle.chain_files.specs.Known.{Known}
use Rattle.chain_files.specs.Steps.{Step, goes, stops, step, is_whole}
use Rattle.chain_files.specs.ChainFile.{Leads, StopsAt}
use Rattle.chain_files.specs.Reading.{Outcome, next, read}
use Rattle.chain_files.proofs.Deciding.{on_test}
use Rattle.chain_files.specs.declared.due.Due.{Due}
use Rattle.chain_files.specs.declared.fault.ChainCause.{ChainCause}
use Rattle.chain_files.specs.declared.fault.ChainCause.TheVariants.{Unclosed}

pub read_goes : (p end : ℕ) (s s' : Known) (due due' : Due) (t : ℕ × Lexeme) (ts : List (ℕ × Lexeme)) → step p s due t.0 t.1 ≡ goes s' due'
    → read p s due end (t ∷ ts) ≡ read p s' due' end ts
read_goes p end s s' due due' t ts e = ap (λ x. next x (λ s' due'. read p s' due' end ts) (λ place cause. Err (place, cause))) e

pub read_stops : (p end : ℕ) (s : Known) (due : Due) (t : ℕ × Lexeme) (ts : List (ℕ × Lexeme)) (place : ℕ) (cause : ChainCause) → step p s due t.0 t.1 ≡ stops place cause
    → read p s due end (t ∷ ts) ≡ Err (place, cause)
read_stops p end s due t ts place cause e = ap (λ x. next x (λ s' due'. read p s' due' end ts) (λ place cause. Err (place, cause))) e

pub read_end : (p end : ℕ) (s : Known) (due : Due) → is_whole s due ≡ true → read p s due end [] ≡ Ok s.content
read_end p end s due w = rw w refl

pub read_unclosed : (p end : ℕ) (s : Known) (due : Due) → is_whole s due ≡ false → read p s due end [] ≡ Err (end, Unclosed)
read_unclosed p end s due w = rw w refl

-- what the relation refuses is read so

stopped : (p end : ℕ) (s : Known) (due : Due) (ts : List (ℕ × Lexeme)) (place : ℕ) (cause : ChainCause) → StopsAt p s due end ts place cause
    → read p s due end ts ≡ Err (place, cause)
stopped p end s due [] place cause h = read_unclosed p end s due h.0 ∙ ap (λ n. Err (n, Unclosed)) (sym h.1) ∙ ap (λ w. Err (place, w)) (sym h.2)
stopped p end s due (t ∷ ts) place cause h = read_stops p end s due t ts place cause h

pub led : (p end : ℕ) (s s' : Known) (due due' : Due) (before rest : List (ℕ × Lexeme)) → Leads p s due before s' due'
    → read p s due end (before ++ rest) ≡ read p s' due' end rest
led p end s s' due due' [] rest h = ap (λ x. read p x due end rest) (sym h.0) ∙ ap (λ d. read p s' d end rest) (sym h.1)
led p end s s' due due' (t ∷ ts) rest h = read_goes p end s h.0 due h.1 t (ts ++ rest) h.2 ∙ led p end h.0 s' h.1 due' ts rest h.3

pub refusal_read : (p end : ℕ) (s s' : Known) (due due' : Due) (before rest : List (ℕ × Lexeme)) (place : ℕ) (cause : ChainCause)
    → Leads p s due before s' due' → StopsAt p s' due' end rest place cause → read p s due end (before ++ rest) ≡ Err (place, cause)
refusal_read p end s s' due due' before rest place cause h k = led p end s s' due due' before rest h ∙ stopped p end s' due' rest place cause k

-- what is read as refused is so by the relation

pub record Broken (p end : ℕ) (s : Known) (due : Due) (ts : List (ℕ × Lexeme)) (place : ℕ) (cause : ChainCause) : Type 0 where
  pub before : List (ℕ × Lexeme)
  pub rest : List (ℕ × Lexeme)
  pub known : Known
  pub due' : Due
  pub split : ts ≡ before ++ rest
  pub leads : Leads p s due before known due'
  pub stops_at : StopsAt p known due' end rest place cause

broken_on : (p end : ℕ) (s s' : Known) (due due' : Due) (t : ℕ × Lexeme) (ts : List (ℕ × Lexeme)) (place : ℕ) (cause : ChainCause)
    → step p s due t.0 t.1 ≡ goes s' due' → Broken p end s' due' ts place cause → Broken p end s due (t ∷ ts) place cause
broken_on p end s s' due due' t ts place cause e b = record {
  before = t ∷ b.before;
  rest = b.rest;
  known = b.known;
  due' = b.due';
  split = ap (λ l. t ∷ l) b.split;
  leads = (s', due', e, b.leads);
  stops_at = b.stops_at;
}

abbrev refused : ℕ × ChainCause → Outcome
refused e = Err e

same_refusal : (e f : ℕ × ChainCause) → refused e ≡ refused f → (e.0 ≡ f.0) × (e.1 ≡ f.1)
same_refusal e f h = (cc, cc)

broken_end : (p end : ℕ) (s : Known) (due : Due) (place : ℕ) (cause : ChainCause) → is_whole s due ≡ false → refused (end, Unclosed) ≡ refused (place, cause) → Broken p end s due [] place cause
broken_end p end s due place cause w e = record {
  before = [];
  rest = [];
  known = s;
  due' = due;
  split = refl;
  leads = (refl, refl);
  stops_at = (w, sym (same_refusal (end, Unclosed) (place, cause) e).0, sym (same_refusal (end, Unclosed) (place, cause) e).1);
}

ok_is_no_err : (content : Content) (e : ℕ × ChainCause) → Ok content ≡ Err e → ⊥
ok_is_no_err content e h = cc

mutual_step : (p end : ℕ) (s : Known) (due : Due) (t : ℕ × Lexeme) (ts : List (ℕ × Lexeme)) (place : ℕ) (cause : ChainCause)
    → ((s' : Known) (due' : Due) → read p s' due' end ts ≡ Err (place, cause) → Broken p end s' due' ts place cause)
    → (x : Step) → step p s due t.0 t.1 ≡ x → read p s due end (t ∷ ts) ≡ Err (place, cause) → Broken p end s due (t ∷ ts) place cause
mutual_step p end s due t ts place cause more (goes s' due') e r =
    broken_on p end s s' due due' t ts place cause e (more s' due' (sym (read_goes p end s s' due due' t ts e) ∙ r))
mutual_step p end s due t ts place cause more (stops place' cause') e r =
    let same : refused (place', cause') ≡ refused (place, cause) = sym (read_stops p end s due t ts place' cause' e) ∙ r in
    record {
      before = [];
      rest = t ∷ ts;
      known = s;
      due' = due;
      split = refl;
      leads = (refl, refl);
      stops_at = e ∙ ap (λ n. stops n cause') (same_refusal (place', cause') (place, cause) same).0 ∙ ap (stops place) (same_refusal (place', cause') (place, cause) same).1;
    }

pub refused_read : (p end : ℕ) (s : Known) (due : Due) (ts : List (ℕ × Lexeme)) (place : ℕ) (cause : ChainCause)
    → read p s due end ts ≡ Err (place, cause) → Broken p end s due ts place cause
refused_read p end s due [] place cause r = on_test (is_whole s due)
    (λ w. absurd (ok_is_no_err s.content (place, cause) (sym (read_end p end s due w) ∙ r)))
    (λ w. broken_end p end s due place cause w (sym (read_unclosed p end s due w) ∙ r))
refused_read p end s due (t ∷ ts) place cause r =
    mutual_step p end s due t ts place cause (λ s' due' h. refused_read p end s' due' ts place cause h) (step p s due t.0 t.1) refl r
