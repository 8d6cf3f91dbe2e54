-- The loop over the tokens of a text: what is left of the reading is that of the whole text.
use Rattle.std.proofs.Common.{◌≡◌, ◌≢◌, IfOk, IfErr, ◌<◌, ℕ, List, [], ◌∷◌, length, true, false, Option, None, Some, Result, Ok, Err, refl, sym, ap, ◌∙◌, arith}
use Rattle.outside.specs.Tokens.{Lexeme, number, wide, arrow, word, mark, other}
use Rattle.outside.specs.Lexing.{said, listed}
use Rattle.outside.specs.declared.lexer.Token.{Token}
use Rattle.outside.specs.declared.lexer.Token.TheVariants as tokens
use Rattle.chain_files.specs.Known.{Known}
use Rattle.chain_files.specs.Steps.{goes, stops, step, is_whole}
use Rattle.chain_files.specs.ChainFile.{HasValue, IsRefusedAt}
use Rattle.chain_files.specs.Reading.{read}
use Rattle.chain_files.specs.Faults.{IsFaultOf}
use Rattle.chain_files.specs.Readers.{Takes, Ends, fault_of}
use Rattle.chain_files.specs.declared.due.Due.{Due}
use Rattle.chain_files.specs.declared.fault.ChainCause.{ChainCause}
use Rattle.chain_files.specs.declared.fault.ChainCause.TheVariants.{Unclosed}
use Rattle.chain_files.specs.declared.fault.ChainFault.{ChainFault}
use Rattle.chain_files.specs.declared.fault.ChainFault.TheVariants as faults
use Rattle.chain_files.specs.declared.gathered.Refusal.{Refusal}
use Rattle.chain_files.specs.declared.gathered.Refusal.TheVariants.{At, NoMemory}
use Rattle.chain_files.proofs.Refusing.{read_goes, read_stops, read_end, read_unclosed}
use Rattle.chain_files.proofs.Outcomes.{reading, read_value, read_refusal}

pub record IsReading (p : ℕ) (text : List ℕ) (s : Known) (due : Due) (ts : List (ℕ × Lexeme)) : Type 0 where
  pub left : read p s due (length text) ts ≡ reading p text

-- the token at the front, if there is one, in front of those that are left
module _ (p : ℕ) (text : List ℕ) (s : Known) (due : Due) (ts : List (ℕ × Lexeme)) (r : IsReading p text s due ts) (place : ℕ) (o : Option Lexeme) (more : List (ℕ × Lexeme)) (e : ts ≡ listed place o more) where
  front : (t : Lexeme) → o ≡ Some t → ts ≡ (place, t) ∷ more
  front t h = e ∙ ap (λ o. listed place o more) h

  pub read_on : (t : Lexeme) → o ≡ Some t → (s' : Known) (due' : Due) → step p s due place t ≡ goes s' due' → IsReading p text s' due' more
  read_on t h s' due' k = record {
    left = sym (read_goes p (length text) s s' due due' (place, t) more k) ∙ ap (read p s due (length text)) (sym (front t h)) ∙ r.left;
  }

  pub fewer : (t : Lexeme) → o ≡ Some t → length more < length ts
  fewer t h = rw (front t h) (omega arith)

  pub read_refused : (t : Lexeme) → o ≡ Some t → (at : ℕ) (cause : ChainCause) → step p s due place t ≡ stops at cause → IsRefusedAt p text at cause
  read_refused t h at cause k = read_refusal p text at cause
      (sym r.left ∙ ap (read p s due (length text)) (front t h) ∙ read_stops p (length text) s due (place, t) more at cause k)

  at_end : o ≡ None → ts ≡ []
  at_end h = e ∙ ap (λ o. listed place o more) h

  pub read_whole : o ≡ None → is_whole s due ≡ true → HasValue p text s.content
  read_whole h w = read_value p text s.content
      (sym r.left ∙ ap (read p s due (length text)) (at_end h) ∙ read_end p (length text) s due w)

  pub read_open : o ≡ None → is_whole s due ≡ false → IsRefusedAt p text (length text) Unclosed
  read_open h w = read_refusal p text (length text) Unclosed
      (sym r.left ∙ ap (read p s due (length text)) (at_end h) ∙ read_unclosed p (length text) s due w)

  pub ended_value : o ≡ None → (x : Result Known ChainFault) → Ends s due (length text) x → IfOk x (λ known. HasValue p text known.content)
  ended_value h (Ok known) k = rw k.1 (read_whole h k.0)
  ended_value h (Err fault) k = tt

  pub ended_refusal : o ≡ None → (x : Result Known ChainFault) → Ends s due (length text) x → IfErr x (IsFaultOf p text)
  ended_refusal h (Ok known) k = tt
  ended_refusal h (Err (faults.At at cause)) k = rw (k.1, k.2) (read_open h k.0)
  ended_refusal h (Err (faults.NotComplex degree generator at value)) k = absurd k
  ended_refusal h (Err faults.NoMemory) k = absurd k

  pub taken_refusal : (t : Lexeme) → o ≡ Some t → (s' : Known) (due' : Due) (x : Refusal) → Takes (step p s due place t) s' due' (Err x) → IsFaultOf p text (fault_of x)
  taken_refusal t h s' due' (At at cause) k = read_refused t h at cause k
  taken_refusal t h s' due' NoMemory k = tt

-- what is not the end of the text is a token
pub not_at_end : (token : Token) → (token ≢ tokens.End) → (t : Lexeme) × (said token ≡ Some t)
not_at_end (tokens.Number z) n = (number z, refl)
not_at_end tokens.Wide n = (wide, refl)
not_at_end tokens.Arrow n = (arrow, refl)
not_at_end (tokens.Word w) n = (word w.now, refl)
not_at_end (tokens.Mark b) n = (mark b, refl)
not_at_end (tokens.Other b) n = (other b, refl)
not_at_end tokens.End n = absurd (n refl)
