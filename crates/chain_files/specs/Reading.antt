-- The reading of a chain file as a function of its tokens, by which the parts of the reader are
-- told.
use Rattle.std.specs.Prelude.{ℕ, List, [], ◌∷◌, if◌then◌else◌, Result, Ok, Err}
use Rattle.outside.specs.Tokens.{Lexeme}
use Rattle.chain_files.specs.Content.{Content}
use Rattle.chain_files.specs.Known.{Known}
use Rattle.chain_files.specs.Steps.{Step, goes, stops, step, is_whole}
use Rattle.chain_files.specs.declared.due.Due.{Due}
use Rattle.chain_files.specs.declared.fault.ChainCause.{ChainCause}
use Rattle.chain_files.specs.declared.fault.ChainCause.TheVariants.{Unclosed}

abbrev pub next : {R : Type 0} → Step → (Known → Due → R) → (ℕ → ChainCause → R) → R
next (goes s due) f g = f s due
next (stops place cause) f g = g place cause

abbrev pub Outcome : Type 0
Outcome = Result Content (ℕ × ChainCause)

abbrev pub read : ℕ → Known → Due → ℕ → List (ℕ × Lexeme) → Outcome
read p s due end [] = if is_whole s due then Ok s.content else Err (end, Unclosed)
read p s due end (t ∷ ts) = next (step p s due t.0 t.1) (λ s' due'. read p s' due' end ts)
    (λ place cause. Err (place, cause))
