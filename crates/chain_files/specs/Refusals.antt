-- What a refusal says of other texts.
use Rattle.std.specs.Prelude.{◌≡◌, ◌⊎◌, ℕ, List, ◌∷◌, ◌++◌, length}
use Rattle.outside.specs.Tokens.{Lexeme, tokens}
use Rattle.chain_files.specs.Content.{Content}
use Rattle.chain_files.specs.ChainFile.{said, HasValue, IsRefusedAt}
use Rattle.chain_files.specs.declared.fault.ChainCause.{ChainCause}
use Rattle.chain_files.specs.declared.fault.ChainCause.TheVariants.{Unclosed}

-- With the token that stops the reading no text goes on to one that has a value. Before it nothing
-- was amiss: a text that ends at an earlier token, or right before that one, has a value or lacks
-- tokens.
pub record RefusalsAreFirst : Type 0 where
  pub none_goes_on : (p : ℕ) (text other : List ℕ) (place : ℕ) (cause : ChainCause)
      (refusal : IsRefusedAt p text place cause) (t : ℕ × Lexeme) (ts : List (ℕ × Lexeme))
      (more : List Lexeme) (content : Content)
      → refusal.rest ≡ t ∷ ts → said (tokens other) ≡ said refusal.before ++ t.1 ∷ more
      → ¬ HasValue p other content
  pub front : (p : ℕ) (text other : List ℕ) (place : ℕ) (cause : ChainCause)
      (refusal : IsRefusedAt p text place cause) (more : List (ℕ × Lexeme))
      → refusal.before ≡ tokens other ++ more
      → ((content : Content) × HasValue p other content)
      ⊎ IsRefusedAt p other (length other) Unclosed
