-- Chain files: which texts have a value, and which are refused, at which place and with which
-- cause.
use Rattle.std.specs.Prelude.{◌≡◌, ℕ, ◌+◌, ℤ, List, [], ◌∷◌, ◌++◌, length, map, false, Ok}
use Rattle.outside.specs.Tokens.{Lexeme, tokens}
use Rattle.chain_files.specs.Content.{Content}
use Rattle.chain_files.specs.Known.{Known, nothing_known, with_top}
use Rattle.chain_files.specs.Items.{Item, heading, spelled, Gathers}
use Rattle.chain_files.specs.Steps.{goes, stops, step, is_whole}
use Rattle.chain_files.specs.declared.due.Due.{Due}
use Rattle.chain_files.specs.declared.due.Due.TheVariants.{Chain}
use Rattle.chain_files.specs.declared.fault.ChainCause.{ChainCause}
use Rattle.chain_files.specs.declared.fault.ChainCause.TheVariants.{Unclosed}

-- Tokens without their places.
abbrev pub said : List (ℕ × Lexeme) → List Lexeme
said ts = map (λ t. t.1) ts

-- The text has this value modulo p: it is spelled as a heading and items that may stand one after
-- the other, up to the greatest degree.
pub record HasValue (p : ℕ) (text : List ℕ) (content : Content) : Type 0 where
  pub top : ℤ
  pub items : List Item
  pub begun : Known
  pub all : Known
  pub spelling : said (tokens text) ≡ heading top (spelled items)
  pub begins : with_top nothing_known top ≡ Ok begun
  pub gathers : Gathers p begun false items all
  pub whole : all.next ≡ all.content.top + 1
  pub is_content : content ≡ all.content

-- The tokens lead from what is known and due before them to what is behind them.
abbrev pub Leads : ℕ → Known → Due → List (ℕ × Lexeme) → Known → Due → Type 0
Leads p s due [] s' due' = (s' ≡ s) × (due' ≡ due)
Leads p s due (t ∷ ts) s' due' = (mid : Known) × (next : Due)
    × (step p s due t.0 t.1 ≡ goes mid next) × Leads p mid next ts s' due'

-- There the next token stops the reading; or the text ends, where it may not.
abbrev pub StopsAt : ℕ → Known → Due → ℕ → List (ℕ × Lexeme) → ℕ → ChainCause → Type 0
StopsAt p s due end [] place cause = (is_whole s due ≡ false) × (place ≡ end) × (cause ≡ Unclosed)
StopsAt p s due end (t ∷ ts) place cause = step p s due t.0 t.1 ≡ stops place cause

-- The text is refused at this place with this cause: the tokens up to some token lead on, and that
-- one stops the reading.
pub record IsRefusedAt (p : ℕ) (text : List ℕ) (place : ℕ) (cause : ChainCause) : Type 0 where
  pub before : List (ℕ × Lexeme)
  pub rest : List (ℕ × Lexeme)
  pub known : Known
  pub due : Due
  pub split : tokens text ≡ before ++ rest
  pub leads : Leads p nothing_known Chain before known due
  pub stops : StopsAt p known due (length text) rest place cause
