-- The items of a chain file: how they are spelled, and what is known behind each.
use Rattle.std.specs.Prelude.{◌≡◌, ◌≤◌, ◌<◌, ℕ, ℤ, pos, List, [], ◌∷◌, Bool, true, false, Ok}
use Rattle.outside.specs.Tokens.{Lexeme, number, word, mark}
use Rattle.chain_files.specs.Known.{Known, residue, with_degree, with_boundary, with_count, with_term}
use Rattle.chain_files.specs.Numbers.{most_terms, chain_word, complex_word, max_word, dimension_word}

-- How a chain file begins: `chain complex max dimension N`.
abbrev pub heading : ℤ → List Lexeme → List Lexeme
heading top rest =
    word chain_word ∷ word complex_word ∷ word max_word ∷ word dimension_word ∷ number top ∷ rest

-- What follows: `dimension k : n`, `# g = 0`, `# g = c * g'`, and `+ c * g'`.
pub data Item : Type 0 where
  degree : ℤ → ℤ → Item
  zero_boundary : ℤ → Item
  boundary : ℤ → ℤ → ℤ → Item
  further_term : ℤ → ℤ → Item

-- The tokens of an item, and then the rest.
abbrev pub spelling : Item → List Lexeme → List Lexeme
spelling (degree k n) rest = word dimension_word ∷ number k ∷ mark 58 ∷ number n ∷ rest
spelling (zero_boundary g) rest = mark 35 ∷ number g ∷ mark 61 ∷ number (pos 0) ∷ rest
spelling (boundary g c t) rest = mark 35 ∷ number g ∷ mark 61 ∷ number c ∷ mark 42 ∷ number t ∷ rest
spelling (further_term c t) rest = mark 43 ∷ number c ∷ mark 42 ∷ number t ∷ rest

abbrev pub spelled : List Item → List Lexeme
spelled [] = []
spelled (item ∷ items) = spelling item (spelled items)

-- A further term may follow a term.
abbrev pub has_term : Item → Bool
has_term (degree k n) = false
has_term (zero_boundary g) = false
has_term (boundary g c t) = true
has_term (further_term c t) = true

-- The term `c * t` joins the boundary that came last, and is not one too many.
pub record Joins (p : ℕ) (before : Known) (c t : ℤ) (now : Known) : Type 0 where
  pub few : before.terms < most_terms
  pub joins : with_term (with_count before) (residue p c) t ≡ Ok now

-- The item may stand there, and makes the second of the first: degrees come in order and up to the
-- greatest, boundaries in a degree, and further terms behind a term.
abbrev pub Becomes : ℕ → Known → Bool → Item → Known → Type 0
Becomes p s behind_term (degree k n) now = (s.next ≤ s.content.top) × (k ≡ pos s.next)
    × (with_degree s s.next n ≡ Ok now)
Becomes p s behind_term (zero_boundary g) now = (0 < s.next) × (with_boundary s g ≡ Ok now)
Becomes p s behind_term (boundary g c t) now = (0 < s.next) × (begun : Known)
    × (with_boundary s g ≡ Ok begun) × Joins p begun c t now
Becomes p s behind_term (further_term c t) now = (behind_term ≡ true) × Joins p s c t now

-- The items may stand there one after the other.
abbrev pub Gathers : ℕ → Known → Bool → List Item → Known → Type 0
Gathers p s behind_term [] all = all ≡ s
Gathers p s behind_term (item ∷ items) all = (now : Known) × Becomes p s behind_term item now
    × Gathers p now (has_term item) items all
