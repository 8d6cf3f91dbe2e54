-- A chain file by its parts, as a reader sees them: the header, the degrees in their order, in each
-- the boundaries, and in each of these its terms.
use Rattle.std.specs.Prelude.{◌≡◌, ◌≤◌, ◌<◌, ◌↔◌, ℕ, ◌+◌, ◌-◌, ℤ, pos, List, [], ◌∷◌, ◌++◌, length, map, replicate, slice_index_or, Bool, true, false, ◌||◌, ◌==◌, nat_lt, if◌then◌else◌}
use Rattle.outside.specs.Tokens.{Lexeme, number, word, mark, tokens}
use Rattle.chain_files.specs.Content.{Boundary, not_given, Content}
use Rattle.chain_files.specs.Known.{residue}
use Rattle.chain_files.specs.Numbers.{greatest_degree, most_generators, most_terms, dimension_word}
use Rattle.chain_files.specs.Items.{heading}
use Rattle.chain_files.specs.ChainFile.{said, HasValue}

-- `c * g'`: a coefficient, and a generator of the degree below.
pub record Term : Type 0 where
  pub coefficient : ℤ
  pub target : ℕ

-- `# g =`, and the terms joined by `+`, or 0 where there is none.
pub record Line : Type 0 where
  pub generator : ℕ
  pub terms : List Term

-- `dimension k :`, how many generators the degree has, and their boundaries.
pub record Part : Type 0 where
  pub count : ℕ
  pub lines : List Line

-- The tokens of each, and then the rest.
abbrev pub further_terms : List Term → List Lexeme → List Lexeme
further_terms [] rest = rest
further_terms (t ∷ ts) rest =
    mark 43 ∷ number t.coefficient ∷ mark 42 ∷ number (pos t.target) ∷ further_terms ts rest

abbrev pub sum_of : List Term → List Lexeme → List Lexeme
sum_of [] rest = number (pos 0) ∷ rest
sum_of (t ∷ ts) rest =
    number t.coefficient ∷ mark 42 ∷ number (pos t.target) ∷ further_terms ts rest

abbrev pub line_tokens : List Line → List Lexeme → List Lexeme
line_tokens [] rest = rest
line_tokens (l ∷ ls) rest =
    mark 35 ∷ number (pos l.generator) ∷ mark 61 ∷ sum_of l.terms (line_tokens ls rest)

-- The degrees from k on.
abbrev pub part_tokens : ℕ → List Part → List Lexeme
part_tokens k [] = []
part_tokens k (d ∷ ds) = word dimension_word ∷ number (pos k) ∷ mark 58 ∷ number (pos d.count)
    ∷ line_tokens d.lines (part_tokens (k + 1) ds)

-- One of n generators, which are numbered from 1.
abbrev pub IsNumber : ℕ → ℕ → Type 0
IsNumber n g = (1 ≤ g) × (g ≤ n)

-- Terms name generators of the degree below, which has so many.
abbrev pub AreTerms : ℕ → List Term → Type 0
AreTerms below [] = Unit {0}
AreTerms below (t ∷ ts) = IsNumber below t.target × AreTerms below ts

-- Boundaries of a degree with n generators: each of one whose boundary did not stand before;
-- `named` says of which it did.
abbrev pub AreLines : ℕ → ℕ → (ℕ → Bool) → List Line → Type 0
AreLines below n named [] = Unit {0}
AreLines below n named (l ∷ ls) = IsNumber n l.generator × (named l.generator ≡ false)
    × AreTerms below l.terms × AreLines below n (λ g. g == l.generator || named g) ls

-- Degrees, above one with so many generators.
abbrev pub AreParts : ℕ → List Part → Type 0
AreParts below [] = Unit {0}
AreParts below (d ∷ ds) = AreLines below d.count (λ _. false) d.lines × AreParts d.count ds

-- How many generators there are, and how many terms.
abbrev pub generators_in : List Part → ℕ
generators_in [] = 0
generators_in (d ∷ ds) = d.count + generators_in ds

abbrev pub line_terms : List Line → ℕ
line_terms [] = 0
line_terms (l ∷ ls) = length l.terms + line_terms ls

abbrev pub terms_in : List Part → ℕ
terms_in [] = 0
terms_in (d ∷ ds) = line_terms d.lines + terms_in ds

-- The terms modulo p, where the first generator of the degree below has this number in all.
abbrev pub said_terms : ℕ → ℕ → List Term → List (ℕ × ℕ)
said_terms p first ts = map (λ t. (first + (t.target - 1), residue p t.coefficient)) ts

-- The boundary of a generator of a degree: that of the line that names it.
abbrev pub boundary_of : ℕ → ℕ → List Line → ℕ → Boundary
boundary_of p first [] g = not_given
boundary_of p first (l ∷ ls) g =
    if g == l.generator then record { given = true; terms = said_terms p first l.terms }
    else boundary_of p first ls g

-- The boundary of generator i, where those of the first of these degrees are numbered from `here`
-- on, and those of the degree below from `below` on.
abbrev pub boundary_by : ℕ → ℕ → ℕ → List Part → ℕ → Boundary
boundary_by p below here [] i = not_given
boundary_by p below here (d ∷ ds) i =
    if nat_lt i (here + d.count) then boundary_of p below d.lines (i - here + 1)
    else boundary_by p here (here + d.count) ds i

-- The degree of each generator.
abbrev pub degrees_by : ℕ → List Part → List ℕ
degrees_by k [] = []
degrees_by k (d ∷ ds) = replicate d.count k ++ degrees_by (k + 1) ds

-- What the degrees say.
pub record Says (p top : ℕ) (degrees : List Part) (content : Content) : Type 0 where
  pub top_is : content.top ≡ top
  pub degrees_are : content.degrees ≡ degrees_by 0 degrees
  pub long : length content.boundaries ≡ generators_in degrees
  pub boundaries_are : (i : ℕ) → i < generators_in degrees
      → slice_index_or content.boundaries i not_given ≡ boundary_by p 0 0 degrees i

-- The text is a header, and each degree up to the greatest, with at most so many generators and
-- terms; and they say this.
pub record HasParts (p : ℕ) (text : List ℕ) (content : Content) : Type 0 where
  pub top : ℕ
  pub degrees : List Part
  pub spelling : said (tokens text) ≡ heading (pos top) (part_tokens 0 degrees)
  pub low : top ≤ greatest_degree
  pub whole : length degrees ≡ top + 1
  pub fit : AreParts 0 degrees
  pub few : generators_in degrees ≤ most_generators
  pub few_terms : terms_in degrees ≤ most_terms
  pub says : Says p top degrees content

-- The value of a text is what its parts say.
abbrev pub ValuesAreByParts : Type 0
ValuesAreByParts = (p : ℕ) (text : List ℕ) (content : Content)
    → (HasValue p text content ↔ HasParts p text content)
