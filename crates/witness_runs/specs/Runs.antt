-- Runs of lines that are due: a chain for each number.
use Rattle.std.specs.Prelude.{◌≡◌, ℕ, ◌<◌, List, [], ◌∷◌}
use Rattle.std.specs.Prelude.{◌++◌, length, slice_index, Option, Some, None}
use Rattle.witness_laws.specs.declared.law.Law.{Law}
use Rattle.witness_laws.specs.declared.law.Law.TheVariants as laws
use Rattle.witness_laws.specs.Lines.{chain_line}
use Rattle.witness_laws.specs.Parts.{AreTerms, nth}
use Rattle.witness_runs.specs.declared.miss.Miss.{Miss}
use Rattle.witness_runs.specs.declared.miss.Miss.TheVariants as misses
use Rattle.witness_runs.specs.declared.miss.Stop.{Stop}
use Rattle.witness_runs.specs.declared.miss.Stop.TheVariants as stops
use Rattle.witness_runs.specs.Kinds.{NamesKind}
use Rattle.witness_runs.specs.Due.{MissesChain}

-- the numbers of a line: one, or one behind a first that all lines of the run have
abbrev pub head_of : Option ℕ → ℕ → List ℕ
head_of None n = n ∷ []
head_of (Some i) n = i ∷ n ∷ []

-- the lines of a run, as one text: a chain for each number, as far as there are chains
abbrev pub run_text : List ℕ → Option ℕ → List ℕ → List (List (ℕ × ℕ)) → List ℕ
run_text word first [] cs = []
run_text word first (n ∷ ns) [] = []
run_text word first (n ∷ ns) (c ∷ cs) = chain_line word (head_of first n) c
    ++ run_text word first ns cs

-- so many lines of the run stand at the front
pub record HasRun (p : ℕ) (word : List ℕ) (first : Option ℕ) (numbers : List ℕ) (count : ℕ)
    (bytes : List ℕ) (chains : List (List (ℕ × ℕ))) (rest : List ℕ) : Type 0 where
  pub many : length chains ≡ count
  pub are : (i : ℕ) → i < count → AreTerms p 0 (nth chains i)
  pub split : bytes ≡ run_text word first numbers chains ++ rest

-- the first lines name cells of their kinds
abbrev pub NameKinds : List ℕ → List ℕ → List (List (ℕ × ℕ)) → ℕ → Type 0
NameKinds kinds wanted chains count = (i : ℕ) → i < count
    → NamesKind kinds (slice_index wanted i) (nth chains i)

-- the run stops where so many bytes are left: the lines before stand at the front and name cells of
-- their kinds, and here stands none that is due, or one that names other cells
pub record StopsAt (p : ℕ) (word : List ℕ) (first : Option ℕ) (numbers kinds wanted : List ℕ)
    (bytes : List ℕ) (left : ℕ) (miss : Miss) : Type 0 where
  pub line : ℕ
  pub within : line < length numbers
  pub chains : List (List (ℕ × ℕ))
  pub rest : List ℕ
  pub run : HasRun p word first numbers line bytes chains rest
  pub names : NameKinds kinds wanted chains line
  pub left_is : left ≡ length rest
  pub here : MissesChain p word (head_of first (slice_index numbers line)) kinds
      (slice_index wanted line) rest miss

abbrev pub StopsWith : ℕ → List ℕ → Option ℕ → List ℕ → List ℕ → List ℕ → List ℕ → ℕ → Law → Type 0
StopsWith p word first numbers kinds wanted bytes left laws.Text =
    StopsAt p word first numbers kinds wanted bytes left misses.Text
StopsWith p word first numbers kinds wanted bytes left laws.Cell =
    StopsAt p word first numbers kinds wanted bytes left misses.Cell
StopsWith p word first numbers kinds wanted bytes left law = ⊥

abbrev pub StopsRun : ℕ → List ℕ → Option ℕ → List ℕ → List ℕ → List ℕ → List ℕ → Stop → Type 0
StopsRun p word first numbers kinds wanted bytes (stops.At left law) =
    StopsWith p word first numbers kinds wanted bytes left law
StopsRun p word first numbers kinds wanted bytes stops.NoMemory = Unit {0}
