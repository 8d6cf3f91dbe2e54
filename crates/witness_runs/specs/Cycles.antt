-- The lines of the cycles of a section: any number, with degrees that never fall.
use Rattle.std.specs.Prelude.{◌≡◌, ℕ, ◌+◌, ◌≤◌, List, [], ◌∷◌, ◌++◌, length, codes}
use Rattle.witness_laws.specs.declared.law.Law.{Law}
use Rattle.witness_laws.specs.declared.law.Law.TheVariants as laws
use Rattle.witness_laws.specs.Lines.{chain_line}
use Rattle.witness_laws.specs.Parts.{AreTerms}
use Rattle.witness_runs.specs.declared.miss.Miss.{Miss}
use Rattle.witness_runs.specs.declared.miss.Miss.TheVariants as misses
use Rattle.witness_runs.specs.declared.miss.Stop.{Stop}
use Rattle.witness_runs.specs.declared.miss.Stop.TheVariants as stops
use Rattle.witness_runs.specs.Kinds.{NamesKind}
use Rattle.witness_runs.specs.Due.{MissesCycle}

abbrev pub BeginsWithZ : List ℕ → Type 0
BeginsWithZ [] = ⊥
BeginsWithZ (c ∷ cs) = c ≡ 122

-- the lines of cycles, as one text
abbrev pub cycles_text : List (ℕ × List (ℕ × ℕ)) → List ℕ
cycles_text [] = []
cycles_text (z ∷ zs) = chain_line (codes "z") (z.0 ∷ []) z.1 ++ cycles_text zs

-- the degrees never fall, from low to high
abbrev pub AreCycles : ℕ → ℕ → ℕ → List (ℕ × List (ℕ × ℕ)) → Type 0
AreCycles p low high [] = low ≤ high
AreCycles p low high (z ∷ zs) = (low ≤ z.0) × AreTerms p 0 z.1 × AreCycles p z.0 high zs

-- each term of a cycle names a cell of the kind of its degree, which is one more
abbrev pub NameDegrees : List ℕ → List (ℕ × List (ℕ × ℕ)) → Type 0
NameDegrees kinds [] = Unit {0}
NameDegrees kinds (z ∷ zs) = NamesKind kinds (z.0 + 1) z.1 × NameDegrees kinds zs

-- the degree of the last cycle, or the one from which on they go
abbrev pub last_degree : ℕ → List (ℕ × List (ℕ × ℕ)) → ℕ
last_degree low [] = low
last_degree low (z ∷ zs) = last_degree z.0 zs

-- cycles at the front, with the degree from which on others may follow: that of the last
pub record HasCycles (p top : ℕ) (kinds bytes : List ℕ) (cycles : List (ℕ × List (ℕ × ℕ)))
    (low : ℕ) (rest : List ℕ) : Type 0 where
  pub last : low ≡ last_degree 0 cycles
  pub are : AreCycles p 0 low cycles
  pub below : low ≤ top
  pub split : bytes ≡ cycles_text cycles ++ rest
  pub names : NameDegrees kinds cycles

-- all cycles at the front: no line of a cycle stands behind them
pub record AreCyclesAt (p top : ℕ) (kinds bytes : List ℕ) (cycles : List (ℕ × List (ℕ × ℕ)))
    (rest : List ℕ) : Type 0 where
  pub low : ℕ
  pub has : HasCycles p top kinds bytes cycles low rest
  pub over : BeginsWithZ rest → ⊥

-- behind cycles, where so many bytes are left, stands a line that begins like one of a cycle and is
-- none that may stand there, or names other cells
pub record StopsAt (p top : ℕ) (kinds bytes : List ℕ) (left : ℕ) (miss : Miss) : Type 0 where
  pub low : ℕ
  pub cycles : List (ℕ × List (ℕ × ℕ))
  pub rest : List ℕ
  pub has : HasCycles p top kinds bytes cycles low rest
  pub begins : BeginsWithZ rest
  pub left_is : left ≡ length rest
  pub here : MissesCycle p low top kinds rest miss

abbrev pub StopsCyclesWith : ℕ → ℕ → List ℕ → List ℕ → ℕ → Law → Type 0
StopsCyclesWith p top kinds bytes left laws.Text = StopsAt p top kinds bytes left misses.Text
StopsCyclesWith p top kinds bytes left laws.Cell = StopsAt p top kinds bytes left misses.Cell
StopsCyclesWith p top kinds bytes left law = ⊥

abbrev pub StopsCycles : ℕ → ℕ → List ℕ → List ℕ → Stop → Type 0
StopsCycles p top kinds bytes (stops.At left law) = StopsCyclesWith p top kinds bytes left law
StopsCycles p top kinds bytes stops.NoMemory = Unit {0}
