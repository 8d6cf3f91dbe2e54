-- The chains of a value, read over the places of its cells.
use Rattle.std.specs.Prelude.{◌≡◌, ℕ, ◌+◌, ◌<◌, List, [], ◌∷◌, length, slice_index, slice_index_or, if◌then◌else◌, ◌==◌}
use Rattle.field_mod.specs.Modular.{Same}
use Rattle.chains.specs.Terms.{nth_chain}
use Rattle.chains.specs.ChainComplex.{ChainComplex, boundary, incidence}
use Rattle.cell_complex.specs.Numbering.{IsComplexOf}
use Rattle.algebraic_reduction.specs.Reduction.{single}
use Rattle.witness_laws.specs.declared.law.WitnessFault.{WitnessFault}
use Rattle.witness_laws.specs.Lines.{Line, filling, each}
use Rattle.witness_laws.specs.Inputs.{Given}
use Rattle.witness_laws.specs.Parts.{value_at, range_cells, vertex_of}
use Rattle.witness_laws.specs.Tables.{MapTables, Tables, map_of, holds}
use Rattle.witness_sections.specs.Outcomes.{ArePassed, IsFaultAmong}
use Rattle.witness_sections.specs.Readings.{AreRead}

-- the complex, the chains and the vertex are those of the value at the i-th cell of the domain
pub record IsValueOf (p : ℕ) (K : ChainComplex) (hs : List (List (ℕ × ℕ))) (v : ℕ) (G : Given)
    (M : MapTables) (i : ℕ) : Type 0 where
  pub complex : IsComplexOf p (value_at G i) K
  pub chains : AreRead p (range_cells G) (value_at G i) (slice_index_or M.fillings i []) hs
  pub count : length (slice_index_or M.fillings i []) ≡ length (value_at G i)
  pub vertex : v ≡ vertex_of G M.vertices i
  pub inside : v < length (value_at G i)

-- the vertex where the m-th cell is a vertex, else nothing
abbrev pub base : List ℕ → ℕ → ℕ → ℕ → ℕ
base degrees v m g = if slice_index degrees m == 0 then single v g else 0

-- at the m-th cell that, the boundary of its chain and the chain of its boundary are m
abbrev pub FillsBy : ℕ → ChainComplex → List (List (ℕ × ℕ)) → ℕ → ℕ → Type 0
FillsBy p K hs v m =
    (g : ℕ) → Same p
    (base K.degrees v m g
    + (boundary K.boundaries (nth_chain hs m) g
    + boundary hs (incidence K.boundaries m) g)) (single m g)

-- the lines of the chains of the i-th value
abbrev pub fillings_in : ℕ → MapTables → List Line
fillings_in i M = each (length (slice_index_or M.fillings i [])) (λ m. filling i m ∷ [])

-- what is told of them, whatever witness has the value
abbrev pub FillingsPassed : ℕ → ChainComplex → List (List (ℕ × ℕ)) → ℕ → ℕ → ℕ → Type 0
FillingsPassed p K hs v from behind =
    (G : Given) (W : Tables) (i : ℕ) → IsValueOf p K hs v G (map_of W) i
    → ArePassed (holds p G W) (fillings_in i (map_of W)) from behind

abbrev pub IsFillingFault : ℕ → ChainComplex → List (List (ℕ × ℕ)) → ℕ → ℕ → WitnessFault → Type 0
IsFillingFault p K hs v from fault =
    (G : Given) (W : Tables) (i : ℕ) → IsValueOf p K hs v G (map_of W) i
    → IsFaultAmong (holds p G W) (fillings_in i (map_of W)) from fault
