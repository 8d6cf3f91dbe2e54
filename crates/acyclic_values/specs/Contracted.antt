-- What a contraction is seen as.
use Rattle.std.specs.Prelude.{◌≡◌, ◌≢◌, ◌⊎◌, ℕ, ◌<◌, ◌≤◌, List, length, slice_index, Option, Some, None}
use Rattle.field_mod.specs.Modular.{Same}
use Rattle.elem_cubes.specs.Cells.{Factor}
use Rattle.chains.specs.Terms.{coefficient, nth_chain}
use Rattle.cell_complex.specs.Numbering.{IsComplexOf}
use Rattle.chains.specs.ChainComplex.{ChainComplex}
use Rattle.algebraic_reduction.specs.Reduction.{single, Step, IsUnpaired}
use Rattle.algebraic_reduction.specs.Laws.{homotopy_of}
use Rattle.algebraic_reduction.specs.LogWords.{Reduced}
use Rattle.cell_complex.specs.Acyclic.{IsAcyclic}
use Rattle.acyclic_values.specs.Laws.{less_vertex}
use Rattle.acyclic_values.specs.Contractions.{IsContraction, LeaveVertex}

-- the complex of the cells with the steps on it, the vertex, and for each place the homotopy of its
-- cell
pub record Contracted : Type 0 where
  pub log : Reduced
  pub vertex : ℕ
  pub homotopies : List (List (ℕ × ℕ))

-- the homotopy of the cell at a place, by its coefficients
abbrev pub homotopy_in : Contracted → ℕ → ℕ → ℕ
homotopy_in c m = nth_chain c.homotopies m

-- the steps leave the vertex alone, and there is a chain for each place
pub record KeepsContraction (p : ℕ) (c : Contracted) : Type 0 where
  pub leave : LeaveVertex p c.log.complex c.log.steps c.vertex
  pub count : length c.homotopies ≡ length c.log.complex.boundaries

-- it is a contraction of the cells: its steps are on their complex and leave the vertex alone, its
-- chains contract to it, and the cells are acyclic
pub record IsContracted (p : ℕ) (cells : List (List Factor)) (c : Contracted) : Type 0 where
  pub complex : IsComplexOf p cells c.log.complex
  pub leave : LeaveVertex p c.log.complex c.log.steps c.vertex
  pub count : length c.homotopies ≡ length cells
  pub contracts : IsContraction p cells c.vertex (homotopy_in c)
  pub acyclic : IsAcyclic p cells

-- t is the generator below the bound, beside u, that the steps leave in the least degree; or there
-- is none
abbrev pub IsBestBelow : ChainComplex → List Step → ℕ → ℕ → Option ℕ → Type 0
IsBestBelow K steps u bound None = (g : ℕ) → g < bound → IsUnpaired steps g → g ≡ u
IsBestBelow K steps u bound (Some t) =
    (t < bound) × IsUnpaired steps t × (t ≢ u)
    × ((g : ℕ) → g < bound → IsUnpaired steps g → g ≢ u
    → slice_index K.degrees t ≤ slice_index K.degrees g)

-- r is the one of t and g of the lower degree; g where there is no t
abbrev pub IsLower : ChainComplex → Option ℕ → ℕ → ℕ → Type 0
IsLower K None g r = r ≡ g
IsLower K (Some t) g r =
    ((r ≡ t) × (slice_index K.degrees t ≤ slice_index K.degrees g))
    ⊎ ((r ≡ g) × (slice_index K.degrees g ≤ slice_index K.degrees t))

-- the chain is t, less the vertex u where t is a vertex
abbrev pub IsLess : ℕ → ChainComplex → ℕ → ℕ → List (ℕ × ℕ) → Type 0
IsLess p K u t ts = (g : ℕ) → Same p (coefficient ts g) (less_vertex p K u t g)

-- the chains are the homotopies of the first generators
pub record AreHomotopies (p : ℕ) (log : Reduced) (hs : List (List (ℕ × ℕ)))
    (count : ℕ) : Type 0 where
  pub count_is : length hs ≡ count
  pub each : (m g : ℕ) → m < count → Same p (nth_chain hs m g)
      (homotopy_of p log.complex log.steps (single m) g)
