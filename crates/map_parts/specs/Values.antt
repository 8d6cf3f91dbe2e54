-- Contractions of values by the numbers of a witness file.
use Rattle.std.specs.Prelude.{◌≡◌, ℕ, ◌+◌, ◌<◌, List, [], length, slice_index, slice_index_or}
use Rattle.elem_cubes.specs.Cells.{Factor}
use Rattle.elem_cubes.specs.Laws.{cell_at}
use Rattle.cell_complex.specs.Numbering.{by_cell, number_of}
use Rattle.cube_sets.specs.Closures.{cells_of}
use Rattle.cube_maps.specs.CubeMaps.{Naming}
use Rattle.acyclic_values.specs.Contractions.{IsContraction}
use Rattle.map_checks.specs.Carriers.{IsCarrier}
use Rattle.witness_parts.specs.Filed.{AreFiled}
use Rattle.witness_writing.specs.Runs.{value_in}

-- the map goes from the one set into the other, with acyclic values
abbrev pub Carries : ℕ → List Naming → List (List Factor) → List (List Factor) → Type 0
Carries p f domain range = (d : ℕ)
    × IsCarrier p (record { dimension = d; map = f; domain = domain; range = range })

-- the vertex and the chains are a contraction of the value, by the numbers of all cells
pub record IsFiledContraction (p : ℕ) (all value : List (List Factor)) (vertex : ℕ)
    (gs : List (List (ℕ × ℕ))) : Type 0 where
  pub at : ℕ
  pub chains : ℕ → ℕ → ℕ
  pub contracts : IsContraction p value at chains
  pub named : vertex ≡ number_of all (cell_at value at) + 1
  pub filed : AreFiled p all (length value) (λ m. by_cell value (chains m)) gs

-- so they are for the values at the first n cells of the domain
pub record AreFiledContractions (p : ℕ) (f : List Naming) (domain range : List (List Factor))
    (n : ℕ) (vertices : List ℕ) (fillings : List (List (List (ℕ × ℕ)))) : Type 0 where
  pub vertex_count : length vertices ≡ n
  pub count : length fillings ≡ n
  pub at : (i : ℕ) → i < n → IsFiledContraction p (cells_of range) (value_in f domain range i)
      (slice_index vertices i) (slice_index_or fillings i [])
