-- Images of numbered chains under a carried map, and their products with cochains.
use Rattle.std.specs.Prelude.{◌≡◌, ℕ, ◌+◌, ◌*◌, ◌%◌, ◌<◌, ◌≤◌, List, [], length}
use Rattle.std.specs.Prelude.{slice_index, slice_index_or}
use Rattle.field_mod.specs.Modular.{Same}
use Rattle.elem_cubes.specs.Cells.{Factor}
use Rattle.elem_cubes.specs.Laws.{cell_at}
use Rattle.chains.specs.Terms.{coefficient, product, IsNormal}
use Rattle.cube_sets.specs.Closures.{cells_of}
use Rattle.cell_complex.specs.Numbering.{by_cell}
use Rattle.acyclic_values.specs.CarriedMaps.{image, IsCarriedMap}
use Rattle.map_checks.specs.Carriers.{Carrying}

-- the chain ts is the image of the chain cs under some carried map, restricted to the cells of the
-- second list; both are chains of numbers, cs of those of the first list
pub record IsRestrictedImage (p : ℕ) (c : Carrying) (domain_cells range_cells : List (List Factor))
    (cs ts : List (ℕ × ℕ)) : Type 0 where
  pub map : List Factor → List Factor → ℕ
  pub carried : IsCarriedMap p c.map c.domain c.range map
  pub normal : IsNormal p ts
  pub within : (g : ℕ) → length range_cells ≤ g → coefficient ts g ≡ 0
  pub value : (g : ℕ) → g < length range_cells
      → Same p (coefficient ts g) (image (cells_of c.domain) map
      (by_cell domain_cells (coefficient cs)) (cell_at range_cells g))

-- behind the old numbers stand the products of the cochain with the first n of the chains
pub record AddsProducts (p : ℕ) (cochain : List (ℕ × ℕ)) (chains : List (List (ℕ × ℕ))) (n : ℕ)
    (old new : List ℕ) : Type 0 where
  pub count : length new ≡ length old + n
  pub kept : (k : ℕ) → k < length old → slice_index new k ≡ slice_index old k
  pub products : (j : ℕ) → j < n
      → slice_index new (length old + j) ≡ product cochain (slice_index_or chains j []) % p

-- the numbers are the products of the first n cochains with all chains, by cochains
pub record AreProducts (p : ℕ) (cochains chains : List (List (ℕ × ℕ))) (n : ℕ)
    (entries : List ℕ) : Type 0 where
  pub count : length entries ≡ n * length chains
  pub products : (i j : ℕ) → i < n → j < length chains
      → slice_index entries (i * length chains + j)
      ≡ product (slice_index_or cochains i []) (slice_index_or chains j []) % p
