-- The right image of one more cell, where those of its faces are kept.
use Rattle.std.specs.Prelude.{◌≡◌, ℕ, ◌<◌, ◌≤◌, List, length, true}
use Rattle.field_mod.specs.Modular.{Same}
use Rattle.elem_cubes.specs.Cells.{Factor, dimension_of}
use Rattle.elem_cubes.specs.Faces.{IsFace}
use Rattle.elem_cubes.specs.Boundary.{boundary_at, boundary_coefficient}
use Rattle.chains.specs.Terms.{coefficient}
use Rattle.chains.specs.Homology.{IsChain}
use Rattle.cell_complex.specs.Acyclic.{sum_over}
use Rattle.cell_complex.specs.RelativeComplex.{complex_on}
use Rattle.cell_complex.specs.Numbering.{by_cell}
use Rattle.acyclic_values.specs.Values.{in_value, IsValueAt}
use Rattle.acyclic_values.specs.CarriedMaps.{image}
use Rattle.chain_selector.specs.Selections.{Selection, domain_cells, range_cells, is_kept, kept_image}

-- the list V is the value at the cell q
abbrev pub IsValueOf : Selection → List Factor → List (List Factor) → Type 0
IsValueOf s q V = IsValueAt s.carrying.map s.carrying.domain q V

-- the faces of q of lower dimension than k have kept images
abbrev pub HasKeptFaces : Selection → List Factor → ℕ → Type 0
HasKeptFaces s q k = (r : List Factor) → IsFace q r → dimension_of r < k → is_kept s r ≡ true

-- the chain ts of numbers of cells of the range is a right image of q, beside the kept ones
pub record IsRightImage (p : ℕ) (s : Selection) (q : List Factor) (ts : List (ℕ × ℕ)) : Type 0 where
  pub within : (g : ℕ) → length (range_cells s) ≤ g → coefficient ts g ≡ 0
  pub chain : IsChain p (complex_on p (in_value s.carrying.map s.carrying.domain q))
      (dimension_of q) (by_cell (range_cells s) (coefficient ts))
  pub commutes : (r : List Factor)
      → Same p (boundary_at p r (by_cell (range_cells s) (coefficient ts)))
      (image (domain_cells s) (kept_image s) (boundary_coefficient p q) r)
  pub augmentation : dimension_of q ≡ 0
      → Same p (sum_over (range_cells s) (by_cell (range_cells s) (coefficient ts))) 1
