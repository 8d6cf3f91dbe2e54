-- Laws of selections: each is the contract of a function of the crate with an empty body.
use Rattle.std.specs.Prelude.{◌≡◌, ℕ, ◌≤◌, List}
use Rattle.elem_cubes.specs.Cells.{Factor}
use Rattle.chains.specs.Terms.{coefficient, IsNormal}
use Rattle.cube_sets.specs.Closures.{cells_of}
use Rattle.cell_complex.specs.Numbering.{by_cell}
use Rattle.acyclic_values.specs.CarriedMaps.{image}
use Rattle.chain_selector.specs.Selections.{Selection, IsSelection, IsOfOneMap, AreKept, kept_image}

-- the kept images are those of one carried map
abbrev pub SelectionsAreOfOneMap : Type 0
SelectionsAreOfOneMap = (p : ℕ) (s : Selection) → 1 ≤ p → IsSelection p s → IsOfOneMap p s

-- and so what the sum of the kept images is for a chain is its image under that map
abbrev pub SumsAreOfOneMap : Type 0
SumsAreOfOneMap =
    (p : ℕ) (s : Selection) (m : IsOfOneMap p s) (c : List (ℕ × ℕ)) (r : List Factor)
    → IsSelection p s → IsNormal p c → AreKept s c
    → image (cells_of s.carrying.domain) m.map
    (by_cell (cells_of s.carrying.domain) (coefficient c)) r
    ≡ image (cells_of s.carrying.domain) (kept_image s)
    (by_cell (cells_of s.carrying.domain) (coefficient c)) r
