-- The law of induced matrices: the contract of a function of the crate with an empty body.
use Rattle.std.specs.Prelude.{ℕ, ◌*◌, ◌<◌, ◌≤◌, List, length}
use Rattle.field_mod.specs.Sums.{total}
use Rattle.field_mod.specs.Modular.{Same}
use Rattle.elem_cubes.specs.Cells.{Factor}
use Rattle.elem_cubes.specs.Laws.{cell_at}
use Rattle.chains.specs.Terms.{nth_chain}
use Rattle.cube_sets.specs.Closures.{cells_of}
use Rattle.cell_complex.specs.Numbering.{IsRelativeComplex}
use Rattle.homology_basis.specs.Bases.{BasisOfLog, CyclesOfLog, in_degree}
use Rattle.homology_basis.specs.Bases.{IsBasisByCycles, IsBasisWithContraction}
use Rattle.cube_maps.specs.CubeMaps.{Naming}
use Rattle.acyclic_values.specs.CarriedMaps.{image, IsCarriedMap, IsTogether, GoesInto}
use Rattle.acyclic_values.specs.CarriedMaps.{IsAcyclicMap, IsInducedMatrix}
use Rattle.induced_map.specs.Pairs.{nth_by_cell}

-- the products of the images under one carried map with the dual cocycles are the matrix for every
-- carried map
abbrev pub ProductsAreTheMatrix : Type 0
ProductsAreTheMatrix =
    (p : ℕ) (map : List Naming) (domain range x a y b domain_cells range_cells : List (List Factor))
    (A : CyclesOfLog) (B : BasisOfLog) (k : ℕ) (entry : ℕ → ℕ → ℕ)
    (f : List Factor → List Factor → ℕ)
    → 1 ≤ p → IsAcyclicMap p map domain range
    → IsTogether domain x a → IsTogether range y b → GoesInto map a b
    → IsRelativeComplex p x a domain_cells A.log.complex
    → IsRelativeComplex p y b range_cells B.log.complex
    → IsBasisByCycles p A → IsBasisWithContraction p B
    → IsCarriedMap p map domain range f
    → ((i j : ℕ) → i < length (in_degree B.cycles k) → j < length (in_degree A.cycles k)
    → Same p (entry i j) (total (length range_cells) (λ g. nth_chain (in_degree B.cocycles k) i g
    * image (cells_of domain) f (nth_by_cell domain_cells (in_degree A.cycles k) j)
    (cell_at range_cells g))))
    → IsInducedMatrix p map domain range y b k
    (length (in_degree A.cycles k)) (nth_by_cell domain_cells (in_degree A.cycles k))
    (length (in_degree B.cycles k)) (nth_by_cell range_cells (in_degree B.cycles k)) entry
