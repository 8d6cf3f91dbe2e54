-- The matrix of an inclusion in one degree, and its inverse.
use Rattle.std.specs.Prelude.{◌≡◌, ℕ, ◌*◌, ◌<◌, List, length}
use Rattle.field_mod.specs.Sums.{total}
use Rattle.field_mod.specs.Modular.{Same}
use Rattle.elem_cubes.specs.Cells.{Factor}
use Rattle.elem_cubes.specs.Laws.{cell_at}
use Rattle.chains.specs.Terms.{nth_chain}
use Rattle.homology_basis.specs.Bases.{BasisOfLog, CyclesOfLog, in_degree}
use Rattle.leray_conley.specs.Tables.{Table, entry}
use Rattle.leray_conley.specs.Inverses.{IsInverse}
use Rattle.induced_map.specs.Pairs.{nth_by_cell}

-- the entries are the products of the cycles of the first basis with the cocycles of the second
abbrev pub AreProductsOf : ℕ → List (List Factor) → CyclesOfLog → List (List Factor) → BasisOfLog
    → ℕ → (ℕ → ℕ → ℕ) → Type 0
AreProductsOf p domain_cells A range_cells B k entry =
    (i j : ℕ) → i < length (in_degree B.cycles k) → j < length (in_degree A.cycles k)
    → Same p (entry i j) (total (length range_cells) (λ g. nth_chain (in_degree B.cocycles k) i g
    * nth_by_cell domain_cells (in_degree A.cycles k) j (cell_at range_cells g)))

-- .. as a matrix
pub record AreInclusionProducts (p : ℕ) (domain_cells : List (List Factor)) (A : CyclesOfLog)
    (range_cells : List (List Factor)) (B : BasisOfLog) (k : ℕ) (m : Table) : Type 0 where
  pub rows : m.rows ≡ length (in_degree B.cycles k)
  pub columns : m.columns ≡ length (in_degree A.cycles k)
  pub products : AreProductsOf p domain_cells A range_cells B k (entry m)

-- the matrix m is an inverse of these, of which there are as many rows as columns
pub record IsInverseInclusion (p : ℕ) (domain_cells : List (List Factor)) (A : CyclesOfLog)
    (range_cells : List (List Factor)) (B : BasisOfLog) (k : ℕ) (m : Table) : Type 0 where
  pub forward : ℕ → ℕ → ℕ
  pub products : AreProductsOf p domain_cells A range_cells B k forward
  pub square : length (in_degree B.cycles k) ≡ length (in_degree A.cycles k)
  pub rows : m.rows ≡ length (in_degree A.cycles k)
  pub columns : m.columns ≡ length (in_degree A.cycles k)
  pub inverse : IsInverse p (length (in_degree A.cycles k)) forward (entry m)
