-- Bases of two pairs, the first of which is included in the second, and the matrices asked of them.
use Rattle.std.specs.Prelude.{◌≡◌, ℕ, ◌<◌, ◌≤◌, List, [], length}
use Rattle.elem_cubes.specs.Cells.{Factor}
use Rattle.chains.specs.Homology.{combination}
use Rattle.cell_complex.specs.RelativeComplex.{relative_complex}
use Rattle.cell_complex.specs.Numbering.{IsRelativeComplex}
use Rattle.homology_basis.specs.Bases.{BasisOfLog, CyclesOfLog, in_degree}
use Rattle.leray_conley.specs.Tables.{Table, entry}
use Rattle.acyclic_values.specs.CarriedMaps.{IsSameClass}
use Rattle.induced_map.specs.Pairs.{nth_by_cell}
use Rattle.induced_map.specs.Matrices.{nth}
use Rattle.index_map.specs.Inclusion.{IsIncluded}

-- the pair of x and a is included in that of y and b, and A and B are bases of them, by the numbers
-- of their relative cells
pub record IsIncludedPair (p : ℕ) (x a y b domain_cells : List (List Factor)) (A : CyclesOfLog)
    (range_cells : List (List Factor)) (B : BasisOfLog) : Type 0 where
  pub included : IsIncluded x a y b
  pub domain : IsRelativeComplex p x a domain_cells A.log.complex
  pub range : IsRelativeComplex p y b range_cells B.log.complex

-- .. for some pairs
pub record AreIncludedPairs (p : ℕ) (domain_cells : List (List Factor)) (A : CyclesOfLog)
    (range_cells : List (List Factor)) (B : BasisOfLog) : Type 0 where
  pub x : List (List Factor)
  pub a : List (List Factor)
  pub y : List (List Factor)
  pub b : List (List Factor)
  pub pairs : IsIncludedPair p x a y b domain_cells A range_cells B

-- the matrices have the sizes of the bases in their degrees, above which both bases are empty
pub record AreSized (A : CyclesOfLog) (B : BasisOfLog) (all : List Table) : Type 0 where
  pub few : length all ≤ 256
  pub rows : (k : ℕ) → k < length all → (nth all k).rows ≡ length (in_degree B.cycles k)
  pub columns : (k : ℕ) → k < length all → (nth all k).columns ≡ length (in_degree A.cycles k)
  pub no_cycles : (k : ℕ) → length all ≤ k → in_degree A.cycles k ≡ []
  pub no_range_cycles : (k : ℕ) → length all ≤ k → in_degree B.cycles k ≡ []

-- the matrix m of degree k is square, of the size of the basis of the first pair, and for each j
-- the inclusion of the combination of the cycles by its column j differs by a null chain of the
-- second pair from the combination by column j of the induced matrix
pub record IsSolution (p : ℕ) (y b domain_cells : List (List Factor)) (A : CyclesOfLog)
    (range_cells : List (List Factor)) (B : BasisOfLog) (k : ℕ) (induced m : Table)
    : Type 0 where
  pub rows : m.rows ≡ length (in_degree A.cycles k)
  pub columns : m.columns ≡ length (in_degree A.cycles k)
  pub solves : (j : ℕ) → j < length (in_degree A.cycles k)
      → IsSameClass p (relative_complex p y b) k
      (combination (length (in_degree A.cycles k)) (λ i. entry m i j)
      (nth_by_cell domain_cells (in_degree A.cycles k)))
      (combination (length (in_degree B.cycles k)) (λ i. entry induced i j)
      (nth_by_cell range_cells (in_degree B.cycles k)))
