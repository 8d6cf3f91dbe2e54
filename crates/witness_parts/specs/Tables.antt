-- The part of a pair that is made of a basis.
use Rattle.std.specs.Prelude.{◌≡◌, ℕ, ◌+◌, ◌≤◌, List, length, true}
use Rattle.elem_cubes.specs.Cells.{Factor, dimension_of}
use Rattle.elem_cubes.specs.Laws.{cell_at}
use Rattle.chains.specs.Terms.{nth_chain}
use Rattle.cell_complex.specs.RelativeComplex.{is_relative}
use Rattle.cell_complex.specs.Numbering.{by_cell, number_of}
use Rattle.homology_basis.specs.Bases.{BasisOfLog, in_degree, homotopy_in}
use Rattle.witness_laws.specs.Inputs.{all_cells, relative_cells}
use Rattle.witness_laws.specs.Sections.{Section}
use Rattle.witness_laws.specs.Tables.{PairTables}
use Rattle.witness_types.specs.Parts.{IsInOrder, pair_tables}
use Rattle.witness_types.specs.declared.part.PairPart.{PairPart}
use Rattle.witness_parts.specs.Filed.{AreFiled}

-- the cycles, the cocycles and the contraction of a basis, over the cells that its complex numbers
abbrev pub section_by : ℕ → List (List Factor) → BasisOfLog → Section
section_by p cells b = record {
  size = λ k. length (in_degree b.cycles k);
  cycle = λ k i. by_cell cells (nth_chain (in_degree b.cycles k) i);
  cocycle = λ k i. by_cell cells (nth_chain (in_degree b.cocycles k) i);
  homotopy = λ s. by_cell cells (homotopy_in p b (number_of cells s));
}

-- the tables are those of the section up to a last degree
pub record AreTablesOf (p top : ℕ) (x a : List (List Factor)) (S : Section) (T : PairTables)
    : Type 0 where
  pub degrees : length T.cycles ≡ top + 1
  pub cocycle_degrees : length T.cocycles ≡ top + 1
  pub cycles : (k : ℕ) → k ≤ top
      → AreFiled p (all_cells x a) (S.size k) (S.cycle k) (in_degree T.cycles k)
  pub cocycles : (k : ℕ) → k ≤ top
      → AreFiled p (all_cells x a) (S.size k) (S.cocycle k) (in_degree T.cocycles k)
  pub homotopies : AreFiled p (all_cells x a) (length (relative_cells x a))
      (λ i. S.homotopy (cell_at (relative_cells x a) i)) T.homotopies

-- no relative cell has a higher dimension
abbrev pub HasAtMost : ℕ → List (List Factor) → List (List Factor) → Type 0
HasAtMost top x a = (q : List Factor) → is_relative x a q ≡ true → dimension_of q ≤ top

-- the part is in order, and its tables are those of the section
pub record IsPartOf {p : ℕ} (top : ℕ) (x a : List (List Factor)) (S : Section) (part : PairPart p)
    : Type 0 where
  pub order : IsInOrder top part
  pub tables : AreTablesOf p top x a S (pair_tables top part)
