-- Cells by their numbers: lists of cells, complexes on numbered cells, and chains read either way.
use Rattle.std.specs.Prelude.{◌≡◌, ◌↔◌, ℕ, ◌+◌, ◌<◌, ◌^◌, Bool, true, List, [], ◌∷◌, length, map, slice_index_or, if◌then◌else◌, nat_lt}
use Rattle.std.specs.List.{Contains, position_or_len}
use Rattle.field_mod.specs.Modular.{Same}
use Rattle.elem_cubes.specs.Cells.{Factor, dimension_of, same_cell}
use Rattle.elem_cubes.specs.Boundary.{boundary_coefficient}
use Rattle.elem_cubes.specs.Laws.{cell_at}
use Rattle.chains.specs.Terms.{IsNormal}
use Rattle.chains.specs.ChainComplex.{ChainComplex, incidence}
use Rattle.cell_complex.specs.RelativeComplex.{is_relative}

-- the list has exactly the cells that the test tells, each once
pub record IsListing (test : List Factor → Bool) (cells : List (List Factor)) : Type 0 where
  pub members : (q : List Factor) → (test q ≡ true) ↔ Contains cells q
  pub once : (i j : ℕ) → i < length cells → j < length cells → cell_at cells i ≡ cell_at cells j
      → i ≡ j

-- the list has exactly the relative cells of some pair of sets, each once
pub record IsOfPair (cells : List (List Factor)) : Type 0 where
  pub x : List (List Factor)
  pub a : List (List Factor)
  pub listing : IsListing (is_relative x a) cells

-- the generators of the numbered complex K are the cells of the list, in its order: the degrees are
-- the dimensions, and the incidence numbers are the coefficients of the cubical boundary among
-- these cells, modulo p
pub record IsComplexOf (p : ℕ) (cells : List (List Factor)) (K : ChainComplex) : Type 0 where
  pub degrees : K.degrees ≡ map dimension_of cells
  pub count : length K.boundaries ≡ length cells
  pub short : length cells < 2 ^ 32
  pub normal : (h : ℕ) → h < length cells → IsNormal p (slice_index_or K.boundaries h [])
  pub incidences : (h g : ℕ) → h < length cells
      → Same p (incidence K.boundaries h g)
      (boundary_coefficient p (cell_at cells h) (cell_at cells g))

-- K is the relative complex of the sets x and a, its cells numbered as in the list
pub record IsRelativeComplex (p : ℕ) (x a cells : List (List Factor))
    (K : ChainComplex) : Type 0 where
  pub listing : IsListing (is_relative x a) cells
  pub complex : IsComplexOf p cells K

-- the number of a cell: its place in the list, and the length of the list for a cell that is not
-- there
abbrev pub number_of : List (List Factor) → List Factor → ℕ
number_of cells q = position_or_len (same_cell q) cells

-- a chain of numbers, read as a chain of cells: at a cell of the list the coefficient of its number
abbrev pub by_cell : List (List Factor) → (ℕ → ℕ) → List Factor → ℕ
by_cell cells c q = if nat_lt (number_of cells q) (length cells) then c (number_of cells q) else 0

-- a chain of cells, read as a chain of numbers: at a number the coefficient of its cell
abbrev pub by_number : List (List Factor) → (List Factor → ℕ) → ℕ → ℕ
by_number cells c i = if nat_lt i (length cells) then c (cell_at cells i) else 0

-- the coefficient of the cell q in a list of cells with numbers: the sum of the numbers that stand
-- beside q
abbrev pub cell_coefficient : List (List Factor × ℕ) → List Factor → ℕ
cell_coefficient [] q = 0
cell_coefficient (t ∷ ts) q = (if same_cell t.0 q then t.1 else 0) + cell_coefficient ts q

-- the terms of a chain with their cells in place of the numbers of these
abbrev pub cell_terms : List (List Factor) → List (ℕ × ℕ) → List (List Factor × ℕ)
cell_terms cells = map (λ t. (cell_at cells t.0, t.1))
