-- The relative complex of two sets of cells, over the cells themselves: which cells belong to it,
-- and the boundary of a chain, which is a function that gives each cell its coefficient.
-- (Kaczynski, Mischaikow, Mrozek: Computational Homology, Springer 2004, sections 2.2 and 9.1)
use Rattle.std.specs.Prelude.{◌≡◌, ℕ, Bool, true, not, ◌&&◌, List, if◌then◌else◌}
use Rattle.std.specs.List.{Contains}
use Rattle.field_mod.specs.Modular.{Same}
use Rattle.elem_cubes.specs.Cells.{Factor, dimension_of}
use Rattle.elem_cubes.specs.Faces.{IsFace}
use Rattle.elem_cubes.specs.Boundary.{boundary_at}
use Rattle.chains.specs.Homology.{System}
use Rattle.cube_sets.specs.Closures.{is_cell_of}

-- q is a relative cell of the pair of x and a: a cell of x that is no cell of a
abbrev pub is_relative : List (List Factor) → List (List Factor) → List Factor → Bool
is_relative x a q = is_cell_of x q && not (is_cell_of a q)

-- the chain c without its terms at cells that do not belong, where a test tells those that do
abbrev pub restriction_to : (List Factor → Bool) → (List Factor → ℕ) → List Factor → ℕ
restriction_to belongs c q = if belongs q then c q else 0

-- the complex on some cells: the degree of a cell is its dimension, and the boundary of a chain at
-- a cell is the cubical boundary, a sum over those cells of the complex that have this one as a
-- facet
abbrev pub complex_on : ℕ → (List Factor → Bool) → System (List Factor)
complex_on p belongs = record {
  on = belongs;
  degree = dimension_of;
  boundary = λ c q. boundary_at p q (restriction_to belongs c);
}

-- the relative complex of the sets x and a, modulo p
abbrev pub relative_complex : ℕ → List (List Factor) → List (List Factor) → System (List Factor)
relative_complex p x a = complex_on p (is_relative x a)

-- with each cell its faces; for a test, and for a list
abbrev pub IsClosed : (List Factor → Bool) → Type 0
IsClosed belongs = (q r : List Factor) → IsFace q r → belongs q ≡ true → belongs r ≡ true

abbrev pub IsClosedList : List (List Factor) → Type 0
IsClosedList cells = (q r : List Factor) → IsFace q r → Contains cells q → Contains cells r

-- the boundary of each boundary is 0
abbrev pub SquaresToZero : ℕ → System (List Factor) → Type 0
SquaresToZero p K =
    (c : List Factor → ℕ) (q : List Factor) → K.on q ≡ true → Same p (K.boundary (K.boundary c) q) 0
