-- Growth of the subset of a pair by cubes: a member of x is moved into the subset where the cells
-- that it has there are acyclic; the homology of the pair stays. (Mrozek, Pilarczyk, Żelazna:
-- Homology algorithm based on acyclic subspace, Computers & Mathematics with Applications 55, 2008;
-- Kaczynski, Mischaikow, Mrozek: Computational Homology, Springer 2004, section 9.1)
use Rattle.std.specs.Prelude.{◌≡◌, ℕ, ◌<◌, Bool, false, List, length, take, filter, ◌++◌}
use Rattle.std.specs.List.{Contains}
use Rattle.elem_cubes.specs.Cells.{Factor}
use Rattle.elem_cubes.specs.Faces.{closure_of}
use Rattle.elem_cubes.specs.Laws.{cell_at}
use Rattle.cube_sets.specs.Closures.{is_cell_of}
use Rattle.cell_complex.specs.Acyclic.{IsAcyclic}

-- the cells of q that the test tells
abbrev pub cells_in : (List Factor → Bool) → List Factor → List (List Factor)
cells_in test q = filter test (closure_of q)

-- q may be moved into the set s: it is no cell of s, so that it has a cell that s has not, and its
-- cells that s has are acyclic
pub record IsMovable (p : ℕ) (s : List (List Factor)) (q : List Factor) : Type 0 where
  pub new : is_cell_of s q ≡ false
  pub acyclic : IsAcyclic p (cells_in (is_cell_of s) q)

-- the cubes are members of x, each of which may be moved into a with the cubes before it
pub record IsGrowth (p : ℕ) (x a cubes : List (List Factor)) : Type 0 where
  pub members : (i : ℕ) → i < length cubes → Contains x (cell_at cubes i)
  pub moves : (i : ℕ) → i < length cubes → IsMovable p (a ++ take i cubes) (cell_at cubes i)

-- and no member of x could be added. What the growth leaves are the relative cells of x and a ++
-- cubes
pub record IsFinishedGrowth (p : ℕ) (x a cubes : List (List Factor)) : Type 0 where
  pub growth : IsGrowth p x a cubes
  pub finished : (q : List Factor) → Contains x q → ¬ IsMovable p (a ++ cubes) q
