-- What a witness speaks of: a pair of sets, or a map between two pairs; the numbering of the cells;
-- and what is claimed.
use Rattle.std.specs.Prelude.{ℕ, List, [], filter, Option, Some, None}
use Rattle.elem_cubes.specs.Cells.{Factor}
use Rattle.chains.specs.Homology.{IsBasis}
use Rattle.cube_sets.specs.Closures.{cells_of}
use Rattle.cell_complex.specs.RelativeComplex.{is_relative, relative_complex}
use Rattle.cube_maps.specs.CubeMaps.{Naming}
use Rattle.acyclic_values.specs.Values.{in_value}
use Rattle.acyclic_values.specs.CarriedMaps.{IsCarriedMap, IsAcyclicMap, IsInducedMatrix}
use Rattle.map_checks.specs.Faults.{together, HasNoSetFault}
use Rattle.witness_laws.specs.Lines.{Side, domain, range}
use Rattle.witness_laws.specs.Sections.{Section}

-- a map, and the pair to which it goes
pub record Target : Type 0 where
  pub map : List Naming
  pub y : List (List Factor)
  pub b : List (List Factor)

-- the greatest degree, a pair, and for a map its target
pub record Given : Type 0 where
  pub top : ℕ
  pub x : List (List Factor)
  pub a : List (List Factor)
  pub target : Option Target

abbrev pub target_in : Option Target → Target
target_in None = record { map = []; y = []; b = [] }
target_in (Some T) = T

-- the target; an empty one where there is none
abbrev pub target_of : Given → Target
target_of G = target_in G.target

-- the two sets of the pair at a side
abbrev pub x_of : Given → Side → List (List Factor)
x_of G domain = G.x
x_of G range = (target_of G).y

abbrev pub a_of : Given → Side → List (List Factor)
a_of G domain = G.a
a_of G range = (target_of G).b

-- the cells of the domain, and those of the range: the cell of number i in a file is the one at i -
-- 1
abbrev pub all_cells : List (List Factor) → List (List Factor) → List (List Factor)
all_cells x a = cells_of (together x a)

-- the relative cells of a pair, in order
abbrev pub relative_cells : List (List Factor) → List (List Factor) → List (List Factor)
relative_cells x a = filter (is_relative x a) (all_cells x a)

-- the value of the map at a cell of the domain, in order
abbrev pub value_cells : Target → List (List Factor) → List (List Factor) → List Factor
    → List (List Factor)
value_cells T x a s = filter (in_value T.map (together x a) s) (all_cells T.y T.b)

-- the cycles of the section are a basis of the pair in each degree
abbrev pub IsPairClaim : ℕ → List (List Factor) → List (List Factor) → Section → Type 0
IsPairClaim p x a S = (k : ℕ) → IsBasis p (relative_complex p x a) k (S.size k) (S.cycle k)

-- what a witness of a map shows: bases of both pairs, acyclic values, some carried map, and in each
-- degree the matrix of all
pub record IsMapClaim (p : ℕ) (x a : List (List Factor)) (T : Target) (X Y : Section)
    (entry : ℕ → ℕ → ℕ → ℕ) : Type 0 where
  pub domain : IsPairClaim p x a X
  pub range : IsPairClaim p T.y T.b Y
  pub acyclic : IsAcyclicMap p T.map (together x a) (together T.y T.b)
  pub exists : (f : List Factor → List Factor → ℕ)
      × IsCarriedMap p T.map (together x a) (together T.y T.b) f
  pub matrices : (k : ℕ) → IsInducedMatrix p T.map (together x a) (together T.y T.b) T.y T.b k
      (X.size k) (X.cycle k) (Y.size k) (Y.cycle k) (entry k)

-- what a map needs before its witness is read
abbrev pub IsWithoutFault : Given → Target → Type 0
IsWithoutFault G T = HasNoSetFault T.map G.x G.a T.y T.b
