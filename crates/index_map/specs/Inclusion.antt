-- The inclusion of a pair in another, and index matrices. (Mrozek: Leray functor and cohomological
-- Conley index for discrete dynamical systems, 1990; Szymczak: The Conley index for discrete
-- semidynamical systems, 1995)
use Rattle.std.specs.Prelude.{◌≡◌, ◌++◌, ℕ, ◌*◌, ◌<◌, List, true}
use Rattle.std.specs.List.{Contains}
use Rattle.field_mod.specs.Modular.{Same, NonZero}
use Rattle.elem_cubes.specs.Cells.{Factor}
use Rattle.elem_cubes.specs.Boundary.{boundary_coefficient}
use Rattle.chains.specs.Homology.{IsChain, IsCycle, IsNull, combination}
use Rattle.cube_sets.specs.Closures.{cells_of}
use Rattle.cell_complex.specs.Acyclic.{sum_over}
use Rattle.cell_complex.specs.RelativeComplex.{is_relative, relative_complex}
use Rattle.cube_maps.specs.CubeMaps.{Naming}
use Rattle.acyclic_values.specs.CarriedMaps.{image, IsCarriedMap, IsSameClass}

-- the pair of x and a is included in that of y and b: each member of x or a is one of y or b, and
-- each of a is one of b
pub record IsIncluded (x a y b : List (List Factor)) : Type 0 where
  pub whole : (q : List Factor) → Contains (x ++ a) q → Contains (y ++ b) q
  pub subset : (q : List Factor) → Contains a q → Contains b q

-- The inclusion sends a chain to its restriction: in what follows, that a chain of the first pair
-- is null in the second, or is compared there with another, says so of its restriction.

-- w is the image of a cycle of the first pair, up to a null chain
pub record IsReached (p : ℕ) (x a y b : List (List Factor)) (k : ℕ) (w : List Factor → ℕ)
    : Type 0 where
  pub source : List Factor → ℕ
  pub cycle : IsCycle p (relative_complex p x a) k source
  pub same : IsSameClass p (relative_complex p y b) k w source

-- the inclusion is invertible in degree k: a cycle is null if its image is, and each cycle of the
-- second pair is the image of one, up to a null chain
pub record IsInvertibleInclusion (p : ℕ) (x a y b : List (List Factor)) (k : ℕ) : Type 0 where
  pub injective : (z : List Factor → ℕ) → IsCycle p (relative_complex p x a) k z
      → IsNull p (relative_complex p y b) k z → IsNull p (relative_complex p x a) k z
  pub surjective : (w : List Factor → ℕ) → IsCycle p (relative_complex p y b) k w
      → IsReached p x a y b k w

-- the cycle z of the first pair is not null, and its image is
pub record IsKilled (p : ℕ) (x a y b : List (List Factor)) (k : ℕ) (z : List Factor → ℕ)
    : Type 0 where
  pub cycle : IsCycle p (relative_complex p x a) k z
  pub lives : IsNull p (relative_complex p x a) k z → ⊥
  pub dies : IsNull p (relative_complex p y b) k z

-- the product of two chains, one of which is 0 off the cells of y
abbrev pub product_on : List (List Factor) → (List Factor → ℕ) → (List Factor → ℕ) → ℕ
product_on y c d = sum_over (cells_of y) (λ g. c g * d g)

-- the chain c of the second pair has the product 0 with each boundary and with the image of each
-- cycle of the first pair, and not with each cycle
pub record IsMissed (p : ℕ) (x a y b : List (List Factor)) (k : ℕ) (c : List Factor → ℕ)
    : Type 0 where
  pub chain : IsChain p (relative_complex p y b) k c
  pub coclosed : (h : List Factor) → is_relative y b h ≡ true
      → Same p (product_on y (boundary_coefficient p h) c) 0
  pub images : (z : List Factor → ℕ) → IsCycle p (relative_complex p x a) k z
      → Same p (product_on y z c) 0
  pub seen : List Factor → ℕ
  pub cycle : IsCycle p (relative_complex p y b) k seen
  pub nonzero : NonZero p (product_on y seen c)

-- the entries are the index matrix in degree k in the n chains zs: for every carried map and every
-- j, the image of zs j differs by a null chain of the second pair from the inclusion of the
-- combination of the zs by column j
abbrev pub IsIndexMatrix : ℕ → List Naming → List (List Factor) → List (List Factor)
    → List (List Factor) → List (List Factor) → ℕ → ℕ → (ℕ → List Factor → ℕ)
    → (ℕ → ℕ → ℕ) → Type 0
IsIndexMatrix p map domain range y b k n zs entry =
    (f : List Factor → List Factor → ℕ) → IsCarriedMap p map domain range f
    → (j : ℕ) → j < n → IsSameClass p (relative_complex p y b) k
    (image (cells_of domain) f (zs j)) (combination n (λ i. entry i j) zs)
