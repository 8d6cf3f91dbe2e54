-- Sections of a pair: cycles and cocycles by degree, and a homotopy, over the relative cells. Each
-- field below is one law of a witness.
-- (Kaczynski, Mischaikow, Mrozek: Computational Homology, Springer 2004, section 9.1)
use Rattle.std.specs.Prelude.{◌≡◌, ℕ, ◌+◌, ◌*◌, ◌<◌, ◌≤◌, List, true, if◌then◌else◌, ◌==◌}
use Rattle.field_mod.specs.Modular.{Same}
use Rattle.elem_cubes.specs.Cells.{Factor, dimension_of}
use Rattle.elem_cubes.specs.Boundary.{boundary_coefficient}
use Rattle.chains.specs.Homology.{IsChain, IsBasis, combination}
use Rattle.cube_sets.specs.Closures.{cells_of}
use Rattle.cell_complex.specs.RelativeComplex.{is_relative, relative_complex}
use Rattle.cell_complex.specs.Numbering.{IsListing}
use Rattle.cell_complex.specs.Boundaries.{unit_at}
use Rattle.cell_complex.specs.Acyclic.{sum_over}
use Rattle.cube_maps.specs.CubeMaps.{Naming}
use Rattle.acyclic_values.specs.CarriedMaps.{image, IsCarriedMap, IsTogether, GoesInto, IsAcyclicMap, IsInducedMatrix}

-- in degree k there are size k cycles and as many cocycles; and each cell has a chain
pub record Section : Type 0 where
  pub size : ℕ → ℕ
  pub cycle : ℕ → ℕ → List Factor → ℕ
  pub cocycle : ℕ → ℕ → List Factor → ℕ
  pub homotopy : List Factor → List Factor → ℕ

-- the boundary of the chain z is empty
abbrev pub IsClosedAt : ℕ → List (List Factor) → List (List Factor) → (List Factor → ℕ) → Type 0
IsClosedAt p x a z =
    (q : List Factor) → is_relative x a q ≡ true → Same p ((relative_complex p x a).boundary z q) 0

-- the i-th cocycle of degree k has the value 1 on the i-th cycle and 0 on the others
abbrev pub IsDualAt : ℕ → List (List Factor) → Section → ℕ → ℕ → Type 0
IsDualAt p cells S k i =
    (j : ℕ) → j < S.size k → Same p (sum_over cells (λ q. S.cocycle k i q * S.cycle k j q))
    (if i == j then 1 else 0)

-- the cochain c has the value 0 on the boundary of each relative cell
abbrev pub IsCocycleAt : ℕ → List (List Factor) → List (List Factor) → List (List Factor)
    → (List Factor → ℕ) → Type 0
IsCocycleAt p x a cells c =
    (s : List Factor) → is_relative x a s ≡ true
    → Same p (sum_over cells (λ r. boundary_coefficient p s r * c r)) 0

-- h contracts the pair to the cycles, at the cell s: s less the cycles, each times the value of its
-- cocycle on s, is the boundary of h of s and h of the boundary of s
abbrev pub ContractsAt : ℕ → List (List Factor) → List (List Factor) → List (List Factor) → Section
    → List Factor → Type 0
ContractsAt p x a cells S s =
    (q : List Factor) → is_relative x a q ≡ true
    → Same p (combination (S.size (dimension_of s)) (λ i. S.cocycle (dimension_of s) i s)
    (S.cycle (dimension_of s)) q
    + ((relative_complex p x a).boundary (S.homotopy s) q
    + sum_over cells (λ t. boundary_coefficient p s t * S.homotopy t q)))
    (unit_at s q)

-- the list has the relative cells, each once, and all laws of a section hold
pub record IsSection (p : ℕ) (x a cells : List (List Factor)) (S : Section) : Type 0 where
  pub listing : IsListing (is_relative x a) cells
  pub cycle_cells : (k i : ℕ) → i < S.size k → IsChain p (relative_complex p x a) k (S.cycle k i)
  pub homotopy_cells : (s : List Factor) → is_relative x a s ≡ true
      → IsChain p (relative_complex p x a) (dimension_of s + 1) (S.homotopy s)
  pub closed : (k i : ℕ) → i < S.size k → IsClosedAt p x a (S.cycle k i)
  pub dual : (k i : ℕ) → i < S.size k → IsDualAt p cells S k i
  pub coclosed : (k i : ℕ) → i < S.size k → IsCocycleAt p x a cells (S.cocycle k i)
  pub contracts : (s : List Factor) → is_relative x a s ≡ true → ContractsAt p x a cells S s

-- the cycles of a section are a basis in each degree
abbrev pub SectionsAreBases : Type 0
SectionsAreBases =
    (p : ℕ) (x a cells : List (List Factor)) (S : Section) → 1 ≤ p → IsSection p x a cells S
    → (k : ℕ) → IsBasis p (relative_complex p x a) k (S.size k) (S.cycle k)

-- the entry in row r and column s is the product of the range's r-th cocycle with the image of the
-- domain's s-th cycle
abbrev pub product_of_image : List (List Factor) → List (List Factor) → Section → Section
    → (List Factor → List Factor → ℕ) → ℕ → ℕ → ℕ → ℕ
product_of_image domain_cells cells X Y f k r s =
    sum_over cells (λ g. Y.cocycle k r g * image domain_cells f (X.cycle k s) g)

-- the products of the images under one carried map with the cocycles of a section are the matrix
-- for every carried map
abbrev pub ProductsWithSectionsAreTheMatrix : Type 0
ProductsWithSectionsAreTheMatrix =
    (p : ℕ) (map : List Naming) (domain range x a y b cells others : List (List Factor))
    (X Y : Section) (f : List Factor → List Factor → ℕ) (k : ℕ) (entry : ℕ → ℕ → ℕ)
    → 1 ≤ p → IsAcyclicMap p map domain range → IsTogether domain x a → IsTogether range y b
    → GoesInto map a b
    → IsSection p x a cells X → IsSection p y b others Y → IsCarriedMap p map domain range f
    → ((r s : ℕ) → r < Y.size k → s < X.size k
    → Same p (entry r s) (product_of_image (cells_of domain) others X Y f k r s))
    → IsInducedMatrix p map domain range y b k (X.size k) (X.cycle k) (Y.size k) (Y.cycle k) entry
