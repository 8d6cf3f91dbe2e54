-- Chain maps that are carried by a map of full cubes, and the matrix that all of them induce.
-- (Kaczynski, Mischaikow, Mrozek:
-- Computational Homology, Springer 2004, sections 6.2 to 6.4: chain selectors)
use Rattle.std.specs.Prelude.{◌≡◌, ◌↔◌, ◌⊎◌, ℕ, ◌+◌, ◌*◌, ◌<◌, List, Bool, true}
use Rattle.std.specs.List.{Contains}
use Rattle.field_mod.specs.Modular.{Same}
use Rattle.elem_cubes.specs.Cells.{Factor, dimension_of}
use Rattle.elem_cubes.specs.Boundary.{boundary_coefficient, boundary_at}
use Rattle.chains.specs.Homology.{System, IsChain, combination}
use Rattle.cube_sets.specs.Closures.{is_cell_of, cells_of}
use Rattle.cell_complex.specs.RelativeComplex.{complex_on, relative_complex}
use Rattle.cube_maps.specs.CubeMaps.{Naming, value_of}
use Rattle.cell_complex.specs.Acyclic.{sum_over, IsAcyclic}
use Rattle.acyclic_values.specs.Values.{in_value, IsValueAt}

-- the image of the chain c, where f gives each cell of the list its image: the sum of the images,
-- each times its coefficient
abbrev pub image : List (List Factor) → (List Factor → List Factor → ℕ) → (List Factor → ℕ)
    → List Factor → ℕ
image cells f c r = sum_over cells (λ s. c s * f s r)

-- what is asked of the image of the cell s, where f gives the images of all cells of the domain,
-- and a test tells the value at s. It is a chain on the value, of the dimension of s; its boundary
-- is the image of the boundary of s; and where s is a vertex, it has augmentation 1
pub record IsCarriedAt (p : ℕ) (domain_cells range_cells : List (List Factor))
    (value : List Factor → Bool) (f : List Factor → List Factor → ℕ)
    (s : List Factor) : Type 0 where
  pub chain : IsChain p (complex_on p value) (dimension_of s) (f s)
  pub commutes : (r : List Factor) → Same p (boundary_at p r (f s))
      (image domain_cells f (boundary_coefficient p s) r)
  pub augmentation : dimension_of s ≡ 0 → Same p (sum_over range_cells (f s)) 1

-- f is a chain map from the cells of the domain to those of the range that the map carries
abbrev pub IsCarriedMap : ℕ → List Naming → List (List Factor) → List (List Factor)
    → (List Factor → List Factor → ℕ) → Type 0
IsCarriedMap p map domain range f =
    (s : List Factor) → is_cell_of domain s ≡ true
    → IsCarriedAt p (cells_of domain) (cells_of range) (in_value map domain s) f s

-- the list has the members of x and of a
abbrev pub IsTogether : List (List Factor) → List (List Factor) → List (List Factor) → Type 0
IsTogether all x a = (q : List Factor) → Contains all q ↔ (Contains x q ⊎ Contains a q)

-- the restrictions of y and z to K differ by a null chain, the boundary of filling
pub record IsSameClass {G : Type 0} (p : ℕ) (K : System G) (k : ℕ) (y z : G → ℕ) : Type 0 where
  pub filling : G → ℕ
  pub chain : IsChain p K (k + 1) filling
  pub differs : (g : G) → K.on g ≡ true → Same p (y g) (z g + K.boundary filling g)

-- the entries are the matrix of the map in degree k, in the chains zs of the domain and the chains
-- ws of the pair of y and b: for every carried map and every j, the restriction of the image of zs
-- j to the relative complex of y and b differs by a null chain of it from the combination of the ws
-- by column j
abbrev pub IsInducedMatrix : ℕ → List Naming → List (List Factor) → List (List Factor)
    → List (List Factor) → List (List Factor) → ℕ
    → ℕ → (ℕ → List Factor → ℕ) → ℕ → (ℕ → List Factor → ℕ) → (ℕ → ℕ → ℕ) → Type 0
IsInducedMatrix p map domain range y b k columns zs rows ws entry =
    (f : List Factor → List Factor → ℕ) → IsCarriedMap p map domain range f → (j : ℕ) → j < columns
    → IsSameClass p (relative_complex p y b) k (image (cells_of domain) f (zs j))
    (combination rows (λ i. entry i j) ws)

-- the cubes of a go into b
abbrev pub GoesInto : List Naming → List (List Factor) → List (List Factor) → Type 0
GoesInto map a b = (q v : List Factor) → Contains a q → Contains (value_of map q) v → Contains b v

-- all values of the map on the domain are in the range, and those at cells are acyclic
pub record IsAcyclicMap (p : ℕ) (map : List Naming)
    (domain range : List (List Factor)) : Type 0 where
  pub inside : GoesInto map domain range
  pub acyclic : (s : List Factor) (value : List (List Factor)) → is_cell_of domain s ≡ true
      → IsValueAt map domain s value → IsAcyclic p value
