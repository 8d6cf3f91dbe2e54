-- Laws of values and of the chain maps that they carry: each is the contract of a function of the
-- crate with an empty body.
use Rattle.std.specs.Prelude.{◌≡◌, ◌↔◌, ℕ, ◌+◌, ◌*◌, ◌<◌, ◌≤◌, List, [], length, slice_index, Bool, true, if◌then◌else◌, ◌==◌}
use Rattle.std.specs.List.{Contains}
use Rattle.field_mod.specs.Modular.{minus}
use Rattle.elem_cubes.specs.Cells.{Factor, dimension_of}
use Rattle.elem_cubes.specs.Laws.{cell_at}
use Rattle.elem_cubes.specs.Faces.{IsFace}
use Rattle.chains.specs.Homology.{IsCycle}
use Rattle.chains.specs.ChainComplex.{ChainComplex}
use Rattle.cube_sets.specs.Closures.{is_cell_of, cells_of}
use Rattle.cell_complex.specs.RelativeComplex.{is_relative, restriction_to, relative_complex, IsClosed}
use Rattle.cell_complex.specs.Numbering.{IsComplexOf, by_cell}
use Rattle.algebraic_reduction.specs.Reduction.{single, Step, IsUnpaired}
use Rattle.algebraic_reduction.specs.Laws.{AreStepsOf, NothingLeft, homotopy_of, include_of, project_of}
use Rattle.cube_maps.specs.CubeMaps.{Naming}
use Rattle.cell_complex.specs.Acyclic.{IsAcyclic, IsHole}
use Rattle.acyclic_values.specs.Contractions.{IsCellList, IsContraction, LeaveVertex, IsLeftVertex, IsFirstLeft}
use Rattle.acyclic_values.specs.Values.{in_value, InValue, IsValueAt}
use Rattle.acyclic_values.specs.CarriedMaps.{image, IsCarriedAt, IsCarriedMap, IsTogether, IsSameClass, GoesInto, IsAcyclicMap}

-- the test tells what is in a value; values are closed under faces, and grow from faces to cells
pub record ValuesAreClosedAndGrow : Type 0 where
  pub test : (map : List Naming) (domain : List (List Factor)) (s g : List Factor)
      → (in_value map domain s g ≡ true) ↔ InValue map domain s g
  pub closed : (map : List Naming) (domain : List (List Factor)) (s : List Factor)
      → IsClosed (in_value map domain s)
  pub grow : (map : List Naming) (domain : List (List Factor)) (s r g : List Factor) → IsFace s r
      → InValue map domain r g → InValue map domain s g

-- the value at a cell is one list
abbrev pub ValuesAreOne : Type 0
ValuesAreOne =
    (map : List Naming) (domain : List (List Factor)) (s : List Factor)
    (value other : List (List Factor))
    → IsValueAt map domain s value → IsValueAt map domain s other → value ≡ other

-- where cubes of the domain go into b, the values at their cells are among the cells of b
abbrev pub ValuesStayInside : Type 0
ValuesStayInside =
    (map : List Naming) (domain a b : List (List Factor)) (s g : List Factor)
    → ((q : List Factor) → Contains a q → Contains domain q) → GoesInto map a b
    → is_cell_of a s ≡ true → InValue map domain s g → is_cell_of b g ≡ true

-- a map with acyclic values carries a chain map
abbrev pub CarriedMapsExist : Type 0
CarriedMapsExist =
    (p : ℕ) (map : List Naming) (domain range : List (List Factor)) → 1 ≤ p
    → IsAcyclicMap p map domain range
    → (f : List Factor → List Factor → ℕ) × IsCarriedMap p map domain range f

-- more: where right images of some cells are kept, which with each cell have its faces, a carried
-- map has these images
abbrev pub CarriedMapsExtend : Type 0
CarriedMapsExtend =
    (p : ℕ) (map : List Naming) (domain range : List (List Factor)) (is_kept : List Factor → Bool)
    (kept : List Factor → List Factor → ℕ)
    → 1 ≤ p → IsAcyclicMap p map domain range → IsClosed is_kept
    → ((s : List Factor) → is_kept s ≡ true → is_cell_of domain s ≡ true)
    → ((s : List Factor) → is_kept s ≡ true
    → IsCarriedAt p (cells_of domain) (cells_of range) (in_value map domain s) kept s)
    → (f : List Factor → List Factor → ℕ) × IsCarriedMap p map domain range f
    × ((s : List Factor) → is_kept s ≡ true → f s ≡ kept s)

-- two carried maps agree on the cycles of the pair of x and a, up to null chains of the pair of y
-- and b
abbrev pub CarriedMapsAgree : Type 0
CarriedMapsAgree =
    (p : ℕ) (map : List Naming) (domain range x a y b : List (List Factor))
    (f e : List Factor → List Factor → ℕ) (k : ℕ) (z : List Factor → ℕ)
    → 1 ≤ p → IsAcyclicMap p map domain range → IsTogether domain x a → IsTogether range y b
    → GoesInto map a b
    → IsCarriedMap p map domain range f → IsCarriedMap p map domain range e
    → IsCycle p (relative_complex p x a) k z
    → IsSameClass p (relative_complex p y b) k (image (cells_of domain) f z)
    (image (cells_of domain) e z)

-- the restriction of the image of such a cycle is a cycle of the pair of y and b
abbrev pub ImagesAreRelativeCycles : Type 0
ImagesAreRelativeCycles =
    (p : ℕ) (map : List Naming) (domain range x a y b : List (List Factor))
    (f : List Factor → List Factor → ℕ) (k : ℕ) (z : List Factor → ℕ)
    → 1 ≤ p → IsAcyclicMap p map domain range → IsTogether domain x a → IsTogether range y b
    → GoesInto map a b
    → IsCarriedMap p map domain range f → IsCycle p (relative_complex p x a) k z
    → IsCycle p (relative_complex p y b) k
    (restriction_to (is_relative y b) (image (cells_of domain) f z))

-- ---- contractions and holes

-- a list of cells that has a contraction is acyclic
abbrev pub ContractionsAreAcyclic : Type 0
ContractionsAreAcyclic =
    (p : ℕ) (cells : List (List Factor)) (vertex : ℕ) (h : ℕ → ℕ → ℕ) → IsCellList cells
    → IsContraction p cells vertex h → IsAcyclic p cells

-- no set is acyclic and has a hole
abbrev pub NeverBoth : Type 0
NeverBoth =
    (p : ℕ) (x : List (List Factor)) (k : ℕ) (z w : List Factor → ℕ) → 2 ≤ p → IsAcyclic p x
    → IsHole p x k z w → ⊥

-- where steps leave a vertex alone, their homotopy is a contraction to it
abbrev pub LastVerticesContract : Type 0
LastVerticesContract =
    (p : ℕ) (cells : List (List Factor)) (K : ChainComplex) (steps : List Step) (vertex : ℕ)
    → 2 ≤ p → IsCellList cells → IsComplexOf p cells K → LeaveVertex p K steps vertex
    → IsContraction p cells vertex (λ m. homotopy_of p K steps (single m))

-- steps on cells leave a vertex, or there is no cell
abbrev pub SomeVertexIsLeft : Type 0
SomeVertexIsLeft =
    (p : ℕ) (cells : List (List Factor)) (K : ChainComplex) (steps : List Step)
    → 2 ≤ p → IsCellList cells → IsComplexOf p cells K → AreStepsOf p K steps
    → ((g : ℕ) → g < length cells → dimension_of (cell_at cells g) ≡ 0 → IsUnpaired steps g → ⊥)
    → cells ≡ []

-- the generator t, less the vertex u where t is a vertex itself
abbrev pub less_vertex : ℕ → ChainComplex → ℕ → ℕ → ℕ → ℕ
less_vertex p K u t g =
    single t g + minus p ((if slice_index K.degrees t == 0 then 1 else 0) * single u g)

-- where steps leave no boundary, but a vertex u and t beside it, there is a hole of the degree of
-- t, the least such degree
abbrev pub LeftGeneratorsAreHoles : Type 0
LeftGeneratorsAreHoles =
    (p : ℕ) (cells : List (List Factor)) (K : ChainComplex) (steps : List Step)
    → 2 ≤ p → IsCellList cells → IsComplexOf p cells K → AreStepsOf p K steps
    → NothingLeft p K steps
    → (u t : ℕ) → IsLeftVertex K steps u → IsFirstLeft K steps u t
    → IsHole p cells (dimension_of (cell_at cells t))
    (by_cell cells (include_of p K steps (less_vertex p K u t)))
    (by_cell cells (λ g. project_of p K steps (single g) t))
