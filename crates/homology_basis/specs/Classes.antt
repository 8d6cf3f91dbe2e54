-- Classes of a basis while they are made: one for each generator that is left.
use Rattle.std.specs.Prelude.{◌≡◌, ℕ, ◌*◌, ◌<◌, ◌≤◌, Bool, true, List, length, map, slice_index, slice_index_or}
use Rattle.field_mod.specs.Modular.{Same}
use Rattle.chains.specs.Terms.{coefficient, IsNormal}
use Rattle.chains.specs.ChainComplex.{ChainComplex}
use Rattle.algebraic_reduction.specs.Reduction.{single, Step, IsUnpaired}
use Rattle.algebraic_reduction.specs.Laws.{include_of, project_of}
use Rattle.homology_basis.specs.Bases.{in_degree, BeginsWithOne}

-- a generator that is left, the cycle of its class, and its cocycle where that is wanted
pub record ClassOf : Type 0 where
  pub generator : ℕ
  pub cycle : List (ℕ × ℕ)
  pub cocycle : List (ℕ × ℕ)

-- the cycle is the inclusion of the generator times the inverse of its first coefficient; the
-- cocycle, where one is wanted, has at each generator what its projection has at that one, times
-- the first coefficient
pub record IsClass (p : ℕ) (K : ChainComplex) (ss : List Step) (wanted : Bool)
    (c : ClassOf) : Type 0 where
  pub inside : c.generator < length K.boundaries
  pub unpaired : IsUnpaired ss c.generator
  pub cycle_normal : IsNormal p c.cycle
  pub multiple : ℕ
  pub first : ℕ
  pub inverse : Same p (multiple * first) 1
  pub cycle : (g : ℕ) → Same p (coefficient c.cycle g)
      (multiple * include_of p K ss (single c.generator) g)
  pub begins : BeginsWithOne c.cycle
  pub cocycle_normal : wanted ≡ true → IsNormal p c.cocycle
  pub cocycle : wanted ≡ true → (g : ℕ) → g < length K.boundaries
      → Same p (coefficient c.cocycle g) (first * project_of p K ss (single g) c.generator)
  pub cocycle_past : wanted ≡ true → (g : ℕ) → length K.boundaries ≤ g → coefficient c.cocycle g ≡ 0

-- the classes of the generators below a bound that are left and of degree k, by ascending generator
pub record AreClassesBelow (p : ℕ) (K : ChainComplex) (ss : List Step) (wanted : Bool)
    (bound k : ℕ) (cs : List ClassOf) : Type 0 where
  pub few : length cs ≤ bound
  pub each : (i : ℕ) (d : ClassOf) → i < length cs → IsClass p K ss wanted (slice_index_or cs i d)
  pub below : (i : ℕ) (d : ClassOf) → i < length cs → (slice_index_or cs i d).generator < bound
  pub of_degree : (i : ℕ) (d : ClassOf) → i < length cs
      → slice_index K.degrees (slice_index_or cs i d).generator ≡ k
  pub ascending : (i j : ℕ) (d : ClassOf) → i < j → j < length cs
      → (slice_index_or cs i d).generator < (slice_index_or cs j d).generator
  pub all : (g : ℕ) (d : ClassOf) → g < bound → g < length K.boundaries
      → slice_index K.degrees g ≡ k → IsUnpaired ss g
      → (i : ℕ) × (i < length cs) × ((slice_index_or cs i d).generator ≡ g)

-- all classes, by degree from 0
abbrev pub AreClasses : ℕ → ChainComplex → List Step → Bool → List (List ClassOf) → Type 0
AreClasses p K ss wanted css =
    (k : ℕ) → AreClassesBelow p K ss wanted (length K.boundaries) k (in_degree css k)

abbrev pub cycles_of : List (List ClassOf) → List (List (List (ℕ × ℕ)))
cycles_of css = map (λ cs. map (λ c. c.cycle) cs) css

abbrev pub cocycles_of : List (List ClassOf) → List (List (List (ℕ × ℕ)))
cocycles_of css = map (λ cs. map (λ c. c.cocycle) cs) css
