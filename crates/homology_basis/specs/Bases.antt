-- Bases of the homology of a chain complex, with the cocycles that are dual to them and the
-- contraction onto them.
-- (Kaczynski, Mischaikow, Mrozek: Computational Homology, Springer 2004, chapters 4 and 9; a
-- contraction is also called a reduction or a strong deformation retract)
use Rattle.std.specs.Prelude.{◌≡◌, ℕ, ◌+◌, ◌*◌, ◌<◌, ◌≤◌, List, [], ◌∷◌, length, slice_index, slice_index_or, if◌then◌else◌, ◌==◌}
use Rattle.field_mod.specs.Sums.{total}
use Rattle.field_mod.specs.Modular.{Same}
use Rattle.chains.specs.Terms.{product, nth_chain, IsNormal}
use Rattle.chains.specs.Homology.{IsChain, combination}
use Rattle.chains.specs.ChainComplex.{ChainComplex, IsComplex, IsBasisOf, system, incidence, boundary}
use Rattle.algebraic_reduction.specs.Reduction.{single, Step}
use Rattle.algebraic_reduction.specs.Laws.{include_of, homotopy_of, IsReduction, NothingLeft, IsLeft}
use Rattle.algebraic_reduction.specs.LogWords.{Reduced}

-- what a basis is seen as: the log from which it was made, with its complex and its steps, and by
-- degree from 0 the cycles and the cocycles
pub record BasisOfLog : Type 0 where
  pub log : Reduced
  pub cycles : List (List (List (ℕ × ℕ)))
  pub cocycles : List (List (List (ℕ × ℕ)))

-- what a basis without cocycles is seen as: the log from which it was made, and the cycles by
-- degree
pub record CyclesOfLog : Type 0 where
  pub log : Reduced
  pub cycles : List (List (List (ℕ × ℕ)))

-- the homotopy h that it stands for, which gives each generator a chain, by its coefficients
abbrev pub homotopy_in : ℕ → BasisOfLog → ℕ → ℕ → ℕ
homotopy_in p b g = homotopy_of p b.log.complex b.log.steps (single g)

-- the entry of the degree k in a list by degree; there is nothing past its end
abbrev pub in_degree : {A : Type 0} → List (List A) → ℕ → List A
in_degree lists k = slice_index_or lists k []

-- the first term of a chain in normal form, which is that of its smallest generator, has the
-- coefficient 1
abbrev pub BeginsWithOne : List (ℕ × ℕ) → Type 0
BeginsWithOne [] = ⊥
BeginsWithOne (t ∷ ts) = t.1 ≡ 1

-- cs are cocycles of degree k that are dual to the chains zs: cs i has the value 1 on zs i, 0 on
-- each other, and 0 on each boundary. The value of a cochain on a chain is their product.
pub record AreDualCocycles (p : ℕ) (K : ChainComplex) (k : ℕ)
    (zs cs : List (List (ℕ × ℕ))) : Type 0 where
  pub count : length cs ≡ length zs
  pub cochains : (i : ℕ) → i < length cs → IsChain p (system K) k (nth_chain cs i)
  pub dual : (i j : ℕ) → i < length cs → j < length zs
      → Same p (product (slice_index_or cs i []) (slice_index_or zs j [])) (if i == j then 1 else 0)
  pub closed : (i s : ℕ) → i < length cs → s < length K.boundaries
      → Same p (product (slice_index_or cs i []) (slice_index_or K.boundaries s [])) 0

-- h contracts the complex to the cycles, whose cocycles these are: h of a generator s is a chain of
-- one degree more, and s less the cycles, each times the value of its cocycle on s, is the boundary
-- of h of s and h of the boundary of s
pub record IsContraction (p : ℕ) (K : ChainComplex) (cycles cocycles : List (List (List (ℕ × ℕ))))
    (h : ℕ → ℕ → ℕ) : Type 0 where
  pub raises : (s : ℕ) → s < length K.boundaries
      → IsChain p (system K) (slice_index K.degrees s + 1) (h s)
  pub identity : (s k : ℕ) → s < length K.boundaries → slice_index K.degrees s ≡ k → (g : ℕ)
      → Same p (combination (length (in_degree cycles k))
      (λ i. nth_chain (in_degree cocycles k) i s) (nth_chain (in_degree cycles k)) g
      + (boundary K.boundaries (h s) g + total (length K.boundaries)
      (λ t. incidence K.boundaries s t * h t g)))
      (single s g)

-- the chains zs are the inclusions of the generators of degree k that the steps leave, by ascending
-- number, each times the inverse of its first coefficient
pub record AreInclusions (p : ℕ) (K : ChainComplex) (ss : List Step) (k : ℕ)
    (zs : List (List (ℕ × ℕ))) : Type 0 where
  pub at : ℕ → ℕ
  pub left : IsLeft K k ss (length zs) at
  pub ascending : (i j : ℕ) → i < j → j < length zs → at i < at j
  pub multiple : ℕ → ℕ
  pub scaled : (i : ℕ) → i < length zs → (g : ℕ)
      → Same p (nth_chain zs i g) (multiple i * include_of p K ss (single (at i)) g)
  pub first : (i : ℕ) → i < length zs → BeginsWithOne (slice_index_or zs i [])

-- in each degree the cycles are a basis, and each begins with the coefficient 1; the steps of the
-- log reduce its complex until no boundary is left, and the cycles are the inclusions of the
-- generators that they leave
pub record IsBasisByCycles (p : ℕ) (b : CyclesOfLog) : Type 0 where
  pub complex : IsComplex p b.log.complex
  pub reduction : IsReduction p b.log.complex b.log.steps
  pub nothing_left : NothingLeft p b.log.complex b.log.steps
  pub cycles : (k : ℕ) → IsBasisOf p b.log.complex k (in_degree b.cycles k)
  pub few : (k : ℕ) → length (in_degree b.cycles k) ≤ length b.log.complex.boundaries
  pub normal : (k j : ℕ) → j < length (in_degree b.cycles k)
      → IsNormal p (slice_index_or (in_degree b.cycles k) j [])
  pub first : (k j : ℕ) → j < length (in_degree b.cycles k)
      → BeginsWithOne (slice_index_or (in_degree b.cycles k) j [])
  pub inclusions : (k : ℕ) → AreInclusions p b.log.complex b.log.steps k (in_degree b.cycles k)

-- in each degree the cycles are a basis, each begins with the coefficient 1, the cocycles are dual
-- to them, and h contracts the complex to them; the steps of the log reduce its complex until no
-- boundary is left, and the cycles are the inclusions of the generators that they leave
pub record IsBasisWithContraction (p : ℕ) (b : BasisOfLog) : Type 0 where
  pub complex : IsComplex p b.log.complex
  pub reduction : IsReduction p b.log.complex b.log.steps
  pub nothing_left : NothingLeft p b.log.complex b.log.steps
  pub cycles : (k : ℕ) → IsBasisOf p b.log.complex k (in_degree b.cycles k)
  pub few : (k : ℕ) → length (in_degree b.cycles k) ≤ length b.log.complex.boundaries
  pub normal : (k j : ℕ) → j < length (in_degree b.cycles k)
      → IsNormal p (slice_index_or (in_degree b.cycles k) j [])
  pub first : (k j : ℕ) → j < length (in_degree b.cycles k)
      → BeginsWithOne (slice_index_or (in_degree b.cycles k) j [])
  pub inclusions : (k : ℕ) → AreInclusions p b.log.complex b.log.steps k (in_degree b.cycles k)
  pub cocycles : (k : ℕ) → AreDualCocycles p b.log.complex k (in_degree b.cycles k)
      (in_degree b.cocycles k)
  pub contraction : IsContraction p b.log.complex b.cycles b.cocycles (homotopy_in p b)
