-- Homology over the numbers modulo p, for any kind of generator. A chain is a function that gives
-- each generator its coefficient; coefficients are compared modulo p, and only the generators that
-- belong to the complex count.
-- (Kaczynski, Mischaikow, Mrozek: Computational Homology, Springer 2004, sections 2.2 and 9.1)
use Rattle.std.specs.Prelude.{◌≡◌, ◌≢◌, ℕ, ◌+◌, ◌*◌, ◌<◌, Bool, true, false}
use Rattle.field_mod.specs.Sums.{total}
use Rattle.field_mod.specs.Modular.{Same}

-- what a complex is made of: which generators belong to it, the degree of each, and the boundary of
-- a chain
pub record System (G : Type 0) : Type 0 where
  pub on : G → Bool
  pub degree : G → ℕ
  pub boundary : (G → ℕ) → G → ℕ

-- a chain of degree k: 0 at each generator that does not belong to the complex, or is of another
-- degree
pub record IsChain {G : Type 0} (p : ℕ) (K : System G) (k : ℕ) (c : G → ℕ) : Type 0 where
  pub on : (g : G) → K.on g ≡ false → Same p (c g) 0
  pub of_degree : (g : G) → K.degree g ≢ k → Same p (c g) 0

-- b is the boundary of c
abbrev pub IsBoundaryOf : {G : Type 0} → ℕ → System G → (G → ℕ) → (G → ℕ) → Type 0
IsBoundaryOf {G} p K b c = (g : G) → K.on g ≡ true → Same p (b g) (K.boundary c g)

-- r is the restriction of c to the complex: c without its terms at generators that do not belong to
-- it
pub record IsRestriction {G : Type 0} (p : ℕ) (K : System G) (r c : G → ℕ) : Type 0 where
  pub kept : (g : G) → K.on g ≡ true → Same p (r g) (c g)
  pub dropped : (g : G) → K.on g ≡ false → Same p (r g) 0

-- x 0 times the chain zs 0, and so on, up to x (n - 1) times zs (n - 1)
abbrev pub combination : {G : Type 0} → ℕ → (ℕ → ℕ) → (ℕ → G → ℕ) → G → ℕ
combination n x zs g = total n (λ i. x i * zs i g)

-- c is that combination of the first n chains of zs
abbrev pub IsCombination : {G : Type 0} → ℕ → ℕ → (ℕ → ℕ) → (ℕ → G → ℕ) → (G → ℕ) → Type 0
IsCombination {G} p n x zs c = (g : G) → Same p (c g) (combination n x zs g)

-- a cycle of degree k: a chain of degree k with boundary 0
pub record IsCycle {G : Type 0} (p : ℕ) (K : System G) (k : ℕ) (z : G → ℕ) : Type 0 where
  pub chain : IsChain p K k z
  pub closed : (g : G) → K.on g ≡ true → Same p (K.boundary z g) 0

-- a chain of degree k that is null: it is the boundary of a chain of the complex, its filling
pub record IsNull {G : Type 0} (p : ℕ) (K : System G) (k : ℕ) (z : G → ℕ) : Type 0 where
  pub filling : G → ℕ
  pub chain : IsChain p K (k + 1) filling
  pub fills : IsBoundaryOf p K z filling

-- z differs by a null chain, the boundary of filling, from the combination of the first n chains of
-- zs with the coefficients x
pub record IsSpanned {G : Type 0} (p : ℕ) (K : System G) (k n : ℕ) (zs : ℕ → G → ℕ)
    (z : G → ℕ) : Type 0 where
  pub x : ℕ → ℕ
  pub filling : G → ℕ
  pub chain : IsChain p K (k + 1) filling
  pub differs : (g : G) → K.on g ≡ true → Same p (z g) (combination n x zs g + K.boundary filling g)

-- the first n chains of zs are a basis of the homology in degree k: cycles, of which a combination
-- is null only where each of its coefficients is 0, and from some combination of which each cycle
-- of degree k differs by a null chain
pub record IsBasis {G : Type 0} (p : ℕ) (K : System G) (k n : ℕ) (zs : ℕ → G → ℕ) : Type 0 where
  pub cycles : (i : ℕ) → i < n → IsCycle p K k (zs i)
  pub independent : (x : ℕ → ℕ) → IsNull p K k (combination n x zs) → (i : ℕ) → i < n
      → Same p (x i) 0
  pub spanning : (z : G → ℕ) → IsCycle p K k z → IsSpanned p K k n zs z

-- what makes the boundary one of a graded complex: it is linear, and at a generator g it is made of
-- the coefficients of generators of one degree more than g alone
pub record IsBoundaryOperator {G : Type 0} (p : ℕ) (K : System G) : Type 0 where
  pub linear : (n : ℕ) (x : ℕ → ℕ) (cs : ℕ → G → ℕ) (g : G) → K.on g ≡ true
      → Same p (K.boundary (combination n x cs) g) (total n (λ i. x i * K.boundary (cs i) g))
  pub lowers : (c d : G → ℕ) (g : G) → K.on g ≡ true
      → ((h : G) → K.on h ≡ true → K.degree h ≡ K.degree g + 1 → Same p (c h) (d h))
      → Same p (K.boundary c g) (K.boundary d g)
