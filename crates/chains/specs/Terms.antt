-- Chains with finitely many terms, as lists: the coefficient of a generator, the augmentation, the
-- product of two chains, and the normal form in which a chain is kept. (Kaczynski, Mischaikow,
-- Mrozek: Computational Homology, Springer 2004, sections 2.2.1 and 3.1)
use Rattle.std.specs.Prelude.{ℕ, zero, suc, ◌++◌, ◌+◌, ◌*◌, ◌<◌, ◌≤◌, ◌^◌, List, [], ◌∷◌, if◌then◌else◌, ◌==◌, slice_index_or}

-- the coefficient of the generator g in a list of terms: the sum of the numbers that stand beside g
abbrev pub coefficient : List (ℕ × ℕ) → ℕ → ℕ
coefficient [] g = 0
coefficient (t ∷ ts) g = (if t.0 == g then t.1 else 0) + coefficient ts g

-- the i-th chain of a list of chains, by its coefficients; the empty chain past the end
abbrev pub nth_chain : List (List (ℕ × ℕ)) → ℕ → ℕ → ℕ
nth_chain cs i g = coefficient (slice_index_or cs i []) g

-- the augmentation of a 0-chain: the sum of its coefficients
abbrev pub augmentation : {G : Type 0} → List (G × ℕ) → ℕ
augmentation [] = 0
augmentation (t ∷ ts) = t.1 + augmentation ts

-- the product of two chains: the sum of the products of their coefficients
abbrev pub product : List (ℕ × ℕ) → List (ℕ × ℕ) → ℕ
product [] us = 0
product (t ∷ ts) us = t.1 * coefficient us t.0 + product ts us

-- the generators ascend strictly, from low on and below high, and each number is one of 1 .. p - 1
abbrev pub IsNormalWithin : ℕ → ℕ → ℕ → List (ℕ × ℕ) → Type 0
IsNormalWithin p low high [] = low ≤ high
IsNormalWithin p low high (t ∷ ts) =
    (low ≤ t.0) × (0 < t.1) × (t.1 < p) × IsNormalWithin p (t.0 + 1) high ts

-- the normal form of a chain modulo p: each generator that has a coefficient stands once, in
-- ascending order, below 2^32
abbrev pub IsNormal : ℕ → List (ℕ × ℕ) → Type 0
IsNormal p ts = IsNormalWithin p 0 (2 ^ 32) ts

-- ts with one more term at its end, but for a number that is 0
abbrev pub push_term : List (ℕ × ℕ) → ℕ → ℕ → List (ℕ × ℕ)
push_term ts g zero = ts
push_term ts g (suc n) = ts ++ (g, suc n) ∷ []
