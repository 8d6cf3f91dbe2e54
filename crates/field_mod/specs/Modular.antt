-- Numbers modulo p: equality, being no multiple of p, negatives, and what makes p the modulus of a
-- field. Numbers are not reduced: a sum or a product modulo p is the plain one, and p enters where
-- two of them are compared.
use Rattle.std.specs.Prelude.{◌≡◌, ℕ, ◌*◌, ◌-◌, ◌%◌, ◌≤◌}

-- a and b are the same number modulo p
pub record Same (p a b : ℕ) : Type 0 where
  pub same : a % p ≡ b % p

-- a is not 0 modulo p
abbrev pub NonZero : ℕ → ℕ → Type 0
NonZero p a = Same p a 0 → ⊥

-- -x modulo p
abbrev pub minus : ℕ → ℕ → ℕ
minus p x = (p - 1) * x

-- the numbers modulo p are a field: 1 is not 0, and each number that is not 0 has an inverse
pub record IsField (p : ℕ) : Type 0 where
  pub above_one : 2 ≤ p
  pub inverse : (a : ℕ) → NonZero p a → (b : ℕ) × Same p (b * a) 1
