-- Finite sums of numbers, and the two laws that all of the algebra above rests on.
use Rattle.std.specs.Prelude.{◌≡◌, ℕ, zero, suc, ◌+◌, ◌*◌}

-- f 0 + f 1 + .. + f (n - 1)
abbrev pub total : ℕ → (ℕ → ℕ) → ℕ
total zero f = 0
total (suc n) f = f 0 + total n (λ i. f (suc i))

-- the sum of a combination is the combination of the sums
abbrev pub SumsAreLinear : Type 0
SumsAreLinear = (n a b : ℕ) (f g : ℕ → ℕ)
    → total n (λ i. a * f i + b * g i) ≡ a * total n f + b * total n g

-- a double sum may be taken in either order
abbrev pub SumsChangeOrder : Type 0
SumsChangeOrder = (n m : ℕ) (f : ℕ → ℕ → ℕ) → total n (λ i. total m (λ j. f i j))
    ≡ total m (λ j. total n (λ i. f i j))
