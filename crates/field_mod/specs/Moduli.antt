-- The table of moduli.
use Rattle.std.specs.Prelude.{ℕ, List, [], ◌∷◌, IsTrue, ◌==◌}
use Rattle.std.specs.List.{list_any}
use Rattle.field_mod.specs.Modular.{IsField}

-- the primes over which homology is computed
abbrev pub moduli : List ℕ
moduli = 2 ∷ 3 ∷ 5 ∷ 7 ∷ 11 ∷ 13 ∷ 17 ∷ 19 ∷ 23 ∷ 29 ∷ 31 ∷ 37 ∷ 41 ∷ 43 ∷ 47 ∷ []

-- p is one of them
abbrev pub IsModulus : ℕ → Type 0
IsModulus p = IsTrue (list_any (λ q. q == p) moduli)

-- each modulus of the table is a prime
abbrev pub ModuliAreFields : Type 0
ModuliAreFields = (p : ℕ) → IsModulus p → IsField p
