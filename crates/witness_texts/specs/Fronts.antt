-- What stands in front of a text, and does not.
use Rattle.std.specs.Prelude.{◌≡◌, ◌≢◌, ℕ, List, ◌++◌, IsTrue, ◌==◌}
use Rattle.std.specs.List.{list_any}
use Rattle.witness_types.specs.declared.heading.ClaimKind.{ClaimKind}
use Rattle.witness_types.specs.Headers.{modulus_line, kind_line}

abbrev pub BeginsWith : List ℕ → List ℕ → Type 0
BeginsWith bytes front = (rest : List ℕ) × (bytes ≡ front ++ rest)

abbrev pub BeginsOtherwise : List ℕ → List ℕ → Type 0
BeginsOtherwise bytes front = (rest : List ℕ) → bytes ≢ front ++ rest

-- the line of none of these moduli stands in front
abbrev pub NamesNone : List ℕ → List ℕ → Type 0
NamesNone bytes ps =
    (p : ℕ) → IsTrue (list_any (λ q. q == p) ps) → BeginsOtherwise bytes (modulus_line p)

-- that of p, which is one of them, with the rest behind it
pub record IsNamed (bytes ps : List ℕ) (p : ℕ) (rest : List ℕ) : Type 0 where
  pub listed : IsTrue (list_any (λ q. q == p) ps)
  pub split : bytes ≡ modulus_line p ++ rest

-- no line on a claim stands in front
abbrev pub ClaimsNothing : List ℕ → Type 0
ClaimsNothing bytes = (kind : ClaimKind) → BeginsOtherwise bytes (kind_line kind)
