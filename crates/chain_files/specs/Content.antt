-- What a chain file says.
use Rattle.std.specs.Prelude.{ℕ, List, [], map, Bool, false}

-- The boundary of a generator as a file gives it: whether it stands in the file, and its terms in
-- order, each the number of a generator and a coefficient modulo p.
pub record Boundary : Type 0 where
  pub given : Bool
  pub terms : List (ℕ × ℕ)

abbrev pub not_given : Boundary
not_given = record { given = false; terms = [] }

-- The greatest degree, the degree of each generator, and its boundary. Generators are numbered from
-- 0, degree by degree, and in a degree as in the file.
pub record Content : Type 0 where
  pub top : ℕ
  pub degrees : List ℕ
  pub boundaries : List Boundary

-- The terms of the boundaries, for each generator.
abbrev pub terms_of : List Boundary → List (List (ℕ × ℕ))
terms_of boundaries = map (λ b. b.terms) boundaries
