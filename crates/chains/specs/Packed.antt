-- Terms as a chain keeps them: coefficients and generators apart, or a list elsewhere.
use Rattle.std.specs.Prelude.{ℕ, ◌≤◌, List, [], ◌∷◌, take, slice_index, slice_index_or}
use Rattle.chains.specs.Terms.{IsNormal}
use Rattle.chains.specs.declared.packed.Packed.{Packed}
use Rattle.chains.specs.declared.packed.Packed.TheVariants.{Few, Many}
use Rattle.chains.specs.declared.packed.Opened.{Opened}
use Rattle.chains.specs.declared.packed.Opened.TheVariants.{InPlace, Elsewhere}

-- four terms, of their coefficients and their generators
abbrev pub paired : List ℕ → List ℕ → List (ℕ × ℕ)
paired numbers generators =
    (slice_index generators 0, slice_index numbers 0) ∷
    (slice_index generators 1, slice_index numbers 1)
    ∷ (slice_index generators 2, slice_index numbers 2) ∷
    (slice_index generators 3, slice_index numbers 3) ∷ []

-- the terms that are kept
abbrev pub kept : Packed → List (ℕ × ℕ)
kept (Few len numbers generators) = take len (paired numbers generators)
kept (Many terms) = terms.value.items

-- no more than four terms stand in place
abbrev pub IsFew : Packed → Type 0
IsFew (Few len numbers generators) = len ≤ 4
IsFew (Many terms) = Unit {0}

-- the terms of an open chain
abbrev pub opened : Opened → List (ℕ × ℕ)
opened (InPlace len terms) = take len terms
opened (Elsewhere terms) = terms.now

abbrev pub IsOpenedFew : Opened → Type 0
IsOpenedFew (InPlace len terms) = len ≤ 4
IsOpenedFew (Elsewhere terms) = Unit {0}

-- the coefficient and the generator at a place of a list, 0 and 0 past its end
abbrev pub entry : List (ℕ × ℕ) → ℕ → ℕ × ℕ
entry ts i = ((slice_index_or ts i (0, 0)).1, (slice_index_or ts i (0, 0)).0)

-- what holds of the terms that a chain modulo p keeps
pub record IsPacked (p : ℕ) (k : Packed) : Type 0 where
  pub few : IsFew k
  pub normal : IsNormal p (kept k)
