-- Chains of cells by the numbers of a witness file, which count from 1.
use Rattle.std.specs.Prelude.{◌≡◌, ℕ, ◌+◌, ◌<◌, List, ◌++◌, length, map}
use Rattle.field_mod.specs.Modular.{Same, NonZero}
use Rattle.elem_cubes.specs.Cells.{Factor}
use Rattle.witness_laws.specs.Lines.{each}
use Rattle.witness_laws.specs.Parts.{AreTerms, NameCells, chain_of, nth}

-- the terms are the chain c of these cells: they name cells where it is not 0, and have its
-- coefficients
pub record IsFiled (p : ℕ) (all : List (List Factor)) (c : List Factor → ℕ) (ts : List (ℕ × ℕ))
    : Type 0 where
  pub terms : AreTerms p 0 ts
  pub names : NameCells all (λ q. NonZero p (c q)) ts
  pub same : (q : List Factor) → Same p (chain_of all ts q) (c q)

-- the i-th list is the chain cs i, for each i below n
pub record AreFiled (p : ℕ) (all : List (List Factor)) (n : ℕ) (cs : ℕ → List Factor → ℕ)
    (zs : List (List (ℕ × ℕ))) : Type 0 where
  pub count : length zs ≡ n
  pub at : (i : ℕ) → i < n → IsFiled p all (cs i) (nth zs i)

-- the terms with each number one more
abbrev pub from_one : List (ℕ × ℕ) → List (ℕ × ℕ)
from_one ts = map (λ t. (t.0 + 1, t.1)) ts

-- chains of these cells were put behind others: n of them, which are cs; with their degree, and
-- alone
pub record AddsCycles (p : ℕ) (all : List (List Factor)) (k n : ℕ) (cs : ℕ → List Factor → ℕ)
    (old new : List (ℕ × List (ℕ × ℕ))) : Type 0 where
  pub chains : List (List (ℕ × ℕ))
  pub added : new ≡ old ++ map (λ z. (k, z)) chains
  pub filed : AreFiled p all n cs chains

pub record AddsChains (p : ℕ) (all : List (List Factor)) (n : ℕ) (cs : ℕ → List Factor → ℕ)
    (old new : List (List (ℕ × ℕ))) : Type 0 where
  pub chains : List (List (ℕ × ℕ))
  pub added : new ≡ old ++ chains
  pub filed : AreFiled p all n cs chains

-- the list has the chains of the degrees below n, degree by degree: with their degrees, and alone
pub record HasCycles (p : ℕ) (all : List (List Factor)) (n : ℕ) (size : ℕ → ℕ)
    (cs : ℕ → ℕ → List Factor → ℕ) (zs : List (ℕ × List (ℕ × ℕ))) : Type 0 where
  pub groups : ℕ → List (List (ℕ × ℕ))
  pub made : zs ≡ each n (λ k. map (λ z. (k, z)) (groups k))
  pub at : (k : ℕ) → k < n → AreFiled p all (size k) (cs k) (groups k)

pub record HasChains (p : ℕ) (all : List (List Factor)) (n : ℕ) (size : ℕ → ℕ)
    (cs : ℕ → ℕ → List Factor → ℕ) (zs : List (List (ℕ × ℕ))) : Type 0 where
  pub groups : ℕ → List (List (ℕ × ℕ))
  pub made : zs ≡ each n groups
  pub at : (k : ℕ) → k < n → AreFiled p all (size k) (cs k) (groups k)
