-- Combinations of listed chains.
use Rattle.std.specs.Prelude.{ℕ, List}
use Rattle.field_mod.specs.Modular.{Same}
use Rattle.chains.specs.Terms.{coefficient, nth_chain}
use Rattle.chains.specs.Homology.{combination}

-- the chain ts is the combination of the first n of the zs by the numbers x
abbrev pub IsCombination : ℕ → (ℕ → ℕ) → List (List (ℕ × ℕ)) → ℕ → List (ℕ × ℕ) → Type 0
IsCombination p x zs n ts = (g : ℕ) → Same p (coefficient ts g) (combination n x (nth_chain zs) g)
