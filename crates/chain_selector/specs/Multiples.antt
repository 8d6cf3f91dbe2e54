-- Multiples of chains.
use Rattle.std.specs.Prelude.{◌≡◌, ℕ, ◌+◌, ◌*◌, ◌≤◌, List}
use Rattle.field_mod.specs.Modular.{Same}
use Rattle.chains.specs.Terms.{coefficient}

-- the chain ts names no number from n on
abbrev pub NamesBelow : ℕ → List (ℕ × ℕ) → Type 0
NamesBelow n ts = (g : ℕ) → n ≤ g → coefficient ts g ≡ 0

-- the terms became those with a number times the chain ts
abbrev pub AddsMultiple : ℕ → ℕ → List (ℕ × ℕ) → List (ℕ × ℕ) → List (ℕ × ℕ) → Type 0
AddsMultiple p scale ts old new =
    (g : ℕ) → Same p (coefficient new g) (coefficient old g + scale * coefficient ts g)
