-- Laws of homology modulo a prime. Each is stated for generators that are numbers; the lemmas
-- behind them hold for any kind.
use Rattle.std.specs.Prelude.{◌≡◌, ℕ, List, length}
use Rattle.field_mod.specs.Modular.{IsField}
use Rattle.chains.specs.Homology.{System, IsBoundaryOperator, IsChain, IsBoundaryOf, IsNull, IsCycle, IsBasis}
use Rattle.chains.specs.ChainComplex.{ChainComplex, IsComplex, IsBasisOf, system}

-- the boundary of a numbered complex is linear and lowers degrees by one
abbrev pub BoundariesAreOperators : Type 0
BoundariesAreOperators =
    (p : ℕ) (K : ChainComplex) → IsComplex p K → IsBoundaryOperator p (system K)

-- two bases of the homology of one complex in one degree have the same length
abbrev pub BasesHaveOneLength : Type 0
BasesHaveOneLength =
    (p k m n : ℕ) (K : System ℕ) (zs ws : ℕ → ℕ → ℕ)
    → IsField p → IsBoundaryOperator p K → IsBasis p K k m zs → IsBasis p K k n ws → m ≡ n

-- the same for lists of chains of a numbered complex
abbrev pub NumberedBasesHaveOneLength : Type 0
NumberedBasesHaveOneLength =
    (p k : ℕ) (K : ChainComplex) (zs ws : List (List (ℕ × ℕ)))
    → IsField p → IsComplex p K → IsBasisOf p K k zs → IsBasisOf p K k ws → length zs ≡ length ws

-- a chain of degree k that is the boundary of anything is the boundary of a chain of degree k + 1
-- of the complex
abbrev pub FillingsAreOfNextDegree : Type 0
FillingsAreOfNextDegree =
    (p k : ℕ) (K : System ℕ) (z c : ℕ → ℕ)
    → IsBoundaryOperator p K → IsChain p K k z → IsBoundaryOf p K z c → IsNull p K k z

-- a null chain of degree k of a numbered complex is a cycle: the boundary of a boundary is 0
abbrev pub NullChainsAreCycles : Type 0
NullChainsAreCycles =
    (p k : ℕ) (K : ChainComplex) (z : ℕ → ℕ)
    → IsComplex p K → IsChain p (system K) k z → IsNull p (system K) k z → IsCycle p (system K) k z
