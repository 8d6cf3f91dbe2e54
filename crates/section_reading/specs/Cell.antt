-- The lines of one cell of the domain of a map: a vertex, a chain for each cell of its value, and
-- its image.
use Rattle.std.specs.Prelude.{◌≡◌, ℕ, ◌⊎◌, List, [], ◌∷◌, length, codes, Some}
use Rattle.witness_runs.specs.declared.miss.Miss.{Miss}
use Rattle.witness_runs.specs.declared.miss.Stop.{Stop}
use Rattle.witness_runs.specs.Misses.{stop_at}
use Rattle.witness_runs.specs.Due.{IsDueChain, MissesChain, IsDueVertex, MissesVertex}
use Rattle.witness_runs.specs.Runs.{HasRun, NameKinds, StopsRun}

-- the vertex and the chains of the value stand at the front
pub record HasValue (p number : ℕ) (value numbers wanted bytes : List ℕ) (vertex : ℕ)
    (contraction : List (List (ℕ × ℕ))) (rest : List ℕ) : Type 0 where
  pub behind : List ℕ
  pub first : IsDueVertex number value 1 bytes vertex behind
  pub second : HasRun p (codes "g") (Some number) numbers (length numbers) behind contraction rest
  pub names : NameKinds value wanted contraction (length numbers)

-- and the image behind them
pub record HasCell (p number : ℕ) (value numbers wanted range : List ℕ) (kind : ℕ) (bytes : List ℕ)
    (vertex : ℕ) (contraction : List (List (ℕ × ℕ))) (image : List (ℕ × ℕ)) (rest : List ℕ)
    : Type 0 where
  pub last : List ℕ
  pub before : HasValue p number value numbers wanted bytes vertex contraction last
  pub third : IsDueChain p (codes "f") (number ∷ []) range kind last image rest

-- the line of the vertex fails
pub record StopsAtVertex (number : ℕ) (value bytes : List ℕ) (stop : Stop) : Type 0 where
  pub miss : Miss
  pub here : MissesVertex number value 1 bytes miss
  pub stop_is : stop ≡ stop_at (length bytes) miss

-- the chain of a cell of the value fails
pub record StopsInValue (p number : ℕ) (value numbers wanted bytes : List ℕ) (stop : Stop) : Type 0
  where
    pub vertex : ℕ
    pub behind : List ℕ
    pub first : IsDueVertex number value 1 bytes vertex behind
    pub here : StopsRun p (codes "g") (Some number) numbers value wanted behind stop

-- the image fails
pub record StopsAtImage (p number : ℕ) (value numbers wanted range : List ℕ) (kind : ℕ)
    (bytes : List ℕ) (stop : Stop) : Type 0 where
  pub vertex : ℕ
  pub contraction : List (List (ℕ × ℕ))
  pub last : List ℕ
  pub before : HasValue p number value numbers wanted bytes vertex contraction last
  pub miss : Miss
  pub here : MissesChain p (codes "f") (number ∷ []) range kind last miss
  pub stop_is : stop ≡ stop_at (length last) miss

abbrev pub StopsCell : ℕ → ℕ → List ℕ → List ℕ → List ℕ → List ℕ → ℕ → List ℕ → Stop → Type 0
StopsCell p number value numbers wanted range kind bytes stop =
    StopsAtVertex number value bytes stop
    ⊎ (StopsInValue p number value numbers wanted bytes stop
    ⊎ StopsAtImage p number value numbers wanted range kind bytes stop)
