-- The section of a pair: a first line, cycles, cocycles, and a chain for each relative cell.
use Rattle.std.specs.Prelude.{◌≡◌, ℕ, ◌+◌, ◌⊎◌, List, ◌++◌, length, map, codes, None}
use Rattle.witness_laws.specs.declared.law.Law.TheVariants as laws
use Rattle.witness_scanning.specs.Fronts.{BeginsOtherwise}
use Rattle.witness_runs.specs.declared.miss.Stop.{Stop}
use Rattle.witness_runs.specs.declared.miss.Stop.TheVariants as stops
use Rattle.witness_runs.specs.Cycles.{AreCyclesAt, StopsCycles}
use Rattle.witness_runs.specs.Runs.{HasRun, NameKinds, StopsRun}

-- the degrees of cycles, and the kinds of the cells of their degrees
abbrev pub degrees_of : List (ℕ × List (ℕ × ℕ)) → List ℕ
degrees_of zs = map (λ z. z.0) zs

abbrev pub kinds_of : List (ℕ × List (ℕ × ℕ)) → List ℕ
kinds_of zs = map (λ z. z.0 + 1) zs

-- the cocycles of these cycles stand at the front
pub record HasCocycles (p : ℕ) (kinds bytes : List ℕ) (cycles : List (ℕ × List (ℕ × ℕ)))
    (cocycles : List (List (ℕ × ℕ))) (rest : List ℕ) : Type 0 where
  pub run : HasRun p (codes "c") None (degrees_of cycles) (length (degrees_of cycles)) bytes
      cocycles rest
  pub names : NameKinds kinds (kinds_of cycles) cocycles (length (degrees_of cycles))

-- cycles, their cocycles and the chains of the cells of these numbers stand at the front
pub record HasPair (p top : ℕ) (kinds numbers wanted bytes : List ℕ)
    (cycles : List (ℕ × List (ℕ × ℕ))) (cocycles homotopy : List (List (ℕ × ℕ)))
    (rest : List ℕ) : Type 0 where
  pub behind : List ℕ
  pub last : List ℕ
  pub first : AreCyclesAt p top kinds bytes cycles behind
  pub second : HasCocycles p kinds behind cycles cocycles last
  pub third : HasRun p (codes "h") None numbers (length numbers) last homotopy rest
  pub names : NameKinds kinds wanted homotopy (length numbers)

-- the first cocycle that fails, behind the cycles
pub record StopsInCocycles (p top : ℕ) (kinds bytes : List ℕ) (stop : Stop) : Type 0 where
  pub cycles : List (ℕ × List (ℕ × ℕ))
  pub behind : List ℕ
  pub first : AreCyclesAt p top kinds bytes cycles behind
  pub here : StopsRun p (codes "c") None (degrees_of cycles) kinds (kinds_of cycles) behind stop

-- the first chain of a relative cell that fails, behind the cocycles
pub record StopsInChains (p top : ℕ) (kinds numbers wanted bytes : List ℕ) (stop : Stop) : Type 0
  where
    pub cycles : List (ℕ × List (ℕ × ℕ))
    pub cocycles : List (List (ℕ × ℕ))
    pub behind : List ℕ
    pub last : List ℕ
    pub first : AreCyclesAt p top kinds bytes cycles behind
    pub second : HasCocycles p kinds behind cycles cocycles last
    pub here : StopsRun p (codes "h") None numbers kinds wanted last stop

abbrev pub StopsPair : ℕ → ℕ → List ℕ → List ℕ → List ℕ → List ℕ → Stop → Type 0
StopsPair p top kinds numbers wanted bytes stop = StopsCycles p top kinds bytes stop
    ⊎ (StopsInCocycles p top kinds bytes stop
    ⊎ (StopsInChains p top kinds numbers wanted bytes stop ⊎ (stop ≡ stops.NoMemory)))

-- the section stands at the front, behind its first line
pub record HasSection (p : ℕ) (head : List ℕ) (top : ℕ) (kinds numbers wanted bytes : List ℕ)
    (cycles : List (ℕ × List (ℕ × ℕ))) (cocycles homotopy : List (List (ℕ × ℕ)))
    (rest : List ℕ) : Type 0 where
  pub behind_head : List ℕ
  pub split : bytes ≡ head ++ behind_head
  pub pair : HasPair p top kinds numbers wanted behind_head cycles cocycles homotopy rest

-- its first line does not stand at the front
pub record StopsAtHead (head bytes : List ℕ) (stop : Stop) : Type 0 where
  pub left_is : stop ≡ stops.At (length bytes) laws.Text
  pub here : BeginsOtherwise bytes head

-- or a line behind it fails
pub record StopsBehindHead (p : ℕ) (head : List ℕ) (top : ℕ) (kinds numbers wanted bytes : List ℕ)
    (stop : Stop) : Type 0 where
  pub behind_head : List ℕ
  pub split : bytes ≡ head ++ behind_head
  pub here : StopsPair p top kinds numbers wanted behind_head stop

abbrev pub StopsSection : ℕ → List ℕ → ℕ → List ℕ → List ℕ → List ℕ → List ℕ → Stop → Type 0
StopsSection p head top kinds numbers wanted bytes stop = StopsAtHead head bytes stop
    ⊎ StopsBehindHead p head top kinds numbers wanted bytes stop
