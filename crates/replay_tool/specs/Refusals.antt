-- What refuses a witness file: too many cells, sets that the map does not fit, too large values, and
-- then the laws.
use Rattle.std.specs.Prelude.{◌≡◌, ◌<◌, ◌≤◌, ◌⊎◌, ℕ, List}
use Rattle.map_checks.specs.Faults.{HasNoSetFault}
use Rattle.faults.specs.declared.fault.Fault.{Fault}
use Rattle.faults.specs.declared.fault.Fault.TheVariants.{Limit, Undefined, LeavesRange, LeavesSubset, LawFails}
use Rattle.faults.specs.declared.limit_name.LimitName.TheVariants.{WitnessCells, CarrierSize}
use Rattle.faults.specs.declared.law.Law.{Law}
use Rattle.faults.specs.declared.law.Law.TheVariants as told
use Rattle.witness_laws.specs.declared.law.Law.{Law as WitnessLaw}
use Rattle.witness_laws.specs.declared.law.Law.TheVariants as laws
use Rattle.witness_laws.specs.declared.law.WitnessFault.TheVariants.{At}
use Rattle.witness_laws.specs.Inputs.{Given}
use Rattle.witness_laws.specs.Tables.{tables_format}
use Rattle.witness_types.specs.Answers.{IsFault}
use Rattle.witness_limits.specs.Limits.{most_witness_cells, most_carried, carrier_size, HasTooMany, HasFew}
use Rattle.pair_maps.specs.declared.inputs.PairMap.{PairMap}
use Rattle.pair_maps.specs.Refusals.{RefusesMapOf}
use Rattle.replay_tool.specs.declared.inputs.Subject.{Subject}
use Rattle.replay_tool.specs.declared.inputs.Subject.TheVariants as subjects
use Rattle.replay_tool.specs.Inputs.{Testimony, given_of}

-- ---- the map and its sets

-- a cube without a value, or with one outside the range, or a cube of the domain's subset with one
-- outside the range's subset: the first one, as for maps whose values are wanted
abbrev pub RefusesSets : PairMap → Fault → Type 0
RefusesSets m (Undefined cube) = RefusesMapOf 2 m (Undefined cube)
RefusesSets m (LeavesRange cube value) = RefusesMapOf 2 m (LeavesRange cube value)
RefusesSets m (LeavesSubset cube value) = RefusesMapOf 2 m (LeavesSubset cube value)
RefusesSets m fault = ⊥

abbrev pub RefusesSubject : Subject → Fault → Type 0
RefusesSubject (subjects.Pair sets) fault = ⊥
RefusesSubject (subjects.Map m) fault = RefusesSets m fault

abbrev pub IsSound : Subject → Type 0
IsSound (subjects.Pair sets) = Unit {0}
IsSound (subjects.Map m) =
    HasNoSetFault m.map.named m.x.cells m.a.cells m.y.cells m.b.cells

-- ---- the laws

-- a law by the name that is told
abbrev pub told_law : WitnessLaw → Law
told_law laws.Text = told.Text
told_law laws.Header = told.Header
told_law laws.Cell = told.Cell
told_law laws.Cycle = told.Cycle
told_law laws.Dual = told.Dual
told_law laws.Cocycle = told.Cocycle
told_law laws.Contraction = told.Contraction
told_law laws.ValueContraction = told.ValueContraction
told_law laws.Carried = told.Carried
told_law laws.Augmentation = told.Augmentation
told_law laws.Commutes = told.Commutes
told_law laws.Matrix = told.Matrix

-- the first line that fails, and the law by which it does
pub record FailsBy (name : List ℕ) (p : ℕ) (G : Given) (bytes : List ℕ) (fault : Fault)
    : Type 0 where
  pub line : ℕ
  pub law : WitnessLaw
  pub first : IsFault (tables_format p G) bytes (At line law)
  pub is : fault ≡ LawFails name line (told_law law)

-- ---- all of them, in order

-- the limits are kept, and the map fits its sets
pub record IsReady (subject : Subject) : Type 0 where
  pub sound : IsSound subject
  pub few : HasFew (given_of subject)
  pub size : carrier_size (given_of subject) ≤ most_carried

abbrev pub RefusesReading : Subject → Fault → Type 0
RefusesReading subject fault =
    (HasTooMany (given_of subject) × (fault ≡ Limit WitnessCells most_witness_cells))
    ⊎ (HasFew (given_of subject) × RefusesSubject subject fault)
    ⊎ (HasFew (given_of subject) × IsSound subject
    × (most_carried < carrier_size (given_of subject)) × (fault ≡ Limit CarrierSize most_carried))

abbrev pub RefusesTestimony : List ℕ → Testimony → Fault → Type 0
RefusesTestimony name t fault = RefusesReading t.subject fault
    ⊎ (IsReady t.subject × FailsBy name t.modulus (given_of t.subject) t.bytes fault)
