-- The witness of a pair: its section, and the last line.
use Rattle.std.specs.Prelude.{◌≡◌, ℕ, ◌⊎◌, List, [], ◌∷◌, None, codes}
use Rattle.cube_sets.specs.Sets.{Members}
use Rattle.witness_laws.specs.Inputs.{Given}
use Rattle.witness_types.specs.Inputs.{first_known}
use Rattle.witness_types.specs.declared.part.PairPart.{PairPart}
use Rattle.witness_runs.specs.declared.miss.Stop.{Stop}
use Rattle.section_reading.specs.Section.{HasSection, StopsSection}
use Rattle.witness_reading.specs.Kinds.{pair_table, pair_numbers, pair_wanted}
use Rattle.witness_reading.specs.Ends.{StopsEnd}

-- what a pair of sets is to the laws
abbrev pub pair_given : Members → Members → Given
pair_given x a = record {
  top = first_known (x.dimension ∷ a.dimension ∷ []);
  x = x.cells;
  a = a.cells;
  target = None;
}

-- the section of the domain stands at the front
abbrev pub HasDomain : ℕ → Given → List ℕ → List (ℕ × List (ℕ × ℕ)) → List (List (ℕ × ℕ))
    → List (List (ℕ × ℕ)) → List ℕ → Type 0
HasDomain p G bytes cycles cocycles homotopy rest =
    HasSection p (codes "pair domain\n") G.top (pair_table G.x G.a) (pair_numbers G.x G.a)
    (pair_wanted G.x G.a) bytes cycles cocycles homotopy rest

-- it is all that stands there, but for the last line
pub record IsWhole {p : ℕ} (G : Given) (bytes : List ℕ) (part : PairPart p) : Type 0 where
  pub rest : List ℕ
  pub section : HasDomain p G bytes part.cycles.items part.cocycles.items part.homotopy.items rest
  pub over : rest ≡ codes "end\n"

-- behind it the text does not end as it should
pub record StopsBehind (p : ℕ) (G : Given) (bytes : List ℕ) (stop : Stop) : Type 0 where
  pub cycles : List (ℕ × List (ℕ × ℕ))
  pub cocycles : List (List (ℕ × ℕ))
  pub homotopy : List (List (ℕ × ℕ))
  pub rest : List ℕ
  pub section : HasDomain p G bytes cycles cocycles homotopy rest
  pub here : StopsEnd rest stop

abbrev pub StopsWhole : ℕ → Given → List ℕ → Stop → Type 0
StopsWhole p G bytes stop =
    StopsSection p (codes "pair domain\n") G.top (pair_table G.x G.a) (pair_numbers G.x G.a)
    (pair_wanted G.x G.a) bytes stop ⊎ StopsBehind p G bytes stop
