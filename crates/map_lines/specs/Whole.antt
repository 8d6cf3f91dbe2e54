-- The witness of a map behind its header: two sections, values, matrices, and the last line.
use Rattle.std.specs.Prelude.{◌≡◌, ℕ, ◌⊎◌, List, [], ◌∷◌, ◌++◌, map, length, codes, Some}
use Rattle.cube_maps.specs.CubeMaps.{Naming, Mapping}
use Rattle.cube_sets.specs.Sets.{Members}
use Rattle.elem_cubes.specs.Cells.{Factor}
use Rattle.leray_conley.specs.Tables.{Table}
use Rattle.map_checks.specs.Faults.{together}
use Rattle.witness_laws.specs.declared.law.Law.TheVariants as laws
use Rattle.witness_laws.specs.Inputs.{Given, target_of}
use Rattle.witness_scanning.specs.Fronts.{BeginsOtherwise}
use Rattle.witness_runs.specs.declared.miss.Stop.{Stop}
use Rattle.witness_runs.specs.declared.miss.Stop.TheVariants as stops
use Rattle.section_reading.specs.Section.{HasSection, StopsSection}
use Rattle.witness_types.specs.Inputs.{first_known}
use Rattle.witness_types.specs.declared.part.PairPart.{PairPart}
use Rattle.witness_reading.specs.Kinds.{pair_table, pair_numbers, pair_wanted}
use Rattle.witness_reading.specs.Ends.{StopsEnd}
use Rattle.read_parts.specs.declared.parts.ReadMap.{ReadMap}
use Rattle.map_lines.specs.Cells.{HasAllCells, StopsInCells}
use Rattle.map_lines.specs.Matrices.{size_in, HasAllMatrices, StopsInMatrices}

-- what a map of sets is to the laws
abbrev pub map_given : Mapping → Members → Members → Members → Members → Given
map_given f x a y b = record {
  top = first_known (f.dimension ∷ x.dimension ∷ a.dimension ∷ y.dimension ∷ b.dimension ∷ []);
  x = x.cells;
  a = a.cells;
  target = Some (record { map = f.named; y = y.cells; b = b.cells });
}

-- the line does not stand at the front
pub record LacksLine (line bytes : List ℕ) (stop : Stop) : Type 0 where
  pub left_is : stop ≡ stops.At (length bytes) laws.Text
  pub here : BeginsOtherwise bytes line

-- ---- the values, behind their first line

pub record HasValues (p : ℕ) (f : List Naming) (domain range : List (List Factor))
    (bytes vertices : List ℕ) (fillings : List (List (List (ℕ × ℕ))))
    (images : List (List (ℕ × ℕ))) (rest : List ℕ) : Type 0 where
  pub behind : List ℕ
  pub split : bytes ≡ codes "values\n" ++ behind
  pub cells : HasAllCells p f domain range behind vertices fillings images rest

pub record StopsBehindValues (p : ℕ) (f : List Naming) (domain range : List (List Factor))
    (bytes : List ℕ) (stop : Stop) : Type 0 where
  pub behind : List ℕ
  pub split : bytes ≡ codes "values\n" ++ behind
  pub here : StopsInCells p f domain range behind stop

abbrev pub StopsValues : ℕ → List Naming → List (List Factor) → List (List Factor) → List ℕ → Stop
    → Type 0
StopsValues p f domain range bytes stop = LacksLine (codes "values\n") bytes stop
    ⊎ StopsBehindValues p f domain range bytes stop

-- ---- the matrices, behind their first line, and the last line

pub record HasEnd (p top : ℕ) (height width : ℕ → ℕ) (bytes : List ℕ) (ts : List Table)
    : Type 0 where
  pub behind : List ℕ
  pub split : bytes ≡ codes "matrix\n" ++ behind
  pub matrices : HasAllMatrices p top height width behind ts (codes "end\n")

pub record StopsBehindMatrix (p top : ℕ) (height width : ℕ → ℕ) (bytes : List ℕ) (stop : Stop)
    : Type 0 where
  pub behind : List ℕ
  pub split : bytes ≡ codes "matrix\n" ++ behind
  pub here : StopsInMatrices p top height width behind stop

pub record StopsAtEnd (p top : ℕ) (height width : ℕ → ℕ) (bytes : List ℕ) (stop : Stop)
    : Type 0 where
  pub behind : List ℕ
  pub ts : List Table
  pub rest : List ℕ
  pub split : bytes ≡ codes "matrix\n" ++ behind
  pub matrices : HasAllMatrices p top height width behind ts rest
  pub here : StopsEnd rest stop

abbrev pub StopsMatrixPart : ℕ → ℕ → (ℕ → ℕ) → (ℕ → ℕ) → List ℕ → Stop → Type 0
StopsMatrixPart p top height width bytes stop = LacksLine (codes "matrix\n") bytes stop
    ⊎ (StopsBehindMatrix p top height width bytes stop
    ⊎ StopsAtEnd p top height width bytes stop)

-- ---- the sections

-- the section of the pair of x and a behind this line
abbrev pub HasPart : ℕ → ℕ → List ℕ → List (List Factor) → List (List Factor) → List ℕ
    → List (ℕ × List (ℕ × ℕ)) → List (List (ℕ × ℕ)) → List (List (ℕ × ℕ)) → List ℕ → Type 0
HasPart p top head x a bytes cycles cocycles homotopy rest =
    HasSection p head top (pair_table x a) (pair_numbers x a) (pair_wanted x a) bytes cycles
    cocycles homotopy rest

abbrev pub StopsPart : ℕ → ℕ → List ℕ → List (List Factor) → List (List Factor) → List ℕ → Stop
    → Type 0
StopsPart p top head x a bytes stop =
    StopsSection p head top (pair_table x a) (pair_numbers x a) (pair_wanted x a) bytes stop

-- both sections
pub record HasPairs (p top : ℕ) (x a y b : List (List Factor)) (bytes : List ℕ)
    (domain range : PairPart p) (rest : List ℕ) : Type 0 where
  pub middle : List ℕ
  pub first : HasPart p top (codes "pair domain\n") x a bytes domain.cycles.items
      domain.cocycles.items domain.homotopy.items middle
  pub second : HasPart p top (codes "pair range\n") y b middle
      range.cycles.items range.cocycles.items range.homotopy.items rest

pub record StopsInRange (p top : ℕ) (x a y b : List (List Factor)) (bytes : List ℕ) (stop : Stop)
    : Type 0 where
  pub domain : PairPart p
  pub middle : List ℕ
  pub first : HasPart p top (codes "pair domain\n") x a bytes domain.cycles.items
      domain.cocycles.items domain.homotopy.items middle
  pub here : StopsPart p top (codes "pair range\n") y b middle stop

abbrev pub StopsPairs : ℕ → ℕ → List (List Factor) → List (List Factor) → List (List Factor)
    → List (List Factor) → List ℕ → Stop → Type 0
StopsPairs p top x a y b bytes stop =
    StopsPart p top (codes "pair domain\n") x a bytes stop
    ⊎ StopsInRange p top x a y b bytes stop

-- ---- all of it

pub record IsWholeMap {p : ℕ} (G : Given) (bytes : List ℕ) (domain : PairPart p)
    (m : ReadMap p) : Type 0 where
  pub behind : List ℕ
  pub last : List ℕ
  pub pairs : HasPairs p G.top G.x G.a (target_of G).y (target_of G).b bytes domain m.range behind
  pub values : HasValues p (target_of G).map (together G.x G.a)
      (together (target_of G).y (target_of G).b) behind m.vertices.items
      (map (λ v. v.items) m.contractions.items) m.images.items last
  pub matrices : HasEnd p G.top (size_in m.range.cycles.items) (size_in domain.cycles.items) last
      m.rows.items

pub record StopsInValues (p : ℕ) (G : Given) (bytes : List ℕ) (stop : Stop) : Type 0 where
  pub domain : PairPart p
  pub range : PairPart p
  pub behind : List ℕ
  pub pairs : HasPairs p G.top G.x G.a (target_of G).y (target_of G).b bytes domain range behind
  pub here : StopsValues p (target_of G).map (together G.x G.a)
      (together (target_of G).y (target_of G).b) behind stop

pub record StopsBehindAll (p : ℕ) (G : Given) (bytes : List ℕ) (stop : Stop) : Type 0 where
  pub domain : PairPart p
  pub range : PairPart p
  pub behind : List ℕ
  pub pairs : HasPairs p G.top G.x G.a (target_of G).y (target_of G).b bytes domain range behind
  pub vertices : List ℕ
  pub fillings : List (List (List (ℕ × ℕ)))
  pub images : List (List (ℕ × ℕ))
  pub last : List ℕ
  pub values : HasValues p (target_of G).map (together G.x G.a)
      (together (target_of G).y (target_of G).b) behind vertices fillings images last
  pub here : StopsMatrixPart p G.top (size_in range.cycles.items) (size_in domain.cycles.items)
      last stop

abbrev pub StopsMap : ℕ → Given → List ℕ → Stop → Type 0
StopsMap p G bytes stop =
    StopsPairs p G.top G.x G.a (target_of G).y (target_of G).b bytes stop
    ⊎ (StopsInValues p G bytes stop ⊎ StopsBehindAll p G bytes stop)
