-- A map of pairs of sets and the files that give it.
use Rattle.std.specs.Prelude.{◌≡◌, ℕ, ◌+◌, ◌≤◌, List, ◌∷◌, ◌++◌, length, true, if◌then◌else◌, ◌==◌, Option, Result, Ok, Err, max}
use Rattle.elem_cubes.specs.Cells.{Factor}
use Rattle.cube_sets.specs.Sets.{Members, dimensions_agree}
use Rattle.cube_sets.specs.Neighbours.{are_full}
use Rattle.cube_maps.specs.CubeMaps.{Mapping}
use Rattle.map_checks.specs.Carriers.{AreOfOneDimension}
use Rattle.map_checks.specs.Faults.{together}
use Rattle.grid_files.specs.declared.fault.Kind.TheVariants.{Full}
use Rattle.faults.specs.declared.fault.Fault.{Fault}
use Rattle.faults.specs.declared.fault.Fault.TheVariants.{Dimension}
use Rattle.loading.specs.Steps.{Then, Is}
use Rattle.loading.specs.Readings.{Reading, read_bytes}
use Rattle.loading.specs.Sets.{IsSetIn, IsSubsetIn, most_cubes}
use Rattle.loading.specs.Maps.{IsMapIn}
use Rattle.loading.specs.TwoSets.{two_names, two_bytes, second_name}
use Rattle.loading.specs.declared.two_sets.TwoSets.{TwoSets}
use Rattle.pair_maps.specs.declared.inputs.MapFiles.{MapFiles}
use Rattle.pair_maps.specs.declared.inputs.PairMap.{PairMap}

-- the whole domain, and the whole range: the members of the set and of its subset
abbrev pub domain_of : PairMap → List (List Factor)
domain_of m = together m.x.cells m.a.cells

abbrev pub range_of : PairMap → List (List Factor)
range_of m = together m.y.cells m.b.cells

-- the embedding dimension of the map and its sets: all known ones are equal, and an unknown one is
-- 0
abbrev pub dimension_of_map : PairMap → ℕ
dimension_of_map m = max m.map.dimension
    (max (max m.x.dimension m.a.dimension) (max m.y.dimension m.b.dimension))

-- ---- files

-- the files in the order in which they are read, and the most bytes that are read of them
abbrev pub names_of : MapFiles → List (List ℕ)
names_of files = files.map ∷ (two_names files.x files.a ++ two_names files.y files.b)

abbrev pub bytes_of : MapFiles → ℕ
bytes_of files = read_bytes + (two_bytes files.a + two_bytes files.b)

-- the set of full cubes of a file, then the subset of another, which may be absent
abbrev pub ArePairIn : List ℕ → Option (List ℕ) → Reading → Result TwoSets Fault → Type 0
ArePairIn x a read = Then (IsSetIn Full x read)
    (λ s. Then (IsSubsetIn Full a read) (λ t. Is (Ok (record { x = s; y = t }))))

-- the map from one pair to the other
abbrev pub pair_map : Mapping → TwoSets → TwoSets → PairMap
pair_map map domain range =
    record { map = map; x = domain.x; a = domain.y; y = range.x; b = range.y }

-- ---- dimensions

-- the first known one of two dimensions
abbrev pub known : ℕ → ℕ → ℕ
known first second = if first == 0 then second else first

-- the first known one of a dimension and that of the set of a file; where they differ, the file is
-- refused
abbrev pub with_known : ℕ → List ℕ → Members → Result ℕ Fault
with_known before name set =
    if dimensions_agree before set.dimension then Ok (known before set.dimension)
    else Err (Dimension name set.dimension before)

-- one computed step after another, up to the first refusal
abbrev pub and_then : {A B : Type 0} → Result A Fault → (A → Result B Fault) → Result B Fault
and_then (Ok x) next = next x
and_then (Err fault) next = Err fault

-- the same of a set, then of its subset, whose file may be absent
abbrev pub with_pair : ℕ → List ℕ → Option (List ℕ) → TwoSets → Result ℕ Fault
with_pair before x a sets = and_then (with_known before x sets.x)
    (λ with_x. with_known with_x (second_name x a) sets.y)

-- the first known dimension of the map and its sets, where all known ones are equal; else the first
-- file whose dimension differs from the first known one
abbrev pub agreed : MapFiles → Mapping → TwoSets → TwoSets → Result ℕ Fault
agreed files map domain range = and_then (with_pair map.dimension files.x files.a domain)
    (λ with_domain. with_pair with_domain files.y files.b range)

-- the map of the pairs, where they are equal
abbrev pub agreeing : MapFiles → Mapping → TwoSets → TwoSets → Result PairMap Fault
agreeing files map domain range =
    and_then (agreed files map domain range) (λ known. Ok (pair_map map domain range))

-- the map, then the pair of its domain, then that of its range, and then their dimensions
abbrev pub IsPairMapIn : MapFiles → Reading → Result PairMap Fault → Type 0
IsPairMapIn files read = Then (IsMapIn files.map read) (λ map.
    Then (ArePairIn files.x files.a read) (λ domain.
    Then (ArePairIn files.y files.b read) (λ range. Is (agreeing files map domain range))))

-- ---- what the files give

-- all members of both sets are full cubes, and neither set has more than a set file
pub record IsFullPair (sets : TwoSets) : Type 0 where
  pub full_x : are_full sets.x.cells ≡ true
  pub full_y : are_full sets.y.cells ≡ true
  pub few_x : length sets.x.cells ≤ most_cubes
  pub few_y : length sets.y.cells ≤ most_cubes

-- the map and its sets are of one dimension, and no set has more members than a set file
pub record IsFitting (m : PairMap) : Type 0 where
  pub alike : AreOfOneDimension m.map m.x m.a m.y m.b
  pub few_x : length m.x.cells ≤ most_cubes
  pub few_a : length m.a.cells ≤ most_cubes
  pub few_y : length m.y.cells ≤ most_cubes
  pub few_b : length m.b.cells ≤ most_cubes
