-- Two sets of files, of which the second may be absent.
use Rattle.std.specs.Prelude.{◌≤◌, ◌*◌, ◌+◌, ℕ, List, ◌∷◌, length, if◌then◌else◌, Option, unwrap_or, Result, Ok, Err, IsTrue}
use Rattle.cube_sets.specs.Sets.{Members, dimensions_agree}
use Rattle.grid_files.specs.declared.fault.Kind.TheVariants.{Any}
use Rattle.faults.specs.declared.fault.Fault.{Fault}
use Rattle.faults.specs.declared.fault.Fault.TheVariants.{Dimension}
use Rattle.loading.specs.Steps.{Then, Is}
use Rattle.loading.specs.Readings.{Reading, read_bytes}
use Rattle.loading.specs.Sets.{IsSetIn, IsSubsetIn, and_subset, most_cubes}
use Rattle.loading.specs.declared.two_sets.TwoSets.{TwoSets}

-- the files: the first, and the second where there is one
abbrev pub two_names : List ℕ → Option (List ℕ) → List (List ℕ)
two_names x y = x ∷ and_subset y

-- the most bytes that are read of them
abbrev pub two_bytes : Option (List ℕ) → ℕ
two_bytes y = read_bytes + length (and_subset y) * read_bytes

-- the file whose dimension is refused; without a second one none is
abbrev pub second_name : List ℕ → Option (List ℕ) → List ℕ
second_name x y = unwrap_or y x

-- the two sets, where their dimensions are equal or one of them is unknown
abbrev pub two_sets : List ℕ → Members → Members → Result TwoSets Fault
two_sets name x y =
    if dimensions_agree x.dimension y.dimension then Ok (record { x = x; y = y })
    else Err (Dimension name y.dimension x.dimension)

-- the first set, then the second, and then their dimensions
abbrev pub AreTwoSetsIn : List ℕ → Option (List ℕ) → Reading → Result TwoSets Fault → Type 0
AreTwoSetsIn x y read =
    Then (IsSetIn Any x read)
    (λ s. Then (IsSubsetIn Any y read) (λ t. Is (two_sets (second_name x y) s t)))

-- the dimensions agree, and neither set has more members than a set file
pub record AreOperands (sets : TwoSets) : Type 0 where
  pub agree : IsTrue (dimensions_agree sets.x.dimension sets.y.dimension)
  pub few_of_x : length sets.x.cells ≤ most_cubes
  pub few_of_y : length sets.y.cells ≤ most_cubes
