-- What a witness speaks of, as the program has it: sets of one dimension, and their limits.
use Rattle.std.specs.Prelude.{◌≡◌, ℕ, ◌*◌, ◌≤◌, List, [], ◌∷◌, length, None, Some, true}
use Rattle.std.specs.Prelude.{if◌then◌else◌, ◌==◌}
use Rattle.field_mod.specs.Sums.{total}
use Rattle.cube_sets.specs.Sets.{dimensions_agree}
use Rattle.map_checks.specs.Carriers.{AreOfOneDimension}
use Rattle.map_checks.specs.Faults.{HasNoSetFault}
use Rattle.witness_laws.specs.Inputs.{Given, target_of, all_cells}
use Rattle.witness_laws.specs.Parts.{value_at}
use Rattle.witness_types.specs.declared.heading.ClaimKind.{ClaimKind}
use Rattle.witness_types.specs.declared.heading.ClaimKind.TheVariants as kinds
use Rattle.witness_types.specs.declared.input.Input.{Input}
use Rattle.witness_types.specs.declared.input.Input.TheVariants as inputs

-- the first known dimension, or 0
abbrev pub first_known : List ℕ → ℕ
first_known [] = 0
first_known (d ∷ ds) = if d == 0 then first_known ds else d

-- what the input is to the laws
abbrev pub given_of : Input → Given
given_of (inputs.Pair x a) = record {
  top = first_known (x.now.dimension ∷ a.now.dimension ∷ []);
  x = x.now.cells;
  a = a.now.cells;
  target = None;
}
given_of (inputs.Map map x a y b) = record {
  top = first_known (map.now.dimension ∷ x.now.dimension ∷ a.now.dimension ∷ y.now.dimension
      ∷ b.now.dimension ∷ []);
  x = x.now.cells;
  a = a.now.cells;
  target = Some (record { map = map.now.named; y = y.now.cells; b = b.now.cells });
}

abbrev pub kind_of : Input → ClaimKind
kind_of (inputs.Pair x a) = kinds.Pair
kind_of (inputs.Map map x a y b) = kinds.Map

-- sets and map are of one dimension, and for a map the sets have no fault
abbrev pub IsWitnessInput : Input → Type 0
IsWitnessInput (inputs.Pair x a) = dimensions_agree x.now.dimension a.now.dimension ≡ true
IsWitnessInput (inputs.Map map x a y b) =
    AreOfOneDimension map.now x.now a.now y.now b.now
    × HasNoSetFault map.now.named x.now.cells a.now.cells y.now.cells b.now.cells

-- the counts that have limits: cells of domain and range, and a sum over the cells of the domain by
-- the lengths of their values
pub record IsWithin (cells : ℕ) (weight : ℕ → ℕ) (G : Given) : Type 0 where
  pub domain : length (all_cells G.x G.a) ≤ cells
  pub range : length (all_cells (target_of G).y (target_of G).b) ≤ cells
  pub carrier : total (length (all_cells G.x G.a)) (λ i. weight (length (value_at G i))) ≤ 16777216

-- at most 4096 cells on each side, and squares of the numbers of cells of the values that add up to
-- at most 2^24
abbrev pub IsWithinTables : Given → Type 0
IsWithinTables G = IsWithin 4096 (λ n. n * n) G
