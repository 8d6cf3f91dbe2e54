-- The parts of a witness as values of the form: flat lists of cycles with their degrees, by degree.
use Rattle.std.specs.Prelude.{◌≡◌, ℕ, suc, ◌<◌, ◌≤◌, List, [], ◌∷◌, length, map, Option, Some, None}
use Rattle.std.specs.Prelude.{if◌then◌else◌, ◌==◌, slice_index}
use Rattle.witness_laws.specs.Lines.{each}
use Rattle.witness_laws.specs.Inputs.{Given}
use Rattle.witness_laws.specs.Tables.{Tables, PairTables, MapTables}
use Rattle.witness_types.specs.Rows.{rows_of}
use Rattle.witness_types.specs.declared.part.PairPart.{PairPart}
use Rattle.witness_types.specs.declared.part.MapPart.{MapPart}

-- of the second list what stands beside the numbers k of the first
abbrev pub beside : {A : Type 0} → ℕ → List ℕ → List A → List A
beside k [] xs = []
beside k ds [] = []
beside k (d ∷ ds) (x ∷ xs) = if d == k then x ∷ beside k ds xs else beside k ds xs

abbrev pub by_degree : {A : Type 0} → ℕ → List ℕ → List A → List (List A)
by_degree top ds xs = each (suc top) (λ k. beside k ds xs ∷ [])

abbrev pub degrees_of : {A : Type 0} → List (ℕ × A) → List ℕ
degrees_of zs = map (λ z. z.0) zs

abbrev pub pair_tables : {p : ℕ} → ℕ → PairPart p → PairTables
pair_tables top part = record {
  cycles = by_degree top (degrees_of part.cycles.items) (map (λ z. z.1) part.cycles.items);
  cocycles = by_degree top (degrees_of part.cycles.items) part.cocycles.items;
  homotopies = part.homotopy.items;
}

-- the degrees never fall, and none is above the dimension; there are as many cocycles
pub record IsInOrder {p : ℕ} (top : ℕ) (part : PairPart p) : Type 0 where
  pub within : (i : ℕ) → i < length part.cycles.items
      → slice_index (degrees_of part.cycles.items) i ≤ top
  pub order : (i j : ℕ) → i < j → j < length part.cycles.items
      → slice_index (degrees_of part.cycles.items) i ≤ slice_index (degrees_of part.cycles.items) j
  pub cocycles : length part.cocycles.items ≡ length part.cycles.items

abbrev pub map_tables : {p : ℕ} → ℕ → MapPart p → MapTables
map_tables top part = record {
  range = pair_tables top part.range;
  vertices = part.vertices.items;
  fillings = map (λ v. v.items) part.contractions.items;
  images = part.images.items;
  matrices = map rows_of part.matrices.items;
}

-- what may be there, read
abbrev pub read : {A B : Type 0} → (A → B) → Option A → Option B
read f None = None
read f (Some x) = Some (f x)

abbrev pub tables_of : {p : ℕ} → Given → PairPart p → Option MapTables → Tables
tables_of G part m = record { domain = pair_tables G.top part; map = m }

abbrev pub map_part : {p : ℕ} → Given → MapPart p → MapTables
map_part G m = map_tables G.top m
