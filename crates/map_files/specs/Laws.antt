-- The law of map files.
use Rattle.std.specs.Prelude.{◌≡◌, ◌⊎◌, ℕ, List}
use Rattle.cube_maps.specs.CubeMaps.{Mapping}
use Rattle.grid_files.specs.declared.fault.TextCause.{TextCause}
use Rattle.map_files.specs.MapFile.{HasValue, IsRefusedAt}

-- a text has exactly one value, or is refused at exactly one place with one cause
pub record TextsHaveOneOutcome : Type 0 where
  pub some : (text : List ℕ) → ((m : Mapping) × HasValue text m) ⊎
      ((place : ℕ) × (cause : TextCause) × IsRefusedAt text place cause)
  pub one_value : (text : List ℕ) (m other : Mapping) → HasValue text m → HasValue text other
      → m ≡ other
  pub one_place : (text : List ℕ) (place other : ℕ) (cause why : TextCause)
      → IsRefusedAt text place cause → IsRefusedAt text other why → (place ≡ other) × (cause ≡ why)
  pub never_both : (text : List ℕ) (m : Mapping) (place : ℕ) (cause : TextCause) → HasValue text m
      → ¬ IsRefusedAt text place cause
