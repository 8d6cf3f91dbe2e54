-- The laws of set files.
use Rattle.std.specs.Prelude.{◌≡◌, ◌⊎◌, ◌≤◌, ℕ, List, length, true}
use Rattle.std.specs.List.{list_all}
use Rattle.grid_files.specs.Items.{is_wanted}
use Rattle.cube_sets.specs.Sets.{Members, IsCubeSet, most_members}
use Rattle.grid_files.specs.SetFile.{HasValue, IsRefusedAt}
use Rattle.grid_files.specs.Written.{written}
use Rattle.grid_files.specs.declared.fault.Kind.{Kind}
use Rattle.grid_files.specs.declared.fault.TextCause.{TextCause}
use Rattle.grid_files.specs.Pieces.{keyword}
use Rattle.grid_files.specs.declared.piece.TheConstants.{DIMENSION}

-- a text has exactly one value, or is refused at exactly one place with one cause
pub record TextsHaveOneOutcome : Type 0 where
  pub some : (kind : Kind) (text : List ℕ)
      → ((set : Members) × HasValue kind text set)
      ⊎ ((place : ℕ) × (cause : TextCause) × IsRefusedAt kind text place cause)
  pub one_value : (kind : Kind) (text : List ℕ) (set other : Members) → HasValue kind text set
      → HasValue kind text other → set ≡ other
  pub one_place : (kind : Kind) (text : List ℕ) (place other : ℕ) (cause why : TextCause)
      → IsRefusedAt kind text place cause → IsRefusedAt kind text other why
      → (place ≡ other) × (cause ≡ why)
  pub never_both : (kind : Kind) (text : List ℕ) (set : Members) (place : ℕ) (cause : TextCause)
      → HasValue kind text set → ¬ IsRefusedAt kind text place cause

-- the written form of a set that is not too large has the set as its value, under each kind that
-- wants its cells
abbrev pub WrittenSetsAreRead : Type 0
WrittenSetsAreRead =
    (kind : Kind) (set : Members) → IsCubeSet set → length set.cells ≤ most_members
    → list_all (is_wanted kind) set.cells ≡ true → HasValue kind (written set) set

-- the keyword of the program is the word of the grammar
abbrev pub KeywordIsOfTheFormat : Type 0
KeywordIsOfTheFormat = DIMENSION ≡ keyword
