-- Marks that tell which generators a list of steps leaves.
use Rattle.std.specs.Prelude.{◌≡◌, ℕ, ◌<◌, Bool, false, List, slice_index_or}
use Rattle.algebraic_reduction.specs.Reduction.{Step}
use Rattle.excision.specs.Left.{is_unpaired}

-- of the first n generators those are marked that are in no step
abbrev pub TellLeft : ℕ → List Step → List Bool → Type 0
TellLeft n ss marks = (k : ℕ) → k < n → slice_index_or marks k false ≡ is_unpaired ss k
