-- Steps that take the faces of cubes that are moved into the subset of a pair.
use Rattle.std.specs.Prelude.{◌≡◌, ◌↔◌, ℕ, ◌<◌, Bool, false, ◌&&◌, not, nat_lt, List, length, ◌++◌}
use Rattle.elem_cubes.specs.Cells.{Factor}
use Rattle.elem_cubes.specs.Faces.{is_face}
use Rattle.elem_cubes.specs.Laws.{cell_at}
use Rattle.cube_sets.specs.Closures.{is_cell_of}
use Rattle.algebraic_reduction.specs.Reduction.{Step, IsUnpaired}
use Rattle.algebraic_reduction.specs.Restrictions.{AreWithin}

-- the steps take exactly the numbered cells that are faces of the cubes
abbrev pub TakeFaces : List (List Factor) → List (List Factor) → List Step → Type 0
TakeFaces cells cubes ss =
    (i : ℕ) → i < length cells → IsUnpaired ss i ↔ (is_cell_of cubes (cell_at cells i) ≡ false)

-- the number is that of a face of q that is no cell of the set s
abbrev pub is_number_of_new : List (List Factor) → List (List Factor) → List Factor → ℕ → Bool
is_number_of_new cells s q i =
    nat_lt i (length cells) && (is_face q (cell_at cells i) && not (is_cell_of s (cell_at cells i)))

-- the new steps are the old ones and further ones, each by a pair of the part
pub record AreFurtherWithin (part : ℕ → Bool) (old new : List Step) : Type 0 where
  pub more : List Step
  pub steps : new ≡ old ++ more
  pub within : AreWithin part more
