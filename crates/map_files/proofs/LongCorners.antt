-- One more corner in a list.
use Rattle.std.proofs.Common.{◌≡◌, ℤ, List, [], ◌∷◌, ◌++◌, length, Bool, true, false, ◌||◌, Some, Err, refl, sym, ap, ◌∙◌}
use Rattle.std.specs.List.{list_any}
use Rattle.std.proofs.lemmas.Bool.{true≢false}
use Rattle.std.proofs.lemmas.List.Folds.{list_any-append}
use Rattle.elem_cubes.specs.Cells.{full_cell}
use Rattle.grid_files.specs.Corners.{IsCellOf}
use Rattle.grid_files.specs.declared.fault.TextCause.{TextCause}
use Rattle.map_files.specs.Items.{is_long}
use Rattle.map_files.specs.Openings.{IsValues}
use Rattle.map_files.specs.declared.values.Values.{Values}
use Rattle.map_files.proofs.Gathering.{long_from}

any_or : (a : Bool) → (a || true) ≡ true
any_or true = refl
any_or false = refl

pub long_added : (old now : Values) (vs : List (List ℤ)) (v : List ℤ) (cause : TextCause) → IsValues old vs → IsCellOf (length v) (Some (full_cell v)) (Err cause) → now.long ≡ true → IsValues now (vs ++ v ∷ [])
long_added old now vs v cause is h long = record {
  long = long ∙ sym (list_any-append is_long vs (v ∷ []) ∙ ap (λ b. list_any is_long vs || (b || false)) (long_from v cause h) ∙ any_or (list_any is_long vs));
  cells = λ e. absurd (true≢false (sym long ∙ e));
}
