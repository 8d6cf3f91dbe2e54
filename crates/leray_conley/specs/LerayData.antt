-- What the program answers as a splitting
use Rattle.std.specs.Prelude.{◌≡◌, ℕ, ◌+◌}
use Rattle.leray_conley.specs.Tables.{entry}
use Rattle.leray_conley.specs.Splitting.{Splitting}
use Rattle.leray_conley.specs.declared.leray.Leray.{Leray}

-- the sizes of the five matrices, for a matrix of size d
pub record HasLeraySizes (p d : ℕ) (l : Leray p) : Type 0 where
  pub image_rows : l.image.rows ≡ d
  pub kernel_rows : l.kernel.rows ≡ d
  pub columns : l.image.columns + l.kernel.columns ≡ d
  pub reduced_rows : l.reduced.rows ≡ l.image.columns
  pub reduced_columns : l.reduced.columns ≡ l.image.columns
  pub reduced_inverse_rows : l.reduced_inverse.rows ≡ l.image.columns
  pub reduced_inverse_columns : l.reduced_inverse.columns ≡ l.image.columns
  pub split_inverse_rows : l.split_inverse.rows ≡ d
  pub split_inverse_columns : l.split_inverse.columns ≡ d

-- .. and their entries
abbrev pub splitting_of : {p : ℕ} → Leray p → Splitting
splitting_of {p} l = record {
  rank = l.image.columns;
  image = entry l.image;
  kernel = entry l.kernel;
  reduced = entry l.reduced;
  reduced_inverse = entry l.reduced_inverse;
  split_inverse = entry l.split_inverse;
}
