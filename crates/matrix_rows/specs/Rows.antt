-- Rows of any size.
use Rattle.std.specs.Prelude.{◌≡◌, ℕ, ◌*◌, ◌<◌, length, slice_index}
use Rattle.leray_conley.specs.Tables.{Table}

-- numbers below p, as many as rows times columns
pub record AreRows (p : ℕ) (m : Table) : Type 0 where
  pub count : length m.entries ≡ m.rows * m.columns
  pub below : (k : ℕ) → k < length m.entries → slice_index m.entries k < p
