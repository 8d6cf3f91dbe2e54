-- The limits of a witness: the cells whose chains it names, and how large the values of a map are.
use Rattle.std.specs.Prelude.{◌<◌, ◌≤◌, ◌⊎◌, ℕ, ◌*◌, length}
use Rattle.field_mod.specs.Sums.{total}
use Rattle.witness_laws.specs.Inputs.{Given, target_of, all_cells}
use Rattle.witness_laws.specs.Parts.{value_at}

-- the most cells of the domain, and of the range
abbrev pub most_witness_cells : ℕ
most_witness_cells = 4096

-- the most that the squares of the lengths of all values may add up to
abbrev pub most_carried : ℕ
most_carried = 16777216

abbrev pub domain_count : Given → ℕ
domain_count G = length (all_cells G.x G.a)

-- without a map there is no range, and no value
abbrev pub range_count : Given → ℕ
range_count G = length (all_cells (target_of G).y (target_of G).b)

abbrev pub square : ℕ → ℕ
square n = n * n

abbrev pub carrier_size : Given → ℕ
carrier_size G = total (domain_count G) (λ i. square (length (value_at G i)))

abbrev pub HasTooMany : Given → Type 0
HasTooMany G = (most_witness_cells < domain_count G) ⊎ (most_witness_cells < range_count G)

pub record HasFew (G : Given) : Type 0 where
  pub domain : domain_count G ≤ most_witness_cells
  pub range : range_count G ≤ most_witness_cells
