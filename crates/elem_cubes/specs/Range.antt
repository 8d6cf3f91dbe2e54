-- The range of the files and the greatest number of factors, as the formats state them.
use Rattle.std.specs.Prelude.{◌≡◌, ℕ, ℤ, pos, negsuc}
use Rattle.elem_cubes.specs.declared.range.TheConstants.{LOW, HIGH, MAX_EMBEDDING}

-- the least end of a factor in a file: -1073741824
abbrev pub least_end : ℤ
least_end = negsuc 1073741823

-- the greatest end of a factor in a file
abbrev pub greatest_end : ℤ
greatest_end = pos 1073741825

-- the greatest number of factors of a cell
abbrev pub most_factors : ℕ
most_factors = 4

-- the program's numbers are these
pub record RangeIsOfTheFormats : Type 0 where
  pub least : LOW ≡ least_end
  pub greatest : HIGH ≡ greatest_end
  pub factors : MAX_EMBEDDING ≡ most_factors
