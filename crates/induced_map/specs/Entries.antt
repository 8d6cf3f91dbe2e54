-- Entries of a matrix.
use Rattle.std.specs.Prelude.{ℕ, ◌<◌, List, length, slice_index}

-- the numbers are below p
abbrev pub AreBelow : ℕ → List ℕ → Type 0
AreBelow p entries = (k : ℕ) → k < length entries → slice_index entries k < p
