-- The cells at a corner as a mask: their ranks, in which the first axis is the highest of four
-- bits, so that ranks stand in the order of cells.
use Rattle.std.specs.Prelude.{ℕ, zero, suc, ◌+◌, ◌*◌, ◌/◌, ◌%◌, ◌^◌, List, [], ◌∷◌, Bool, ◌==◌, if◌then◌else◌, bit_and}
use Rattle.std.specs.Int.{bit_at}
use Rattle.elem_cubes.specs.Range.{most_factors}

-- the lowest bits in reverse
abbrev pub reversed : ℕ → ℕ → ℕ
reversed zero a = 0
reversed (suc k) a = 2 ^ k * (a % 2) + reversed k (a / 2)

-- the rank of a set of axes, and the axes of a rank
abbrev pub turned : ℕ → ℕ
turned a = reversed most_factors a

-- the rank is in the mask
abbrev pub has_bit : ℕ → ℕ → Bool
has_bit mask rank = bit_at mask rank == 1

-- the ranks in the mask, ascending: so many from this one on
abbrev pub ranks_from : ℕ → ℕ → ℕ → List ℕ
ranks_from zero rank mask = []
ranks_from (suc n) rank mask =
    if mask % 2 == 1 then rank ∷ ranks_from n (suc rank) (mask / 2) else ranks_from n (suc rank)
    (mask / 2)

unfoldable pub ranks_of : ℕ → List ℕ
ranks_of mask = ranks_from 16 0 mask

-- the mask of all ranks with an interval along an axis
abbrev pub wide_along : ℕ → ℕ
wide_along zero = 65280
wide_along (suc zero) = 61680
wide_along (suc (suc zero)) = 52428
wide_along (suc (suc (suc n))) = 43690

-- by how much a rank falls where an interval along the axis becomes a point
abbrev pub fall_along : ℕ → ℕ
fall_along zero = 8
fall_along (suc zero) = 4
fall_along (suc (suc zero)) = 2
fall_along (suc (suc (suc n))) = 1

-- the cells of the mask with an interval along the axis, with a point in its place
abbrev pub narrowed : ℕ → ℕ → ℕ
narrowed axis mask = bit_and mask (wide_along axis) / 2 ^ fall_along axis
