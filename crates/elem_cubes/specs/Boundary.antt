-- The cubical boundary modulo p, in two forms (Kaczynski, Mischaikow, Mrozek, Computational
-- Homology, 2004, section 2.2).
use Rattle.std.specs.Prelude.{ℕ, ◌+◌, ◌-◌, ◌*◌, ℤ, pos, negsuc, ◌+ℤ◌, List, [], ◌∷◌, if◌then◌else◌}
use Rattle.std.specs.Ordering.{int_eq}
use Rattle.elem_cubes.specs.Cells.{Factor, point, interval, same_factor, same_cell}

-- a sign as a number modulo p
abbrev pub residue : ℕ → ℤ → ℕ
residue p (pos n) = n
residue p (negsuc n) = (p - 1) * (n + 1)

-- the coefficient of the second factor in the boundary of the first: 1 for the upper end of an
-- interval, -1 for the lower
abbrev pub end_coefficient : ℕ → Factor → Factor → ℕ
end_coefficient p (point l) r = 0
end_coefficient p (interval l) (interval m) = 0
end_coefficient p (interval l) (point m) =
    (if int_eq (l +ℤ pos 1) m then 1 else 0) + (if int_eq l m then p - 1 else 0)

-- behind an interval the signs turn
abbrev pub turned_coefficient : ℕ → Factor → ℕ → ℕ
turned_coefficient p (point l) x = x
turned_coefficient p (interval l) x = (p - 1) * x

-- the coefficient of the second cell in the boundary of the first, as a number modulo p
abbrev pub boundary_coefficient : ℕ → List Factor → List Factor → ℕ
boundary_coefficient p [] rs = 0
boundary_coefficient p (q ∷ qs) [] = 0
boundary_coefficient p (q ∷ qs) (r ∷ rs) =
    (if same_cell qs rs then end_coefficient p q r else 0)
    + (if same_factor q r then turned_coefficient p q (boundary_coefficient p qs rs) else 0)

-- the boundary of the chain c at the cell r, a sum over the cells that have r as a facet; c is a
-- function of cells
abbrev pub boundary_at : ℕ → List Factor → (List Factor → ℕ) → ℕ
boundary_at p [] c = 0
boundary_at p (point m ∷ rs) c =
    c (interval (m +ℤ negsuc 0) ∷ rs) + (p - 1) * c (interval m ∷ rs)
    + boundary_at p rs (λ ts. c (point m ∷ ts))
boundary_at p (interval m ∷ rs) c = (p - 1) * boundary_at p rs (λ ts. c (interval m ∷ ts))

-- the boundary of the cell q, paired with a function of cells
abbrev pub boundary_pairing : ℕ → List Factor → (List Factor → ℕ) → ℕ
boundary_pairing p [] f = 0
boundary_pairing p (point l ∷ qs) f = boundary_pairing p qs (λ rs. f (point l ∷ rs))
boundary_pairing p (interval l ∷ qs) f =
    f (point (l +ℤ pos 1) ∷ qs) + (p - 1) * f (point l ∷ qs)
    + (p - 1) * boundary_pairing p qs (λ rs. f (interval l ∷ rs))

-- the signed sum of a function over a list of signed cells
abbrev pub signed_sum : ℕ → (List Factor → ℕ) → List (List Factor × ℤ) → ℕ
signed_sum p f [] = 0
signed_sum p f (g ∷ gs) = residue p g.1 * f g.0 + signed_sum p f gs
