-- Faces of cells: all of them, those of one dimension less with their signs, and the cells that
-- have a cell as a face.
use Rattle.std.specs.Prelude.{◌≡◌, ◌⊎◌, ◌+◌, ℤ, pos, negsuc, ◌+ℤ◌, neg_ℤ, List, [], ◌∷◌, ◌++◌, map, Bool, true, false, ◌&&◌, ◌||◌}
use Rattle.std.specs.List.{flat_map}
use Rattle.std.specs.Ordering.{int_eq}
use Rattle.elem_cubes.specs.Cells.{Factor, point, interval, dimension_of}

-- the second factor is contained in the first
abbrev pub IsPart : Factor → Factor → Type 0
IsPart (point l) (point m) = m ≡ l
IsPart (point l) (interval m) = ⊥
IsPart (interval l) (point m) = (m ≡ l) ⊎ (m ≡ l +ℤ pos 1)
IsPart (interval l) (interval m) = m ≡ l

-- the second cell is a face of the first: contained in it, with as many factors
abbrev pub IsFace : List Factor → List Factor → Type 0
IsFace [] [] = Unit {0}
IsFace [] (r ∷ rs) = ⊥
IsFace (q ∷ qs) [] = ⊥
IsFace (q ∷ qs) (r ∷ rs) = IsPart q r × IsFace qs rs

-- the second cell is a facet of the first: a face of one dimension less
abbrev pub IsFacet : List Factor → List Factor → Type 0
IsFacet q r = IsFace q r × (dimension_of r + 1 ≡ dimension_of q)

-- the test of being a face
abbrev pub is_part : Factor → Factor → Bool
is_part (point l) (point m) = int_eq m l
is_part (point l) (interval m) = false
is_part (interval l) (point m) = int_eq m l || int_eq m (l +ℤ pos 1)
is_part (interval l) (interval m) = int_eq m l

abbrev pub is_face : List Factor → List Factor → Bool
is_face [] [] = true
is_face [] (r ∷ rs) = false
is_face (q ∷ qs) [] = false
is_face (q ∷ qs) (r ∷ rs) = is_part q r && is_face qs rs

-- the sign turns behind each interval
abbrev pub turned : Factor → ℤ → ℤ
turned (point l) s = s
turned (interval l) s = neg_ℤ s

-- a signed cell with one more factor in front
abbrev pub behind : Factor → List Factor × ℤ → List Factor × ℤ
behind f g = (f ∷ g.0, turned f g.1)

-- the cells that differ from this one in one factor, which is changed as told: first factor first
abbrev pub changed : (Factor → List (Factor × ℤ)) → List Factor → List (List Factor × ℤ)
changed change [] = []
changed change (f ∷ fs) =
    map (λ e. (e.0 ∷ fs, e.1)) (change f) ++ map (behind f) (changed change fs)

-- the ends of an interval with their signs, the upper one first; a point has none
abbrev pub ends_of : Factor → List (Factor × ℤ)
ends_of (point l) = []
ends_of (interval l) = (point (l +ℤ pos 1), pos 1) ∷ (point l, negsuc 0) ∷ []

-- the intervals that a point ends, with the point's signs, the upward one first
abbrev pub intervals_at : Factor → List (Factor × ℤ)
intervals_at (point m) = (interval m, negsuc 0) ∷ (interval (m +ℤ negsuc 0), pos 1) ∷ []
intervals_at (interval m) = []

-- the facets of a cell with their signs in its boundary
abbrev pub faces_of : List Factor → List (List Factor × ℤ)
faces_of = changed ends_of

-- the cells that have this one as a facet, with its sign in their boundary
abbrev pub cofaces_of : List Factor → List (List Factor × ℤ)
cofaces_of = changed intervals_at

-- the elementary intervals contained in a factor
abbrev pub parts_of : Factor → List Factor
parts_of (point l) = point l ∷ []
parts_of (interval l) = point l ∷ interval l ∷ point (l +ℤ pos 1) ∷ []

-- all faces of a cell: with each face of the further factors, each part of the first
abbrev pub closure_of : List Factor → List (List Factor)
closure_of [] = [] ∷ []
closure_of (f ∷ fs) = flat_map (λ rs. map (λ r. r ∷ rs) (parts_of f)) (closure_of fs)
