-- Excision: of the subset only what touches the set counts. (Kaczynski, Mischaikow, Mrozek:
-- Computational Homology, Springer 2004, section 9.1)
use Rattle.std.specs.Prelude.{◌≡◌, Bool, true, List, filter}
use Rattle.std.specs.List.{list_any}
use Rattle.elem_cubes.specs.Cells.{Factor, dimension_of}
use Rattle.elem_cubes.specs.Faces.{IsFace}
use Rattle.cube_sets.specs.Sets.{Members}
use Rattle.cube_sets.specs.Neighbours.{cells_meet}

-- the cell shares a point with some cell of x
abbrev pub touches : List (List Factor) → List Factor → Bool
touches x c = list_any (λ s. cells_meet s c) x

-- the members of a that share a point with a member of x
abbrev pub excised : Members → Members → Members
excised x a = record { dimension = a.dimension; cells = filter (touches x.cells) a.cells }

-- some vertex of the cell passes the test
abbrev pub HasVertexIn : (List Factor → Bool) → List Factor → Type 0
HasVertexIn test c = (v : List Factor) × (dimension_of v ≡ 0) × IsFace c v × (test v ≡ true)
