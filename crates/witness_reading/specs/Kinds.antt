-- Tables of kinds of cells, and the numbers of the relative cells of a pair.
use Rattle.std.specs.Prelude.{ℕ, suc, ◌+◌, List, []}
use Rattle.std.specs.Prelude.{◌∷◌, length, map, Bool, if◌then◌else◌}
use Rattle.elem_cubes.specs.Cells.{Factor, dimension_of}
use Rattle.elem_cubes.specs.Order.{cell_cmp}
use Rattle.elem_cubes.specs.Laws.{cell_at}
use Rattle.cube_sets.specs.Sorted.{has}
use Rattle.cell_complex.specs.RelativeComplex.{is_relative}
use Rattle.witness_laws.specs.Lines.{each}
use Rattle.witness_laws.specs.Inputs.{all_cells, relative_cells}
use Rattle.witness_laws.specs.Parts.{relative_number}

-- the kind of each cell: one more than its dimension where it may be named, and 0 where it may not
abbrev pub kinds_where : (List Factor → Bool) → List (List Factor) → List ℕ
kinds_where on cells = map (λ q. if on q then suc (dimension_of q) else 0) cells

-- the kind of a cell where those of a list may be named
abbrev pub kind_among : List (List Factor) → List Factor → ℕ
kind_among kept q = if has cell_cmp kept q then suc (dimension_of q) else 0

-- the kinds of the cells of a pair, where relative cells may be named
abbrev pub pair_table : List (List Factor) → List (List Factor) → List ℕ
pair_table x a = kinds_where (is_relative x a) (all_cells x a)

-- the number of each relative cell
abbrev pub pair_numbers : List (List Factor) → List (List Factor) → List ℕ
pair_numbers x a = each (length (relative_cells x a)) (λ i. relative_number x a i ∷ [])

-- the kind of the cells that its chain may name: those of one dimension more
abbrev pub pair_wanted : List (List Factor) → List (List Factor) → List ℕ
pair_wanted x a = each (length (relative_cells x a))
    (λ i. suc (dimension_of (cell_at (relative_cells x a) i) + 1) ∷ [])
