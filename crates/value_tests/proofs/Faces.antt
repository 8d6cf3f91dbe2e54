-- The cells of a set: they are those of the list, and with each its faces; and a map that names more than a set.
use Rattle.std.proofs.Common.{◌≡◌, sym, ◌∙◌, List, true}
use Rattle.std.specs.List.{Contains}
use Rattle.elem_cubes.specs.Cells.{Factor}
use Rattle.elem_cubes.specs.Order.{cell_cmp}
use Rattle.cube_sets.specs.Sorted.{has}
use Rattle.cube_sets.specs.Closures.{is_cell_of, cells_of}
use Rattle.cube_sets.proofs.Covering.{cells_are_faces}
use Rattle.cube_maps.specs.CubeMaps.{Naming}
use Rattle.cell_complex.specs.RelativeComplex.{IsClosedList}
use Rattle.cell_complex.proofs.Deciding.{closed, has_is, has_from, from_has}
use Rattle.map_checks.specs.Faults.{AreNamed, together}
use Rattle.map_checks.proofs.Firsts.{left_together}

pub is_cell_held : (x : List (List Factor)) (q : List Factor) → has cell_cmp (cells_of x) q ≡ true → is_cell_of x q ≡ true
is_cell_held x q e = sym (cells_are_faces.faces x q) ∙ e

pub is_cell : (x : List (List Factor)) (q : List Factor) → Contains (cells_of x) q → is_cell_of x q ≡ true
is_cell x q w = is_cell_held x q (has_is (cells_of x) q ∙ has_from (cells_of x) q w)

is_listed : (x : List (List Factor)) (q : List Factor) → is_cell_of x q ≡ true → Contains (cells_of x) q
is_listed x q e = from_has (cells_of x) q (sym (has_is (cells_of x) q) ∙ cells_are_faces.faces x q ∙ e)

pub closed_cells : (x : List (List Factor)) → IsClosedList (cells_of x)
closed_cells x q r f w = is_listed x r (closed x q r f (is_cell x q w))

pub named_members : (map : List Naming) (x a : List (List Factor)) → AreNamed map (together x a) → AreNamed map x
named_members map x a named q w = named q (left_together x a q w)
