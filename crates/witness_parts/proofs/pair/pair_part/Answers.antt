use Rattle.std.proofs.Common.{◌≡◌, List, ap, ◌∙◌, ◌+◌, arith, length, subst}
use Rattle.elem_cubes.specs.Cells.{Factor}
use Rattle.cube_sets.specs.Closures.{cells_of}
use Rattle.cell_complex.specs.RelativeComplex.{is_relative}
use Rattle.witness_laws.specs.Inputs.{all_cells, relative_cells}
use Rattle.witness_writing.proofs.Counting.{kept_are, relative_inside}
use Rattle.witness_parts.specs.Filed.{HasCycles, HasChains}
use Rattle.witness_parts.specs.Tables.{section_by}
use Rattle.witness_parts.proofs.Filing.{rows_are}
use Rattle.witness_parts.proofs.Placing.{part_tables}
use Rattle.witness_parts.proofs.pair.pair_part.Goals as goal

pub cycles_of-requires : goal.cycles_of-requires
cycles_of-requires g c =
    let x = c.args.x.now.cells in
    let a = c.args.a.now.cells in
    let e : c.in_ok-all.all ≡ all_cells x a = c.in_ok-all.ensures ∙ ap cells_of c.in_ok-set.ensures in
    let f = kept_are x a c.args.cells.now c.requires.relative.listing c.len-count.ensures.sorted in (
      (omega arith),
      (
        (omega arith),
        ((omega arith), (c.requires.relative.complex.count, (relative_inside x a c.in_ok-all.all c.args.cells.now e f, (omega (arith, ap length e, c.requires.few))))),
      ),
    )

pub cocycles_of-requires : goal.cocycles_of-requires
cocycles_of-requires g c =
    let x = c.args.x.now.cells in
    let a = c.args.a.now.cells in
    let e : c.in_ok-all.all ≡ all_cells x a = c.in_ok-all.ensures ∙ ap cells_of c.in_ok-set.ensures in
    let f = kept_are x a c.args.cells.now c.requires.relative.listing c.len-count.ensures.sorted in (
      (omega arith),
      (
        (omega arith),
        ((omega arith), (c.requires.relative.complex.count, (relative_inside x a c.in_ok-all.all c.args.cells.now e f, (omega (arith, ap length e, c.requires.few))))),
      ),
    )

pub rows_of-requires : goal.rows_of-requires
rows_of-requires g c =
    let x = c.args.x.now.cells in
    let a = c.args.a.now.cells in
    let e : c.in_ok-all.all ≡ all_cells x a = c.in_ok-all.ensures ∙ ap cells_of c.in_ok-set.ensures in
    let f = kept_are x a c.args.cells.now c.requires.relative.listing c.len-count.ensures.sorted in (
      (omega arith),
      (
        (omega arith),
        ((omega arith), (c.requires.relative.complex.count, (relative_inside x a c.in_ok-all.all c.args.cells.now e f, (omega (arith, ap length e, c.requires.few))))),
      ),
    )

pub returns : goal.returns
returns g c =
    let p = g.row.P in
    let x = c.args.x.now.cells in
    let a = c.args.a.now.cells in
    let top = c.args.top in
    let s = section_by p c.args.cells.now c.args.basis.now in
    let e : c.in_ok-all.all ≡ all_cells x a = c.in_ok-all.ensures ∙ ap cells_of c.in_ok-set.ensures in
    let f = kept_are x a c.args.cells.now c.requires.relative.listing c.len-count.ensures.sorted in
    part_tables top x a s _
    (subst (λ (l : List (List Factor)). HasCycles p l (top + 1) s.size s.cycle c.in_ok-cycles.cycles.items) e c.in_ok-cycles.ensures)
    (subst (λ (l : List (List Factor)). HasChains p l (top + 1) s.size s.cocycle c.in_ok-cocycles.cocycles.items) e c.in_ok-cocycles.ensures)
    (rows_are p c.args.basis.now (is_relative x a) c.in_ok-all.all (all_cells x a) c.args.cells.now (relative_cells x a) c.in_ok-homotopy.homotopy.items e f c.requires.relative.listing c.in_ok-homotopy.ensures)
