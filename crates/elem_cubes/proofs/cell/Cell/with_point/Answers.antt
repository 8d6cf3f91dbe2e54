use Rattle.std.proofs.Common.{◌<◌, ◌≤◌, ◌*◌, ◌%◌, ◌^◌, arith, take}
use Rattle.std.specs.Prelude.{bit_and}
use Rattle.std.specs.Int.{w8, w32, bit_not}
use Rattle.std.proofs.lemmas.Int.{to_z-of_z}
use Rattle.elem_cubes.specs.Cells.{point}
use Rattle.elem_cubes.proofs.Bits.{point_set, point_few}
use Rattle.elem_cubes.proofs.Keeping.{len_kept, cell_kept, not_many, set_kept, set_seen}
use Rattle.elem_cubes.proofs.cell.Cell.with_point.Goals as goal

pub invariant_of-result : goal.invariant_of-result
invariant_of-result c =
    let ends = c.self.inside.ends in
    let len = c.self.inside.len in
    let axes = c.self.inside.axes in
    let i = c.args.i in
    let e = len_kept ends len axes c.args.self.now c.self.invariant c.self.view_is in
    let m = not_many c.args.self.now (cell_kept ends len axes c.args.self.now c.self.invariant c.self.view_is) in
    let small : i < len = omega (arith, c.requires.axis) in
    let wide : len ≤ 8 = omega arith in
    rw (to_z-of_z w32 c.args.end c.ranges.end) (set_kept ends len axes c.args.self.now c.self.invariant c.self.view_is (bit_and c.self.inside.axes (bit_not w8 (1 * 2 ^ c.args.i % 2 ^ 8))) i c.args.end (point c.args.end) small (point_few c.self.inside.len c.self.inside.axes (bit_not w8 (1 * 2 ^ c.args.i % 2 ^ 8)) c.self.invariant.few) c.requires.fits
    (point_set (take len ends) axes i c.args.end (omega (arith, c.self.invariant.long)) (omega (arith, c.self.invariant.long))))

pub returns : goal.returns
returns c =
    let ends = c.self.inside.ends in
    let len = c.self.inside.len in
    let axes = c.self.inside.axes in
    let i = c.args.i in
    let e = len_kept ends len axes c.args.self.now c.self.invariant c.self.view_is in
    let m = not_many c.args.self.now (cell_kept ends len axes c.args.self.now c.self.invariant c.self.view_is) in
    let small : i < len = omega (arith, c.requires.axis) in
    rw (to_z-of_z w32 c.args.end c.ranges.end) (set_seen ends len axes c.args.self.now c.self.invariant c.self.view_is (bit_and c.self.inside.axes (bit_not w8 (1 * 2 ^ c.args.i % 2 ^ 8))) i c.args.end (point c.args.end) small
    (point_set (take len ends) axes i c.args.end (omega (arith, c.self.invariant.long)) (omega (arith, c.self.invariant.long))))
