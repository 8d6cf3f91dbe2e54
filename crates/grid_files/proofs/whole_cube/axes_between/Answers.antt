use Rattle.std.proofs.Common.{◌≡◌, ◌-◌, sym, arith, length, pos, to_z, of_z, w32, rules, get_or}
use Rattle.std.proofs.lemmas.Int.{to_z-of_z}
use Rattle.grid_files.proofs.WholeCubes.{not_between, between_more, axes_room}
use Rattle.grid_files.proofs.whole_cube.axes_between.Goals as goal

pub returns-in_err-wide-clause-axes : goal.returns-in_err-wide-clause-axes
returns-in_err-wide-clause-axes c =
    let low : to_z w32 (of_z w32 (get_or c.args.lows.now (c.loop-i.i - 1) (pos 0))) ≡ get_or c.args.lows.now (c.loop-i.i - 1) (pos 0) = search (rules, to_z-of_z) in
    let high : to_z w32 (of_z w32 (get_or c.args.highs.now (c.loop-i.i - 1) (pos 0))) ≡ get_or c.args.highs.now (c.loop-i.i - 1) (pos 0) = search (rules, to_z-of_z) in
    let none = rw (low, high) at c.in_err-wide.ensures in
    rw c.from_residual.ensures (sym (not_between (c.loop-i.i - 1) c.args.lows.now c.args.highs.now (pos 0) (omega arith) c.requires.same (sym none)))

pub loop-i-preserved : goal.loop-i-preserved
loop-i-preserved c =
    let low : to_z w32 (of_z w32 (get_or c.args.lows.now (c.loop-i.i - 1) (pos 0))) ≡ get_or c.args.lows.now (c.loop-i.i - 1) (pos 0) = search (rules, to_z-of_z) in
    let high : to_z w32 (of_z w32 (get_or c.args.highs.now (c.loop-i.i - 1) (pos 0))) ≡ get_or c.args.highs.now (c.loop-i.i - 1) (pos 0) = search (rules, to_z-of_z) in
    let some = rw (low, high) at c.in_ok-wide.ensures in
    record {
      between = rw c.bit.ensures.value (between_more (c.loop-i.i - 1) c.loop-i.i c.args.lows.now c.args.highs.now (pos 0) c.loop-i.axes c.in_ok-wide.wide (omega arith) (omega arith) c.requires.same (sym some) c.loop-i.invariant.between);
      room = rw c.bit.ensures.value (axes_room (length c.args.lows.now - c.loop-i.i) (length c.args.lows.now - (c.loop-i.i - 1)) c.loop-i.axes c.in_ok-wide.wide (omega arith) c.loop-i.invariant.room);
      within = omega arith;
    }
