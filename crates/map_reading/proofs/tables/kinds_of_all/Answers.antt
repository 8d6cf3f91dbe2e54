use Rattle.std.proofs.Common.{suc, arith}
use Rattle.elem_cubes.specs.Cells.{dimension_of}
use Rattle.witness_reading.proofs.Tables.{put_all}
use Rattle.map_reading.proofs.tables.kinds_of_all.Goals as goal

pub returns : goal.returns
returns c =
    put_all (λ q. suc (dimension_of q)) c.args.all.now c.loop-place.place c.loop-place.kinds.items (omega (arith, c.loop-place-test.false, c.len-place-end.ensures.count)) c.loop-place.invariant
