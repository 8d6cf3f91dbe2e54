use Rattle.std.proofs.Common.{arith}
use Rattle.packed_words.proofs.Keys.{keys_end, keys_fit, keys_skip}
use Rattle.packed_words.proofs.words.keys_of.Goals as goal

pub returns-clause-keys : goal.returns-clause-keys
returns-clause-keys c = keys_end c.args.cells.now c.cells.keys.items c.sort_distinct.new.values.items c.cells.number c.cells.invariant (omega (arith, c.len.ensures.count)) c.sort_distinct.ensures.members

pub returns-clause-fit : goal.returns-clause-fit
returns-clause-fit c = keys_fit c.args.cells.now c.cells.keys.items c.sort_distinct.new.values.items c.cells.number c.cells.invariant (omega (arith, c.len.ensures.count)) c.sort_distinct.ensures.members

pub cells-preserved-then-ends_with : goal.cells-preserved-then-ends_with
cells-preserved-then-ends_with c = keys_skip c.args.cells.now c.cells.keys.items c.cells.number c.cell_near.result c.packed_key-key.result (omega (arith, c.len.ensures.count)) c.cell_near.ensures c.packed_key-key.ensures.key
    (let h = c.ends_with.ensures c.if-ends_with.true in let e = c.deref.ensures.value in cc) c.packed_key-key.ensures.fits c.cells.invariant
