use Rattle.std.proofs.Common.{arith}
use Rattle.field_mod.proofs.Table.{two_le}
use Rattle.witness_runs.proofs.Naming.{due_cycle_from, miss_cycle_from}
use Rattle.witness_runs.proofs.due.due_cycle.Goals as goal

pub returns-in-Ok-clause-ok : goal.returns-in-Ok-clause-ok
returns-in-Ok-clause-ok g c =
    let h = rw c.in-Some.is at c.in_ok-degree.ensures in
    due_cycle_from g.row.P c.args.low c.args.top c.args.kinds.now c.args.bytes.now c.in-Some.degree c.in-Some.terms.items c.in-Ok.chain c.in-Some.rest.now
    (omega (arith, two_le g.row.P c.args.field.listed)) c.requires.table h (rw c.deref.ensures.value at c.in-Ok.ensures.names) c.in-Ok.ensures.normal (rw c.deref.ensures.value at c.in-Ok.ensures.sum)

pub returns-in-Some-clause-err : goal.returns-in-Some-clause-err
returns-in-Some-clause-err g c =
    let h = rw c.in-Some.is at c.in_ok-degree.ensures in
    miss_cycle_from g.row.P c.args.low c.args.top c.args.kinds.now c.args.bytes.now c.in-Some.degree c.in-Some.terms.items c.in-Some.rest.now c.in-Err.miss c.requires.table h
    (rw c.deref.ensures.value at c.in-Err.ensures.err)
