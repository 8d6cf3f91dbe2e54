use Rattle.std.proofs.Common.{arith}
use Rattle.field_mod.proofs.Table.{two_le}
use Rattle.witness_runs.proofs.Naming.{due_from, miss_from}
use Rattle.witness_runs.proofs.due.due_chain.Goals as goal

pub returns-in-Ok-clause-ok : goal.returns-in-Ok-clause-ok
returns-in-Ok-clause-ok g c =
    let h = rw c.in-Some.is at c.in_ok-terms.ensures in
    due_from g.row.P c.args.word.now c.args.numbers.now c.args.kinds.now c.args.wanted c.args.bytes.now c.in-Some.terms.items c.in-Ok.chain c.in-Some.rest.now
    (omega (arith, two_le g.row.P c.args.field.listed)) c.requires h (rw c.deref.ensures.value at c.in-Ok.ensures.names) c.in-Ok.ensures.normal (rw c.deref.ensures.value at c.in-Ok.ensures.sum)

pub returns-in-Some-clause-err : goal.returns-in-Some-clause-err
returns-in-Some-clause-err g c =
    let h = rw c.in-Some.is at c.in_ok-terms.ensures in
    miss_from g.row.P c.args.word.now c.args.numbers.now c.args.kinds.now c.args.wanted c.args.bytes.now c.in-Some.terms.items c.in-Some.rest.now c.in-Err.miss c.requires h
    (rw c.deref.ensures.value at c.in-Err.ensures.err)
