use Rattle.std.proofs.Common.{ℕ, List, sym, subst}
use Rattle.witness_runs.specs.Rows.{HasRows}
use Rattle.witness_runs.proofs.Rowing.{rows_none, rows_more, stop_row}
use Rattle.witness_runs.proofs.rows.rows_due.Goals as goal

pub loop-line-init : goal.loop-line-init
loop-line-init c =
    subst (λ (x : List ℕ). HasRows c.args.modulus c.args.degree c.args.width 0 c.args.bytes.now x c.args.bytes.now) (sym c.new-entries.ensures.items)
    (rows_none c.args.modulus c.args.degree c.args.width c.args.bytes.now)

pub loop-line-preserved : goal.loop-line-preserved
loop-line-preserved c =
    let h = rw c.in-Some.is at c.in_ok-row.ensures in
    rows_more c.args.modulus c.args.degree c.args.width c.loop-line.line c.args.bytes.now c.loop-line.entries.items c.keep_row.new.entries.items c.loop-line.rest.now c.in-Some.row.items c.in-Some.behind.now
    c.loop-line.invariant h (rw c.deref.ensures.value at c.in_ok-keep_row-in-Some.ensures)

pub returns-in-None-clause-err : goal.returns-in-None-clause-err
returns-in-None-clause-err c =
    let h = rw c.in-None.is at c.in_ok-row.ensures in
    stop_row c.args.modulus c.args.degree c.args.width c.args.height c.loop-line.line c.args.bytes.now c.loop-line.entries.items c.loop-line.rest.now c.loop-line-test.true c.loop-line.invariant h
