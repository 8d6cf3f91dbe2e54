use Rattle.std.proofs.Common.{List, length, refl, subst, sym, ℕ}
use Rattle.witness_runs.specs.Cycles.{HasCycles, StopsCycles}
use Rattle.witness_runs.proofs.Cycling.{cycles_none, cycles_more, stop_cycles}
use Rattle.witness_runs.proofs.cycles.cycles_due.Goals as goal

pub reading-init : goal.reading-init
reading-init g c =
    subst (λ (x : List (ℕ × List (ℕ × ℕ))). HasCycles g.row.P c.args.top c.args.kinds.now c.args.bytes.now x 0 c.args.bytes.now) (sym c.new-cycles.ensures.items)
    (cycles_none g.row.P c.args.top c.args.kinds.now c.args.bytes.now)

pub reading-preserved : goal.reading-preserved
reading-preserved g c =
    cycles_more g.row.P c.args.top c.args.kinds.now c.args.bytes.now c.reading.cycles.items c.keep_cycle.new.cycles.items c.reading.low c.reading.rest.now c.in-Ok.degree c.in-Ok.chain c.in-Ok.behind.now
    c.reading.invariant c.in-Ok.ensures.ok c.in_ok-keep_cycle-in-Ok.ensures

pub returns-in-Err-clause-err : goal.returns-in-Err-clause-err
returns-in-Err-clause-err g c =
    subst (StopsCycles g.row.P c.args.top c.args.kinds.now c.args.bytes.now) (sym c.at.ensures)
    (stop_cycles g.row.P c.args.top c.args.kinds.now c.args.bytes.now c.reading.cycles.items c.reading.low c.reading.rest.now (length c.reading.rest.now) c.in-Err.miss c.reading.invariant
    (c.begins_with_z.ensures.0 c.reading-test.true) refl c.in-Err.ensures.err)
