use Rattle.std.proofs.Common.{List, arith, length, refl, subst, sym, ℕ}
use Rattle.witness_runs.specs.Runs.{HasRun, StopsRun}
use Rattle.witness_runs.proofs.Running.{run_none, run_more, stop_from}
use Rattle.witness_runs.proofs.runs.chains_due.Goals as goal

pub loop-line-init : goal.loop-line-init
loop-line-init g c = record {
  run = subst (λ (x : List (List (ℕ × ℕ))). HasRun g.row.P c.args.word.now c.args.first c.args.numbers.now 0 c.args.bytes.now x c.args.bytes.now) (sym c.new-chains.ensures.items)
      (run_none g.row.P c.args.word.now c.args.first c.args.numbers.now c.args.bytes.now);
  names = λ i l. absurd (omega arith);
}

pub loop-line-preserved : goal.loop-line-preserved
loop-line-preserved g c =
    let w = run_more g.row.P c.args.word.now c.args.first c.args.numbers.now c.args.kinds.now c.args.wanted.now c.loop-line.line c.args.bytes.now c.loop-line.chains.items c.keep.new.chains.items
    c.in-Ok.chain c.loop-line.rest.now c.in-Ok.behind.now (omega arith) c.loop-line.invariant.run c.loop-line.invariant.names c.in-Ok.ensures.ok c.in_ok-keep-in-Ok.ensures in
    record { run = w.0; names = w.1 }

pub returns-in-Err-clause-err : goal.returns-in-Err-clause-err
returns-in-Err-clause-err g c =
    subst (StopsRun g.row.P c.args.word.now c.args.first c.args.numbers.now c.args.kinds.now c.args.wanted.now c.args.bytes.now) (sym c.at.ensures)
    (stop_from g.row.P c.args.word.now c.args.first c.args.numbers.now c.args.kinds.now c.args.wanted.now c.loop-line.line c.args.bytes.now c.loop-line.chains.items c.loop-line.rest.now (length c.loop-line.rest.now) c.in-Err.miss
    (omega arith) c.loop-line.invariant.run c.loop-line.invariant.names refl c.in-Err.ensures.err)
