use Rattle.std.proofs.Common.{◌≡◌, ◌∙◌, ◌+◌, ◌<◌, ℕ, sym, subst, arith}
use Rattle.std.proofs.lemmas.Bool.{false≢true}
use Rattle.witness_laws.specs.declared.law.Law.TheVariants as laws
use Rattle.witness_laws.specs.declared.law.WitnessFault.TheVariants.{At}
use Rattle.witness_rows.specs.Rows.{RowsPassed, IsRowFault}
use Rattle.witness_rows.proofs.Judging.{rows_more, rows_fault, rows_passed}
use Rattle.witness_rows.proofs.rows.test_rows.Goals as goal

pub returns-then-not-right-clause-err : goal.returns-then-not-right-clause-err
returns-then-not-right-clause-err g c =
    let l : c.loop-row.row < c.args.matrix.now.rows = omega (arith, c.loop-row-test.true, c.rows-row-end.ensures.value) in
    subst (λ (n : ℕ). IsRowFault g.row.P c.args.matrix.now c.args.rows.now c.args.cocycles.now c.args.line (At (c.args.line + n) laws.Matrix)) (sym c.from.ensures)
    (rows_fault g.row.P c.args.matrix.now c.args.rows.now c.args.cocycles.now c.loop-row.row l c.in_ok-values.values c.index-cocycles-row.result (omega (arith, l, c.requires.cocycles)) c.index-cocycles-row.is c.in_ok-values.ensures.sum
    c.args.line (λ w. false≢true (sym c.if-not-right.true ∙ c.agrees-right.ensures.1 w)) c.loop-row.invariant)

pub loop-row-preserved : goal.loop-row-preserved
loop-row-preserved g c =
    let l : c.loop-row.row < c.args.matrix.now.rows = omega (arith, c.loop-row-test.true, c.rows-row-end.ensures.value) in
    rows_more g.row.P c.args.matrix.now c.args.rows.now c.args.cocycles.now c.loop-row.row l c.in_ok-values.values c.index-cocycles-row.result (omega (arith, l, c.requires.cocycles)) c.index-cocycles-row.is c.in_ok-values.ensures.sum
    (c.agrees-right.ensures.0 c.if-not-right.false) c.loop-row.invariant

pub returns-clause-ok : goal.returns-clause-ok
returns-clause-ok g c =
    let e : c.loop-row.row ≡ c.args.matrix.now.rows = omega (arith, c.loop-row-test.false, c.loop-row.auto.row-end, c.rows-row-end.ensures.value) in
    let n : c.loop-row.row ≡ c.from-2.result = omega (arith, e, c.from-2.ensures, c.rows.ensures.value) in
    subst (λ (m : ℕ). RowsPassed g.row.P c.args.matrix.now c.args.rows.now c.args.cocycles.now c.args.line (c.args.line + m)) n (rows_passed g.row.P c.args.matrix.now c.args.rows.now c.args.cocycles.now c.loop-row.row c.args.line e c.loop-row.invariant)
