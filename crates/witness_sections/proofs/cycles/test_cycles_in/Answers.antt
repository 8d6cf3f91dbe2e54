use Rattle.std.proofs.Common.{◌≡◌, ◌∙◌, ◌+◌, ℕ, length, sym, subst, arith}
use Rattle.std.proofs.lemmas.Bool.{false≢true}
use Rattle.witness_sections.specs.Readings.{cycles_in, ArePassedOf}
use Rattle.witness_sections.proofs.Loops.{cycles_more, cycles_fault, cycles_passed, count_here}
use Rattle.witness_sections.proofs.cycles.test_cycles_in.Goals as goal

pub returns-then-not-closed-clause-err : goal.returns-then-not-closed-clause-err
returns-then-not-closed-clause-err g c = cycles_fault c.args.section.now c.args.degree c.index.result.now c.requires.degree c.index.ensures c.loop-index.index c.index-in-loop-index.result.now (omega (arith, c.loop-index-test.true, c.len-index-end.ensures)) c.index-in-loop-index.ensures
    c.args.line (λ w. false≢true (sym c.if-not-closed.true ∙ c.in_ok-closed.ensures.1 w)) c.loop-index.invariant

pub loop-index-preserved : goal.loop-index-preserved
loop-index-preserved g c = cycles_more c.args.section.now c.args.degree c.index.result.now c.requires.degree c.index.ensures c.loop-index.index c.index-in-loop-index.result.now (omega (arith, c.loop-index-test.true, c.len-index-end.ensures)) c.index-in-loop-index.ensures
    (c.in_ok-closed.ensures.0 c.if-not-closed.false) c.loop-index.invariant

pub returns-clause-ok : goal.returns-clause-ok
returns-clause-ok g c =
    let s = c.args.section.now in
    let e : c.loop-index.index ≡ length c.index.result.now.cycles.items = omega (arith, c.loop-index-test.false, c.loop-index.auto.index-end, c.len-index-end.ensures) in
    let n : c.loop-index.index ≡ c.len.result = omega (arith, e, c.len.ensures) in
    subst (λ (m : ℕ). ArePassedOf s (cycles_in c.args.degree) c.args.line (c.args.line + m)) n
    (cycles_passed s c.args.degree c.index.result.now c.requires.degree c.index.ensures c.loop-index.index c.args.line e c.loop-index.invariant)

pub returns-clause-next : goal.returns-clause-next
returns-clause-next g c =
    let e = count_here c.args.section.now.degrees.items c.args.degree c.index.result.now c.requires.degree c.index.ensures in
    omega (arith, e, c.len.ensures)
