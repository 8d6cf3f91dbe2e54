use Rattle.std.proofs.Common.{◌≡◌, ◌∙◌, ◌+◌, ℕ, length, sym, subst, arith}
use Rattle.std.proofs.lemmas.Bool.{false≢true}
use Rattle.witness_laws.specs.declared.law.Law.TheVariants as laws
use Rattle.witness_laws.specs.declared.law.WitnessFault.TheVariants.{At}
use Rattle.witness_sections.specs.Readings.{homotopy_lines, ArePassedOf, IsFaultOf}
use Rattle.witness_sections.proofs.Loops.{contractions_more, contractions_fault, contractions_passed}
use Rattle.witness_sections.proofs.contractions.test_contractions.Goals as goal

pub returns-then-not-contracted-clause-err : goal.returns-then-not-contracted-clause-err
returns-then-not-contracted-clause-err g c =
    let s = c.args.section.now in
    subst (λ (n : ℕ). IsFaultOf s homotopy_lines c.args.line (At (c.args.line + n) laws.Contraction)) (sym c.from.ensures)
    (contractions_fault s c.loop-cell.cell c.args.line (omega (arith, c.loop-cell-test.true, c.len-cell-end.ensures.count)) (λ w. false≢true (sym c.if-not-contracted.true ∙ c.in_ok-contracted.ensures.1 w)) c.loop-cell.invariant)

pub loop-cell-preserved : goal.loop-cell-preserved
loop-cell-preserved g c = contractions_more c.args.section.now c.loop-cell.cell (omega (arith, c.loop-cell-test.true, c.len-cell-end.ensures.count)) (c.in_ok-contracted.ensures.0 c.if-not-contracted.false) c.loop-cell.invariant

pub returns-clause-ok : goal.returns-clause-ok
returns-clause-ok g c =
    let s = c.args.section.now in
    let e : c.loop-cell.cell ≡ length s.complex.boundaries = omega (arith, c.loop-cell-test.false, c.loop-cell.auto.cell-end, c.len-cell-end.ensures.count) in
    let n : c.loop-cell.cell ≡ c.len.result = let w = c.requires.whole.homotopies in omega (arith, e, w, c.len.ensures) in
    subst (λ (m : ℕ). ArePassedOf s homotopy_lines c.args.line (c.args.line + m)) n (contractions_passed s c.loop-cell.cell c.args.line e c.loop-cell.invariant)
