use Rattle.std.proofs.lemmas.Result.{err_from_is_err_and, IfOk-weaker, IfErr-weaker}
use Rattle.witness_sections.specs.Readings.{homotopy_lines, section_lines, ArePassedOf, IsFaultOf}
use Rattle.witness_sections.proofs.Wholes.{all_passed, first_fault, second_fault, third_fault}
use Rattle.witness_sections.proofs.pair.test_section.Goals as goal

pub returns-in_err-first-clause-err : goal.returns-in_err-first-clause-err
returns-in_err-first-clause-err g c =
    let p = err_from_is_err_and c.from_residual.result c.from_residual.ensures.1 in
    rw (p.1, p.2) (first_fault c.args.section.now c.args.line c.in_err-first.field-0.0 c.in_err-first.ensures.err)

pub returns-in_err-second-clause-err : goal.returns-in_err-second-clause-err
returns-in_err-second-clause-err g c =
    let p = err_from_is_err_and c.from_residual-in_err-second.result c.from_residual-in_err-second.ensures.1 in
    rw (p.1, p.2) (second_fault c.args.section.now c.args.line c.in_ok-first.first c.in_err-second.field-0.0 c.in_ok-first.ensures.ok c.in_err-second.ensures.err)

pub returns-clause-ok : goal.returns-clause-ok
returns-clause-ok g c = IfOk-weaker c.test_contractions.result (ArePassedOf c.args.section.now homotopy_lines c.in_ok-second.second) (ArePassedOf c.args.section.now section_lines c.args.line)
    (λ third w. all_passed c.args.section.now c.args.line c.in_ok-first.first c.in_ok-second.second third c.in_ok-first.ensures.ok c.in_ok-second.ensures.ok w) c.test_contractions.ensures.ok

pub returns-clause-err : goal.returns-clause-err
returns-clause-err g c = IfErr-weaker c.test_contractions.result (IsFaultOf c.args.section.now homotopy_lines c.in_ok-second.second) (IsFaultOf c.args.section.now section_lines c.args.line)
    (λ fault w. third_fault c.args.section.now c.args.line c.in_ok-first.first c.in_ok-second.second 0 c.in_ok-first.ensures.ok c.in_ok-second.ensures.ok fault w) c.test_contractions.ensures.err
