use Rattle.std.proofs.Common.{◌≡◌, ◌+◌, ◌<◌, ◌^◌, ℕ, length, sym, subst, arith}
use Rattle.witness_sections.specs.declared.section.Degree.{Degree}
use Rattle.witness_sections.specs.Readings.{cocycles_in, ArePassedOf, IsWholeDegree}
use Rattle.witness_sections.proofs.Loops.{cocycles_more, cocycles_fault, cocycles_passed, count_here}
use Rattle.witness_sections.proofs.Parting.{outcome_as}
use Rattle.witness_sections.proofs.cocycles.test_cocycles_in.Goals as goal

pub overflow_cast-index : goal.overflow_cast-index
overflow_cast-index g c =
    let s = c.args.section.now in
    let d = c.index-kept.result.now in
    let w : IsWholeDegree (length s.complex.boundaries) d = subst (λ (e : Degree g.row.P). IsWholeDegree (length s.complex.boundaries) e) (sym c.index-kept.ensures) (c.requires.whole.degrees c.args.degree d c.requires.degree) in
    let e = count_here s.degrees.items c.args.degree d c.requires.degree c.index-kept.ensures in
    let f = w.cocycles in
    let h : c.loop-index.index < 2 ^ 32 = omega (arith, e, f, c.requires.few, c.loop-index-test.true, c.len-index-end.ensures) in
    record { fits = h }

pub returns-in-Some-clause-err : goal.returns-in-Some-clause-err
returns-in-Some-clause-err g c =
    let s = c.args.section.now in
    let d = c.index-kept.result.now in
    cocycles_fault s c.args.degree d c.requires.degree c.index-kept.ensures c.loop-index.index c.index.result.now (omega (arith, c.loop-index-test.true, c.len-index-end.ensures)) c.index.ensures c.in_ok-fault.fault c.in-Some.law c.args.line c.in-Some.is
    (outcome_as g.row.P c.deref.result.now s.coboundaries.items c.deref-in-loop-index.result.now d.at_cycles.items c.index.result.now c.loop-index.index c.in_ok-fault.fault c.deref.ensures.value c.deref-in-loop-index.ensures.value c.in_ok-fault.ensures)
    c.loop-index.invariant

pub loop-index-preserved : goal.loop-index-preserved
loop-index-preserved g c =
    let s = c.args.section.now in
    let d = c.index-kept.result.now in
    cocycles_more s c.args.degree d c.requires.degree c.index-kept.ensures c.loop-index.index c.index.result.now (omega (arith, c.loop-index-test.true, c.len-index-end.ensures)) c.index.ensures c.in_ok-fault.fault c.in_default.is
    (outcome_as g.row.P c.deref.result.now s.coboundaries.items c.deref-in-loop-index.result.now d.at_cycles.items c.index.result.now c.loop-index.index c.in_ok-fault.fault c.deref.ensures.value c.deref-in-loop-index.ensures.value c.in_ok-fault.ensures)
    c.loop-index.invariant

pub returns-clause-ok : goal.returns-clause-ok
returns-clause-ok g c =
    let s = c.args.section.now in
    let e : c.loop-index.index ≡ length c.index-kept.result.now.cocycles.items = omega (arith, c.loop-index-test.false, c.loop-index.auto.index-end, c.len-index-end.ensures) in
    let n : c.loop-index.index ≡ c.len.result = omega (arith, e, c.len.ensures) in
    subst (λ (m : ℕ). ArePassedOf s (cocycles_in c.args.degree) c.args.line (c.args.line + m)) n
    (cocycles_passed s c.args.degree c.index-kept.result.now c.requires.degree c.index-kept.ensures c.loop-index.index c.args.line e c.loop-index.invariant)

pub returns-clause-next : goal.returns-clause-next
returns-clause-next g c =
    let s = c.args.section.now in
    let d = c.index-kept.result.now in
    let w : IsWholeDegree (length s.complex.boundaries) d = subst (λ (e : Degree g.row.P). IsWholeDegree (length s.complex.boundaries) e) (sym c.index-kept.ensures) (c.requires.whole.degrees c.args.degree d c.requires.degree) in
    let e = count_here s.degrees.items c.args.degree d c.requires.degree c.index-kept.ensures in
    let f = w.cocycles in
    omega (arith, e, f, c.len.ensures)
