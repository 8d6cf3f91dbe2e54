use Rattle.std.proofs.Common.{◌≡◌, ◌∙◌, ◌+◌, ℕ, length, sym, subst, arith}
use Rattle.std.proofs.lemmas.Bool.{false≢true}
use Rattle.witness_laws.specs.declared.law.Law.TheVariants as laws
use Rattle.witness_laws.specs.declared.law.WitnessFault.TheVariants.{At}
use Rattle.witness_values.specs.Fillings.{FillingsPassed, IsFillingFault}
use Rattle.witness_values.proofs.Filling.{fillings_more, fillings_fault, fillings_passed}
use Rattle.witness_values.proofs.fillings.test_fillings.Goals as goal

pub returns-then-not-filled-clause-err : goal.returns-then-not-filled-clause-err
returns-then-not-filled-clause-err g c =
    subst (λ (n : ℕ). IsFillingFault g.row.P c.args.complex.now c.args.fillings.now c.args.vertex c.args.line (At (c.args.line + n) laws.ValueContraction)) (sym c.from.ensures)
    (fillings_fault g.row.P c.args.complex.now c.args.fillings.now c.args.vertex c.loop-place.place c.args.line (omega (arith, c.loop-place-test.true, c.len-place-end.ensures.count)) (λ w. false≢true (sym c.if-not-filled.true ∙ c.in_ok-filled.ensures.1 w)) c.loop-place.invariant)

pub loop-place-preserved : goal.loop-place-preserved
loop-place-preserved g c = fillings_more g.row.P c.args.complex.now c.args.fillings.now c.args.vertex c.loop-place.place (omega (arith, c.loop-place-test.true, c.len-place-end.ensures.count)) (c.in_ok-filled.ensures.0 c.if-not-filled.false) c.loop-place.invariant

pub returns-clause-ok : goal.returns-clause-ok
returns-clause-ok g c =
    let e : c.loop-place.place ≡ length c.args.complex.now.boundaries = omega (arith, c.loop-place-test.false, c.loop-place.auto.place-end, c.len-place-end.ensures.count) in
    let n : c.loop-place.place ≡ length c.args.fillings.now = omega (arith, e, c.requires.fillings) in
    subst (λ (m : ℕ). FillingsPassed g.row.P c.args.complex.now c.args.fillings.now c.args.vertex c.args.line (c.args.line + m)) n (fillings_passed g.row.P c.args.complex.now c.args.fillings.now c.args.vertex c.loop-place.place c.args.line e c.loop-place.invariant)
