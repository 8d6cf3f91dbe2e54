use Rattle.std.proofs.Common.{◌∙◌, ◌+◌, sym, ap, inl, inr, arith, length, subst}
use Rattle.std.specs.Prelude.{slice_index}
use Rattle.std.proofs.lemmas.Bool.{true≢false}
use Rattle.chains.specs.ChainComplex.{ChainComplex}
use Rattle.excision.proofs.Telling.{OneSo, one_first, one_skip, one_found, one_two, one_end}
use Rattle.excision.proofs.deciding.is_one_vertex.Goals as goal
use Rattle.excision.proofs.deciding.is_one_vertex.Goals.{then-alive+else-found+else-degree-ne0, else-alive}

pub loop-generator-init : goal.loop-generator-init
loop-generator-init g c = one_first c.args.log.now.complex c.args.log.now.steps

pub returns-then-found : goal.returns-then-found
returns-then-found g c = (
  (λ e. absurd (true≢false (sym e))),
  (λ w. absurd (one_two c.args.log.now.complex c.args.log.now.steps c.loop-generator.generator c.loop-generator.found
      (let e = c.len-generator-end.ensures.count ∙ ap (λ (K : ChainComplex). length K.boundaries) c.complex.ensures in omega (arith, c.loop-generator-test.true, e)) (c.alive.ensures.0 c.if-alive.true) (inl c.if-found.true) c.loop-generator.invariant w)),
)

pub returns-then-degree-ne0 : goal.returns-then-degree-ne0
returns-then-degree-ne0 g c = (
  (λ e. absurd (true≢false (sym e))),
  (λ w. absurd (one_two c.args.log.now.complex c.args.log.now.steps c.loop-generator.generator c.loop-generator.found
      (let e = c.len-generator-end.ensures.count ∙ ap (λ (K : ChainComplex). length K.boundaries) c.complex.ensures in omega (arith, c.loop-generator-test.true, e)) (c.alive.ensures.0 c.if-alive.true)
      (inr (λ z. c.if-degree-ne0.true (c.degree.ensures.value ∙ ap (λ (K : ChainComplex). slice_index K.degrees c.loop-generator.generator) c.complex-then-alive.ensures ∙ z))) c.loop-generator.invariant w)),
)

pub loop-generator-preserved : goal.loop-generator-preserved
loop-generator-preserved g c = elim c.if-alive.branch [
  | then-alive+else-found+else-degree-ne0 w ↦ subst (OneSo c.args.log.now.complex c.args.log.now.steps (c.loop-generator.generator + 1)) (sym w.found-is)
      (one_found c.args.log.now.complex c.args.log.now.steps c.loop-generator.generator c.loop-generator.found w.if-found.false (c.alive.ensures.0 w.if-alive.true)
      (sym (w.degree.ensures.value ∙ ap (λ (K : ChainComplex). slice_index K.degrees c.loop-generator.generator) w.complex-then-alive.ensures) ∙ w.if-degree-ne0.false) c.loop-generator.invariant)
  | else-alive w ↦ subst (OneSo c.args.log.now.complex c.args.log.now.steps (c.loop-generator.generator + 1)) (sym w.found-is)
      (one_skip c.args.log.now.complex c.args.log.now.steps c.loop-generator.generator c.loop-generator.found (λ u. true≢false (sym (c.alive.ensures.1 u) ∙ w.if-alive.false)) c.loop-generator.invariant)
]

pub returns : goal.returns
returns g c = one_end c.args.log.now.complex c.args.log.now.steps c.loop-generator.generator c.loop-generator.found
    (let e = c.len-generator-end.ensures.count ∙ ap (λ (K : ChainComplex). length K.boundaries) c.complex.ensures in omega (arith, c.loop-generator-test.false, c.loop-generator.auto.generator-end, e)) c.loop-generator.invariant
