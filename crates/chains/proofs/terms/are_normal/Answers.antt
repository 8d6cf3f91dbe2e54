use Rattle.std.proofs.Common.{◌≡◌, ◌<◌, ◌≤◌, ◌^◌, ◌+◌, ℕ, List, get_or, arith, subst, sym, take}
use Rattle.std.proofs.lemmas.List.{take_all}
use Rattle.chains.specs.Terms.{IsNormalWithin}
use Rattle.chains.proofs.TermLists.{normal_more, widened}
use Rattle.chains.proofs.terms.are_normal.Goals as goal

pub loop-generator-preserved : goal.loop-generator-preserved
loop-generator-preserved g c =
    let i = c.loop-generator.generator-index in
    let t : ℕ × ℕ = get_or c.args.terms.now i (0, 0) in
    let e : c.from-least.result ≡ t.0 = omega (arith, c.from-least.ensures) in
    let short : t.0 < 2 ^ 32 = omega arith in
    let above : c.loop-generator.least ≤ t.0 = omega (arith, c.from.ensures, c.if-from-least.false) in
    let some : 0 < t.1 = omega (arith, c.if-number-eq0.false) in
    let below : t.1 < g.row.P = omega (arith, c.if-number.false) in (
      subst (λ n. IsNormalWithin g.row.P 0 (n + 1) (take (i + 1) c.args.terms.now)) (sym e)
          (normal_more g.row.P i c.loop-generator.least c.args.terms.now c.loop-generator-test.true above some below c.loop-generator.invariant.0),
      omega (arith, e, short),
    )

pub returns : goal.returns
returns g c _ =
    let whole : IsNormalWithin g.row.P 0 c.loop-generator.least c.args.terms.now =
    subst (λ (us : List (ℕ × ℕ)). IsNormalWithin g.row.P 0 c.loop-generator.least us) (take_all c.loop-generator.generator-index c.args.terms.now c.loop-generator-test.false) c.loop-generator.invariant.0 in
    widened g.row.P 0 c.loop-generator.least (2 ^ 32) c.args.terms.now whole c.loop-generator.invariant.1
