use Rattle.std.proofs.Common.{◌≡◌, ◌∙◌, suc, [], ◌∷◌, ap, length, map, arith}
use Rattle.witness_laws.specs.Lines.{each}
use Rattle.witness_types.specs.Parts.{beside, degrees_of}
use Rattle.witness_testing.proofs.Claiming.{dimensions_more}
use Rattle.witness_testing.proofs.claims.dimensions.Goals as goal

pub loop-degree-preserved : goal.loop-degree-preserved
loop-degree-preserved g c =
    let zs = c.args.part.now.cycles.items in
    dimensions_more c.loop-degree.degree (degrees_of zs) (map (λ z. z.1) zs) c.loop-degree.counts.items c.push.new.self.items c.count_beside.result c.in_ok-push.ensures.items
    (c.count_beside.ensures ∙ ap (λ ys. length (beside c.loop-degree.degree (degrees_of ys) (map (λ z. z.1) ys))) c.deref.ensures.value) c.loop-degree.invariant

pub returns : goal.returns
returns g c =
    let zs = c.args.part.now.cycles.items in
    let e : c.loop-degree.degree ≡ suc c.args.top = omega (arith, c.loop-degree-test.false, c.loop-degree.auto.degree-end, c.from-degree-end.ensures) in
    c.loop-degree.invariant ∙ ap (λ n. map length (each n (λ k. beside k (degrees_of zs) (map (λ z. z.1) zs) ∷ []))) e
