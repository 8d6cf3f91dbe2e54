use Rattle.std.proofs.Common.{◌≡◌, ◌<◌, ◌∙◌, ap, sym, length, map, take, arith}
use Rattle.std.proofs.lemmas.List.{length-map, length-take}
use Rattle.witness_types.specs.Parts.{degrees_of}
use Rattle.witness_sections.proofs.Termwise.{beside-few}
use Rattle.witness_testing.proofs.Claiming.{count_here, count_other}
use Rattle.witness_testing.proofs.claims.count_beside.Goals as goal
use Rattle.witness_testing.proofs.claims.count_beside.Goals.{then-cycles-place, else-cycles-place}

pub overflow_add-count : goal.overflow_add-count
overflow_add-count g c =
    let cs = c.args.cycles.now in
    let i = c.loop-place.place in
    let xs = map (λ z. z.1) cs in
    let b = beside-few c.args.degree (take i (degrees_of cs)) (take i xs) in
    let d = length-take i xs in
    omega (arith, c.loop-place.invariant, b, d, c.loop-place-test.true, c.requires)

pub loop-place-preserved : goal.loop-place-preserved
loop-place-preserved g c =
    let cs = c.args.cycles.now in
    let i = c.loop-place.place in
    let r = c.index-cycles-place.result in
    let l : i < length cs = omega (arith, c.loop-place-test.true) in
    elim c.if-cycles-place.branch [
      | then-cycles-place w ↦ rw w.count-is (count_here c.args.degree i cs l r c.index-cycles-place.is c.loop-place.count (ap (λ z. z.0) c.index-cycles-place.is ∙ w.if-cycles-place.true) c.loop-place.invariant)
      | else-cycles-place w ↦ rw w.count-is (count_other c.args.degree i cs l r c.index-cycles-place.is c.loop-place.count (λ e. w.if-cycles-place.false (sym (ap (λ z. z.0) c.index-cycles-place.is) ∙ e)) c.loop-place.invariant)
    ]
