use Rattle.std.proofs.Common.{◌≡◌, ◌∙◌, ◌<◌, length, ap, arith}
use Rattle.chains.specs.ChainComplex.{ChainComplex}
use Rattle.excision.proofs.Placing.{taken_told}
use Rattle.excision.proofs.left.is_taken.Goals as goal

pub returns : goal.returns
returns g c =
    let count : c.len.result ≡ length c.args.log.now.complex.boundaries = c.len.ensures.count ∙ ap (λ (K : ChainComplex). length K.boundaries) c.complex.ensures in
    let l : c.args.number < length c.args.log.now.complex.boundaries = omega (arith, c.if-number-len.false, count) in
    taken_told (length c.args.log.now.complex.boundaries) c.args.log.now.steps c.args.number c.alive.result l c.alive.ensures
