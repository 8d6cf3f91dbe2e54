use Rattle.std.proofs.Common.{arith, ◌∙◌}
use Rattle.witness_texts.proofs.Prefixes.{both_printed, none_printed}
use Rattle.witness_texts.proofs.fronts.after_number.Goals as goal

pub returns-in-Some : goal.returns-in-Some
returns-in-Some c =
    both_printed c.args.bytes.now c.as_bytes.result.now c.in-Some.behind.now c.args.number c.after-in-Some.result (omega (arith, c.ranges.number.fits))
    (c.as_bytes.ensures.value ∙ c.format.ensures.text) c.in-Some.ensures c.after-in-Some.ensures

pub returns-in-None : goal.returns-in-None
returns-in-None c = none_printed c.args.bytes.now c.as_bytes.result.now c.args.number (omega (arith, c.ranges.number.fits)) (c.as_bytes.ensures.value ∙ c.format.ensures.text) c.in-None.ensures
