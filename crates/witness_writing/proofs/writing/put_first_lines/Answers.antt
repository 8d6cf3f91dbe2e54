use Rattle.std.proofs.Common.{ap, ◌∙◌, ◌++◌, arith}
use Rattle.std.specs.Prelude.{codes}
use Rattle.witness_laws.specs.Lines.{numeral}
use Rattle.witness_laws.proofs.Numerals.{printed}
use Rattle.witness_writing.proofs.Filling.{three_more}
use Rattle.witness_writing.proofs.writing.put_first_lines.Goals as goal

pub returns : goal.returns
returns c =
    let d = c.as_bytes.ensures.value ∙ c.format.ensures.text ∙ printed c.args.modulus (omega (arith, c.ranges.modulus.fits)) in
    three_more c.args.to.now.items (codes "chomp witness 1\nmod ") (numeral c.args.modulus) (codes "\n") _ _ _ c.in_ok-extend_from_slice.ensures.items
    (c.in_ok-extend_from_slice-2.ensures.items ∙ ap (λ t. c.extend_from_slice.new.self.items ++ t) d) c.in_ok-extend_from_slice-3.ensures.items
