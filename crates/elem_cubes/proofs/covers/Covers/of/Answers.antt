use Rattle.std.proofs.Common.{◌^◌, ◌-◌, ◌∙◌, ap, sym, arith}
use Rattle.elem_cubes.proofs.Covering.{few_covers, length-covers}
use Rattle.elem_cubes.proofs.covers.Covers.of.Goals as goal

pub pow-requires : goal.pow-requires
pow-requires c = few_covers (c.embedding.result - c.dim.result) (omega (arith, c.embedding.ensures.few))

pub invariant_of-result : goal.invariant_of-result
invariant_of-result c = (record { within = omega arith; counted = c.pow.ensures ∙ ap (λ n. 2 ^ n) (omega (arith, c.dim.ensures.dimension, c.embedding.ensures.embedding)) ∙ sym (length-covers c.args.cell) }, c.requires)
