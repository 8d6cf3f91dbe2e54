use Rattle.std.proofs.Common.{◌^◌, ◌∙◌, ap, sym, arith}
use Rattle.elem_cubes.proofs.Choosing.{few_faces, length-closure}
use Rattle.elem_cubes.proofs.closure.Closure.of.Goals as goal

pub pow-requires : goal.pow-requires
pow-requires c = few_faces c.dim.result c.dim.ensures.few

pub invariant_of-result : goal.invariant_of-result
invariant_of-result c = record { within = omega arith; counted = c.pow.ensures ∙ ap (λ n. 3 ^ n) c.dim.ensures.dimension ∙ sym (length-closure c.args.cell) }
