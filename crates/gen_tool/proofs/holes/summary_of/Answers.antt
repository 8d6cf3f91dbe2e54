use Rattle.std.proofs.Common.{Err, ap, ◌∙◌}
use Rattle.elem_cubes.specs.Order.{cell_cmp}
use Rattle.cube_sets.specs.Sorted.{has}
use Rattle.gen_tool.proofs.Computing.{never_many, right_summary}
use Rattle.gen_tool.proofs.holes.summary_of.Goals as goal

pub unreachable-requires : goal.unreachable-requires
unreachable-requires c = never_many c.args.n c.args.set.now c.in_ok-none.none c.requires.set (λ q. c.in_ok-none.ensures.members q ∙ ap (λ cells. has cell_cmp cells q) c.new.ensures.items) c.requires.few (c.homology_of.ensures.many (c.in-Err-TooManyCells.is ∙ ap (λ fault. Err fault) c.in-Err-TooManyCells.field-0-is))

pub returns-in-Ok-clause-right : goal.returns-in-Ok-clause-right
returns-in-Ok-clause-right c = right_summary c.args.n c.args.set.now c.in_ok-none.none c.requires.set (λ q. c.in_ok-none.ensures.members q ∙ ap (λ cells. has cell_cmp cells q) c.new.ensures.items) c.args.modulus c.from-holes.result c.len.result c.in-Ok.homology c.from-holes.ensures c.len.ensures.len c.in-Ok.ensures.right
