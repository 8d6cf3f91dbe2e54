use Rattle.std.proofs.Common.{arith, sym, ◌∙◌, true≢false}
use Rattle.excision.proofs.Leaving.{not_numbered, place_of_cell, number_is_left, number_is_taken}
use Rattle.excision.proofs.left.left_number.Goals as goal

pub returns-in_default-clause-none : goal.returns-in_default-clause-none
returns-in_default-clause-none g c = not_numbered c.args.cells.now c.args.log.now.steps c.args.cell.now (λ w. true≢false (sym (c.in_default.ensures.found.1 w)))

pub alive-requires : goal.alive-requires
alive-requires g c = (omega arith, (let w = place_of_cell c.args.cells.now c.in-Some.number c.args.cell.now c.in-Some.ensures.place in omega (arith, w.0, c.requires.count)))

pub returns-then-alive-clause-inside : goal.returns-then-alive-clause-inside
returns-then-alive-clause-inside g c = (place_of_cell c.args.cells.now c.in-Some.number c.args.cell.now c.in-Some.ensures.place).0

pub returns-then-alive-clause-cell : goal.returns-then-alive-clause-cell
returns-then-alive-clause-cell g c = (place_of_cell c.args.cells.now c.in-Some.number c.args.cell.now c.in-Some.ensures.place).1

pub returns-then-alive-clause-left : goal.returns-then-alive-clause-left
returns-then-alive-clause-left g c = number_is_left c.args.cells.now c.args.log.now.steps c.in-Some.number c.args.cell.now c.number.ensures.sorted c.in-Some.ensures.place (c.alive.ensures.0 c.if-alive.true)

pub returns-else-alive-clause-none : goal.returns-else-alive-clause-none
returns-else-alive-clause-none g c = number_is_taken c.args.cells.now c.args.log.now.steps c.in-Some.number c.args.cell.now c.number.ensures.sorted c.in-Some.ensures.place (λ u. true≢false (sym (c.alive.ensures.1 u) ∙ c.if-alive.false))
