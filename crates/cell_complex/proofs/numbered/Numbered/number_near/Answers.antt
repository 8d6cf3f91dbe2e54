use Rattle.cell_complex.proofs.Sorting.{told}
use Rattle.cell_complex.proofs.numbered.Numbered.number_near.Goals as goal

pub returns-clause-number : goal.returns-clause-number
returns-clause-number c = told c.self.inside.points c.args.self.now c.args.cell.now c.number_near.result c.self.view_is c.self.invariant c.number_near.ensures.place
