use Rattle.std.proofs.Common.{◌∙◌, sym}
use Rattle.std.proofs.lemmas.Bool.{false≢true}
use Rattle.excision.proofs.Placing.{number_found, number_missing}
use Rattle.excision.proofs.face_numbers.number_or_count.Goals as goal

pub returns-in_default : goal.returns-in_default
returns-in_default c = c.len.ensures.count ∙ sym (number_missing c.args.cells.now c.args.cell.now (λ w. false≢true (c.in_default.ensures.found.1 w)))

pub returns : goal.returns
returns c = number_found c.args.cells.now c.args.cell.now c.in-Some.number c.in-Some.ensures.sorted c.in-Some.ensures.place
