use Rattle.set_tools.proofs.Judging.{cells_once, neighbours_once, combination_once}
use Rattle.set_tools.proofs.laws.set_jobs_have_one_judgement.Goals as goal

pub returns-clause-cells : goal.returns-clause-cells
returns-clause-cells c = cells_once

pub returns-clause-neighbours : goal.returns-clause-neighbours
returns-clause-neighbours c = neighbours_once

pub returns-clause-combination : goal.returns-clause-combination
returns-clause-combination c = combination_once
