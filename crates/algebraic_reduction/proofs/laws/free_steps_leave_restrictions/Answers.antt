use Rattle.algebraic_reduction.proofs.laws.free_steps_leave_restrictions.Goals as goal
use Rattle.algebraic_reduction.proofs.Restrictions.{free_steps}

pub returns : goal.returns
returns c = free_steps
