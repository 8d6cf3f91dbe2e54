use Rattle.witness_scanning.proofs.Whole.{no_degree_here, no_cycle_behind}
use Rattle.witness_scanning.proofs.lines.cycle_line.Goals as goal

pub returns-in_default : goal.returns-in_default
returns-in_default c = no_degree_here c.args.low c.args.top c.args.modulus c.args.bytes.now c.in_default.ensures

pub returns-in-None : goal.returns-in-None
returns-in-None c =
    no_cycle_behind c.args.low c.args.top c.args.modulus c.args.bytes.now c.in-Some.behind.now c.in-Some.degree c.in-Some.ensures (rw c.in-None.is at c.in_ok-terms.ensures)
