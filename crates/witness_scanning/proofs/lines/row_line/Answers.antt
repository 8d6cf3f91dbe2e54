use Rattle.witness_scanning.proofs.Whole.{no_row_front, no_entries_behind}
use Rattle.witness_scanning.proofs.lines.row_line.Goals as goal

pub returns-in_default : goal.returns-in_default
returns-in_default c = no_row_front c.args.degree c.args.width c.args.modulus c.args.bytes.now c.in_default.ensures

pub returns-in-None : goal.returns-in-None
returns-in-None c =
    no_entries_behind c.args.degree c.args.width c.args.modulus c.args.bytes.now c.in-Some.behind.now c.in-Some.ensures (rw c.in-None.is at c.in_ok-row.ensures)
