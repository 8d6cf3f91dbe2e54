use Rattle.witness_scanning.proofs.Whole.{no_front, no_chain_behind}
use Rattle.witness_scanning.proofs.lines.chain_line.Goals as goal

pub returns-in_default : goal.returns-in_default
returns-in_default c = no_front c.args.word.now c.args.numbers.now c.args.modulus c.args.bytes.now c.in_default.ensures

pub returns-in-None : goal.returns-in-None
returns-in-None c =
    no_chain_behind c.args.word.now c.args.numbers.now c.args.modulus c.args.bytes.now c.in-Some.behind.now c.in-Some.ensures (rw c.in-None.is at c.in_ok-terms.ensures)
