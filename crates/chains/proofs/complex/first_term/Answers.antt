use Rattle.std.proofs.Common.{arith, ap, sym}
use Rattle.chains.proofs.Faults.{head_first}
use Rattle.chains.proofs.complex.first_term.Goals as goal

pub returns-else-len-eq0-clause-some : goal.returns-else-len-eq0-clause-some
returns-else-len-eq0-clause-some g c = rw (ap (λ t. t.0) c.term.ensures.value) (head_first g.row.P c.args.chain.now c.len.ensures.normal (omega arith))

pub returns-else-len-eq0-clause-number : goal.returns-else-len-eq0-clause-number
returns-else-len-eq0-clause-number g c = sym c.term.ensures.alone
