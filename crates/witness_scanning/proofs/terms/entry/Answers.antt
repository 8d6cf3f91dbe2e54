use Rattle.std.proofs.Common.{arith}
use Rattle.witness_scanning.proofs.Entries.{entry_above, has_entry}
use Rattle.witness_scanning.proofs.terms.entry.Goals as goal

pub returns : goal.returns
returns c = has_entry c.args.modulus c.args.bytes.now c.in-Some.digits.now c.in-Some.rest.now c.value-entry.result c.in-Some.ensures c.value-entry.ensures (omega arith) (omega arith)

pub returns-then-entry-from : goal.returns-then-entry-from
returns-then-entry-from c = entry_above c.args.modulus c.args.bytes.now c.in-Some.digits.now c.in-Some.rest.now c.value-entry.result c.in-Some.ensures c.value-entry.ensures (omega arith) (omega arith)
