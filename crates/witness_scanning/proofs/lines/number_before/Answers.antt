use Rattle.witness_scanning.proofs.Whole.{no_mark_behind, number_here}
use Rattle.witness_scanning.proofs.lines.number_before.Goals as goal

pub returns-in_default-after : goal.returns-in_default-after
returns-in_default-after c = no_mark_behind c.args.mark c.args.bytes.now c.in-Some.digits.now c.in-Some.behind.now c.requires c.in-Some.ensures c.in_default-after.ensures

pub returns : goal.returns
returns c =
    number_here c.args.mark c.args.bytes.now c.in-Some.digits.now c.in-Some.behind.now c.in-Some-after.rest.now c.value.result c.in-Some.ensures c.in-Some-after.ensures c.value.ensures
