use Rattle.replay_tool.proofs.Heading.{bad_head}
use Rattle.replay_tool.proofs.heads.headed.Goals as goal

pub returns-in-Err-At-clause-err : goal.returns-in-Err-At-clause-err
returns-in-Err-At-clause-err c =
    bad_head c.args.name.now c.args.kind c.args.bytes.now c.in-Err-At.field-0 c.in-Err-At.line _ c.law_fails.result c.in-Err-At.field-0-is c.in-Err-At.ensures.err (rw c.in-Err-At.field-0-is at c.law_fails.ensures)
