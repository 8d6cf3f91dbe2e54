use Rattle.std.proofs.Common.{refl}
use Rattle.replay_tool.proofs.Telling.{right_map}
use Rattle.replay_tool.proofs.accepting.accept_map.Goals as goal

pub returns : goal.returns
returns g c = right_map _ c.args.bytes.now c.in_ok-claim.claim c.in_ok-claim.ensures.ok _ refl c.in_ok-report.report c.in_ok-report.ensures
