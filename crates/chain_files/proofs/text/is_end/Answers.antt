use Rattle.chain_files.proofs.Gathering.{not_at_end}
use Rattle.chain_files.proofs.text.is_end.Goals as goal

pub returns-in_default : goal.returns-in_default
returns-in_default c = record { end = λ h. cc; more = λ h. not_at_end c.args.token c.in_default.not-End }
