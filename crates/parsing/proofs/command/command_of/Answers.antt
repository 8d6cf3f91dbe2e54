use Rattle.std.proofs.Common.{sym}
use Rattle.parsing.proofs.command.command_of.Goals as goal

pub command_by-requires : goal.command_by-requires
command_by-requires c = (c.as_str.result.now, sym c.in-Some-named.ensures)
