use Rattle.command_line.proofs.Values.{two_ways}
use Rattle.command_line.proofs.laws.values_are_said_in_two_ways.Goals as goal

pub returns : goal.returns
returns c = two_ways
