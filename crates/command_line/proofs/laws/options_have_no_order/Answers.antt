use Rattle.command_line.proofs.Orders.{options_change_places}
use Rattle.command_line.proofs.laws.options_have_no_order.Goals as goal

pub returns : goal.returns
returns c = options_change_places
