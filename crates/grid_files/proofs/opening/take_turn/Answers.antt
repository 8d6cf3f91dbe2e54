use Rattle.grid_files.proofs.Openings.{full_at, lower_at, upper_at}
use Rattle.grid_files.specs.declared.corner.CornerStep.TheVariants.{More, Close, Stop}
use Rattle.grid_files.proofs.opening.take_turn.Goals as goal

pub returns-in-More : goal.returns-in-More
returns-in-More c = full_at c.args.opening c.in-InFull.corner c.args.piece (More c.in-More.corner) c.in-InFull.is c.in-More.ensures

pub returns-in-Close : goal.returns-in-Close
returns-in-Close c = full_at c.args.opening c.in-InFull.corner c.args.piece Close c.in-InFull.is c.in-Close.ensures

pub returns-in-Stop : goal.returns-in-Stop
returns-in-Stop c = full_at c.args.opening c.in-InFull.corner c.args.piece (Stop c.in-Stop.cause) c.in-InFull.is c.in-Stop.ensures

pub returns-in-More-in_corner : goal.returns-in-More-in_corner
returns-in-More-in_corner c = lower_at c.args.opening c.in-InLower.lower c.args.piece (More c.in-More-in_corner.lower) c.in-InLower.is c.in-More-in_corner.ensures

pub returns-in-Close-in_corner : goal.returns-in-Close-in_corner
returns-in-Close-in_corner c = lower_at c.args.opening c.in-InLower.lower c.args.piece Close c.in-InLower.is c.in-Close-in_corner.ensures

pub returns-in-Stop-in_corner : goal.returns-in-Stop-in_corner
returns-in-Stop-in_corner c = lower_at c.args.opening c.in-InLower.lower c.args.piece (Stop c.in-Stop-in_corner.cause) c.in-InLower.is c.in-Stop-in_corner.ensures

pub returns-in-More-in_corner-2 : goal.returns-in-More-in_corner-2
returns-in-More-in_corner-2 c = upper_at c.args.opening c.in-InUpper.lower c.in-InUpper.upper c.args.piece (More c.in-More-in_corner-2.upper) c.in-InUpper.is c.in-More-in_corner-2.ensures

pub returns-in-Close-in_corner-2 : goal.returns-in-Close-in_corner-2
returns-in-Close-in_corner-2 c = upper_at c.args.opening c.in-InUpper.lower c.in-InUpper.upper c.args.piece Close c.in-InUpper.is c.in-Close-in_corner-2.ensures

pub returns-in-Stop-in_corner-2 : goal.returns-in-Stop-in_corner-2
returns-in-Stop-in_corner-2 c = upper_at c.args.opening c.in-InUpper.lower c.in-InUpper.upper c.args.piece (Stop c.in-Stop-in_corner-2.cause) c.in-InUpper.is c.in-Stop-in_corner-2.ensures
