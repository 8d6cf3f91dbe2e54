use Rattle.map_files.proofs.Openings.{left_at, single_at, listed_at}
use Rattle.grid_files.specs.declared.corner.CornerStep.TheVariants.{More, Close, Stop}
use Rattle.map_files.proofs.opening.take_turn.Goals as goal

pub returns-in-More : goal.returns-in-More
returns-in-More c = left_at c.args.opening c.in-InLeft.corner c.args.piece (More c.in-More.corner) c.in-InLeft.is c.in-More.ensures

pub returns-in-Close : goal.returns-in-Close
returns-in-Close c = left_at c.args.opening c.in-InLeft.corner c.args.piece Close c.in-InLeft.is c.in-Close.ensures

pub returns-in-Stop : goal.returns-in-Stop
returns-in-Stop c = left_at c.args.opening c.in-InLeft.corner c.args.piece (Stop c.in-Stop.cause) c.in-InLeft.is c.in-Stop.ensures

pub returns-in-More-in_corner : goal.returns-in-More-in_corner
returns-in-More-in_corner c = single_at c.args.opening c.in-InSingle.left c.in-InSingle.value c.args.piece (More c.in-More-in_corner.value) c.in-InSingle.is c.in-More-in_corner.ensures

pub returns-in-Close-in_corner : goal.returns-in-Close-in_corner
returns-in-Close-in_corner c = single_at c.args.opening c.in-InSingle.left c.in-InSingle.value c.args.piece Close c.in-InSingle.is c.in-Close-in_corner.ensures

pub returns-in-Stop-in_corner : goal.returns-in-Stop-in_corner
returns-in-Stop-in_corner c = single_at c.args.opening c.in-InSingle.left c.in-InSingle.value c.args.piece (Stop c.in-Stop-in_corner.cause) c.in-InSingle.is c.in-Stop-in_corner.ensures

pub returns-in-More-in_corner-2 : goal.returns-in-More-in_corner-2
returns-in-More-in_corner-2 c = listed_at c.args.opening c.in-InListed.left c.in-InListed.value c.args.piece (More c.in-More-in_corner-2.value) c.in-InListed.is c.in-More-in_corner-2.ensures

pub returns-in-Close-in_corner-2 : goal.returns-in-Close-in_corner-2
returns-in-Close-in_corner-2 c = listed_at c.args.opening c.in-InListed.left c.in-InListed.value c.args.piece Close c.in-InListed.is c.in-Close-in_corner-2.ensures

pub returns-in-Stop-in_corner-2 : goal.returns-in-Stop-in_corner-2
returns-in-Stop-in_corner-2 c = listed_at c.args.opening c.in-InListed.left c.in-InListed.value c.args.piece (Stop c.in-Stop-in_corner-2.cause) c.in-InListed.is c.in-Stop-in_corner-2.ensures
