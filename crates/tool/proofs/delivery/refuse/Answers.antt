use Rattle.std.proofs.Common.{inr, refl}
use Rattle.faults.specs.declared.fault.Fault.TheVariants.{OutOfMemory}
use Rattle.tool.proofs.delivery.refuse.Goals as goal

pub returns-in-Err : goal.returns-in-Err
returns-in-Err g c = (OutOfMemory, inr refl, c.say_no_memory.ensures.status, c.say_no_memory.ensures.line)
