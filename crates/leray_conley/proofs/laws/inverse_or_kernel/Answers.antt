use Rattle.leray_conley.proofs.Inverses.{inverse_or_kernel}
use Rattle.leray_conley.proofs.laws.inverse_or_kernel.Goals as goal

pub returns : goal.returns
returns c = inverse_or_kernel
