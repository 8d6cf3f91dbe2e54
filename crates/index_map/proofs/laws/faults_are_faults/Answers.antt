use Rattle.index_map.proofs.Inverting.{faults_are_faults}
use Rattle.index_map.proofs.laws.faults_are_faults.Goals as goal

pub returns : goal.returns
returns c = faults_are_faults
