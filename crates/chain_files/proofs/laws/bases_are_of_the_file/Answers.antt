use Rattle.chain_files.proofs.Alike.{bases_of_the_file}
use Rattle.chain_files.proofs.laws.bases_are_of_the_file.Goals as goal

pub returns : goal.returns
returns c = bases_of_the_file
