use Rattle.chain_files.proofs.Squares.{file_complexes}
use Rattle.chain_files.proofs.laws.file_complexes_are_complexes.Goals as goal

pub returns : goal.returns
returns c = file_complexes
