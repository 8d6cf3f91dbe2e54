-- What is left to show of `values_are_by_parts`.
use Rattle.chain_files.proofs.Parsing.{values_by_parts}
use Rattle.chain_files.proofs.laws.values_are_by_parts.Goals as goal

pub returns : goal.returns
returns c = values_by_parts
