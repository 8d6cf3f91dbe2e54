use Rattle.word_sweeps.proofs.laws.taken_pairs_are_told.Goals as goal
use Rattle.word_sweeps.proofs.Taken.{told}

pub returns : goal.returns
returns c = told
