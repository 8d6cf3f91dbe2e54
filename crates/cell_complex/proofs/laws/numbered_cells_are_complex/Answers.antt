use Rattle.cell_complex.proofs.Numbering as lemmas
use Rattle.cell_complex.proofs.laws.numbered_cells_are_complex.Goals as goal

pub returns : goal.returns
returns c = lemmas.numbered_cells_are_complex
