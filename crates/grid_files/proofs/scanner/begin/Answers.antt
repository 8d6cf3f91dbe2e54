use Rattle.std.proofs.Common.{sym, ◌∙◌, ne_eqb}
use Rattle.grid_files.proofs.Scanning.{word_begins}
use Rattle.grid_files.proofs.scanner.begin.Goals as goal

pub returns-then-is_ascii_alphabetic-clause-pieces : goal.returns-then-is_ascii_alphabetic-clause-pieces
returns-then-is_ascii_alphabetic-clause-pieces c = λ bs. word_begins c.args.place c.args.b bs (sym c.if-is_blank.ensures) (ne_eqb _ _ c.if-b-eq59.false) (sym c.if-is_ascii_alphabetic.ensures.value) ∙ c.letter.ensures.pieces c.args.place bs
