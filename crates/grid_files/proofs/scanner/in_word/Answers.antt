use Rattle.std.proofs.Common.{sym, ap, ◌∙◌, ◌<◌, arith, ◌∷◌}
use Rattle.grid_files.specs.declared.piece.Piece.TheVariants.{SkippedLine}
use Rattle.grid_files.proofs.Scanning.{word_is_not}
use Rattle.grid_files.proofs.scanner.in_word.Goals as goal

pub returns-clause-pieces : goal.returns-clause-pieces
returns-clause-pieces c =
    let short : c.args.matched < 9 = omega arith in
    λ bs. rw c.then-2.ensures (word_is_not c.args.at c.args.matched c.args.place c.args.b bs short (sym c.if-is_ascii_alphabetic.ensures.value)
    ∙ ap (λ l. (c.args.at, SkippedLine) ∷ l) (c.on_line.ensures.pieces c.args.place bs))
