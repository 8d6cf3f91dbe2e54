use Rattle.std.proofs.Common.{sym, ap, ◌∙◌, ◌∷◌, ◌≡◌, to_z, of_z, w64, rules}
use Rattle.std.proofs.lemmas.Int.{to_z-of_z}
use Rattle.grid_files.specs.declared.piece.Piece.TheVariants.{DimensionNumber, NoNumber}
use Rattle.grid_files.proofs.Scanning.{behind_digit_more, behind_number_is, behind_number_none}
use Rattle.grid_files.proofs.scanner.in_number.Goals as goal

pub returns-then-is_ascii_digit-clause-pieces : goal.returns-then-is_ascii_digit-clause-pieces
returns-then-is_ascii_digit-clause-pieces c =
    λ bs. rw c.going_on.ensures (behind_digit_more c.args.at c.args.negative c.args.value _ c.args.place c.args.b bs (sym c.if-is_ascii_digit.ensures.value) c.with_digit-value.ensures)

pub returns-in-Some-clause-pieces : goal.returns-in-Some-clause-pieces
returns-in-Some-clause-pieces c =
    let same : to_z w64 (of_z w64 c.in-Some.z) ≡ c.in-Some.z = search (rules, to_z-of_z) in
    λ bs. rw (c.then.ensures, same) (behind_number_is c.args.at c.args.negative c.args.value c.args.place c.args.b bs c.in-Some.z (sym c.if-is_ascii_digit.ensures.value) c.in-Some.ensures
    ∙ ap (λ l. (c.args.at, DimensionNumber c.in-Some.z) ∷ l) (c.after_number.ensures.pieces bs))

pub returns-in-None-clause-pieces : goal.returns-in-None-clause-pieces
returns-in-None-clause-pieces c =
    λ bs. rw c.then-in-None.ensures (behind_number_none c.args.at c.args.negative c.args.value c.args.place c.args.b bs (sym c.if-is_ascii_digit.ensures.value) c.in-None.ensures
    ∙ ap (λ l. (c.args.at, NoNumber) ∷ l) (c.on_line.ensures.pieces c.args.place bs))
