use Rattle.std.proofs.Common.{sym}
use Rattle.grid_files.proofs.Scanning.{digit_more}
use Rattle.grid_files.proofs.scanner.in_digits.Goals as goal

pub returns-then-is_ascii_digit-clause-pieces : goal.returns-then-is_ascii_digit-clause-pieces
returns-then-is_ascii_digit-clause-pieces c =
    λ bs. rw c.going_on.ensures (digit_more c.args.at c.args.negative c.args.value _ c.args.place c.args.b bs (sym c.if-is_ascii_digit.ensures.value) c.with_digit-value.ensures)
