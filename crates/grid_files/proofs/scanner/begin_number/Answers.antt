use Rattle.std.proofs.Common.{sym, ne_eqb, eq-eqb}
use Rattle.grid_files.proofs.Scanning.{number_begins, dash_begins, no_number_begins}
use Rattle.grid_files.proofs.scanner.begin_number.Goals as goal

pub returns-then-is_ascii_digit-clause-pieces : goal.returns-then-is_ascii_digit-clause-pieces
returns-then-is_ascii_digit-clause-pieces c = λ bs. number_begins c.args.place c.args.b c.from-value.result bs (ne_eqb _ _ c.if-b-eq10.false) (sym c.if-is_blank.ensures) (sym c.if-is_ascii_digit.ensures.value) c.from-value.ensures

pub returns-then-b-eq45-clause-pieces : goal.returns-then-b-eq45-clause-pieces
returns-then-b-eq45-clause-pieces c = λ bs. dash_begins c.args.place c.args.b bs (ne_eqb _ _ c.if-b-eq10.false) (sym c.if-is_blank.ensures) (sym c.if-is_ascii_digit.ensures.value) (eq-eqb _ _ c.if-b-eq45.true)

pub returns-clause-pieces : goal.returns-clause-pieces
returns-clause-pieces c = λ bs. no_number_begins c.args.place c.args.b bs (ne_eqb _ _ c.if-b-eq10.false) (sym c.if-is_blank.ensures) (sym c.if-is_ascii_digit.ensures.value) (ne_eqb _ _ c.if-b-eq45.false)
