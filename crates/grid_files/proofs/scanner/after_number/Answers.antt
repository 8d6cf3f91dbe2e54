use Rattle.std.proofs.Common.{sym, ne_eqb, eq-eqb}
use Rattle.grid_files.proofs.Scanning.{after_blank, after_comment, after_stray}
use Rattle.grid_files.proofs.scanner.after_number.Goals as goal

pub returns-then-is_blank-clause-pieces : goal.returns-then-is_blank-clause-pieces
returns-then-is_blank-clause-pieces c = λ bs. after_blank c.args.place c.args.b bs (ne_eqb _ _ c.if-b-eq10.false) (sym c.if-is_blank.ensures)

pub returns-then-b-eq59-clause-pieces : goal.returns-then-b-eq59-clause-pieces
returns-then-b-eq59-clause-pieces c = λ bs. after_comment c.args.place c.args.b bs (ne_eqb _ _ c.if-b-eq10.false) (sym c.if-is_blank.ensures) (eq-eqb _ _ c.if-b-eq59.true)

pub returns-clause-pieces : goal.returns-clause-pieces
returns-clause-pieces c = λ bs. after_stray c.args.place c.args.b bs (ne_eqb _ _ c.if-b-eq10.false) (sym c.if-is_blank.ensures) (ne_eqb _ _ c.if-b-eq59.false)
