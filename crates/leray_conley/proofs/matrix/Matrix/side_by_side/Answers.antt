use Rattle.std.proofs.Common.{◌∙◌, ◌+◌, ◌*◌, ℕ, ap, arith, List, sym, subst}
use Rattle.leray_conley.specs.Splitting.{beside}
use Rattle.leray_conley.specs.Tables.{entry}
use Rattle.leray_conley.proofs.Filling.{IsFilled, filled_matrix, filled_more}
use Rattle.leray_conley.proofs.matrix.Matrix.side_by_side.Goals as goal

pub loop-k-preserved : goal.loop-k-preserved
loop-k-preserved g c =
    let a = c.args.self.now in
    subst (λ (es : List ℕ). IsFilled g.row.P (c.columns.result + c.columns-2.result) (c.loop-k.k + 1) (beside a.columns (entry a) (entry c.args.other.now)) es) (sym c.in_ok-push.ensures.items)
    (filled_more c.beside_entry.result c.loop-k.invariant c.beside_entry.ensures.value c.beside_entry.ensures.below)

pub returns : goal.returns
returns g c =
    let e = ap (λ (v : ℕ). v * (c.columns.result + c.columns-2.result)) c.rows.ensures.value in
    let t = c.loop-k-test.false in
    let x = c.columns.ensures.value in
    let y = c.columns-2.ensures.value in
    filled_matrix c.new.result c.args.self.now.rows (c.args.self.now.columns + c.args.other.now.columns) c.loop-k.invariant (omega arith) (omega arith) (c.new.ensures.rows ∙ c.rows-2.ensures.value) c.new.ensures.columns c.new.ensures.entries
