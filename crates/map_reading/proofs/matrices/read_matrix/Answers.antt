use Rattle.std.proofs.Common.{◌≡◌, ◌∙◌, ℕ, ap, arith, cond, length, subst, sym}
use Rattle.std.proofs.lemmas.Bool.{eq-eqb, ne_eqb}
use Rattle.witness_runs.specs.Rows.{HasRows}
use Rattle.map_lines.specs.Matrices.{row_lines}
use Rattle.map_lines.proofs.Growing.{entries_many, entries_below}
use Rattle.map_reading.proofs.matrices.read_matrix.Goals as goal
use Rattle.map_reading.proofs.matrices.read_matrix.Goals.{then-width-eq0, else-width-eq0}

pub new-requires : goal.new-requires
new-requires g c =
    let e : c.if-width-eq0.lines ≡ row_lines c.args.height c.args.width = elim c.if-width-eq0.branch [
      | then-width-eq0 w ↦ w.lines-is ∙ sym (ap (λ b. cond b 0 c.args.height) (eq-eqb c.args.width 0 w.if-width-eq0.true))
      | else-width-eq0 w ↦ w.lines-is ∙ sym (ap (λ b. cond b 0 c.args.height) (ne_eqb c.args.width 0 w.if-width-eq0.false))
    ] in
    let h : HasRows g.row.P c.args.degree c.args.width (row_lines c.args.height c.args.width) c.args.bytes.now c.in-Ok.entries.items c.in-Ok.rest.now =
    subst (λ (n : ℕ). HasRows g.row.P c.args.degree c.args.width n c.args.bytes.now c.in-Ok.entries.items c.in-Ok.rest.now) e
    (subst (λ (k : ℕ). HasRows g.row.P k c.args.width c.if-width-eq0.lines c.args.bytes.now c.in-Ok.entries.items c.in-Ok.rest.now) c.from.ensures c.in-Ok.ensures.ok) in
    let n : length c.in-Ok.entries.items ≡ c.in-Ok.entries.len = omega (arith, c.in-Ok.entries.ok.0) in (
      omega arith,
      (
        sym n ∙ entries_many g.row.P c.args.degree c.args.height c.args.width c.args.bytes.now c.in-Ok.entries.items c.in-Ok.rest.now h,
        λ k l. entries_below g.row.P c.args.degree c.args.height c.args.width c.args.bytes.now c.in-Ok.entries.items c.in-Ok.rest.now h k (omega (arith, n, l)),
      ),
    )
