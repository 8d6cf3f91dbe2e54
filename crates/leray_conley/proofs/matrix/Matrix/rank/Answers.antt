use Rattle.std.proofs.Common.{◌≡◌, ℕ, arith, get_or, length, subst}
use Rattle.field_mod.proofs.Table.{is_field}
use Rattle.leray_conley.specs.Echelons.{cell}
use Rattle.leray_conley.specs.Ranks.{IsRank}
use Rattle.leray_conley.specs.Tables.{entry}
use Rattle.leray_conley.proofs.Reduced.{rank, rows_fit}
use Rattle.leray_conley.proofs.Reductions.{narrowed}
use Rattle.leray_conley.proofs.matrix.Matrix.rank.Goals as goal

pub prove-unreachable-requires : goal.prove-unreachable-requires
prove-unreachable-requires g c =
    let a = c.args.self.now in
    let p = g.row.P in
    let e = c.in_ok-reduce.field-0 in
    let h = narrowed p a.columns a.rows (entry a) e.rows.items e.pivots.items c.in_ok-reduce.ensures in
    let f = rows_fit p a.columns (length e.rows.items) (is_field p c.args.f.listed) (cell e.rows.items) (λ (k : ℕ). get_or e.pivots.items k 0) h.form.echelon in
    let o = e.rows.ok.0 in
    let l = c.len-rank.ensures in
    let n = c.columns-columns.ensures.value in
    let t = c.if-prove.true in
    omega arith

pub returns : goal.returns
returns g c =
    let a = c.args.self.now in
    let p = g.row.P in
    let e = c.in_ok-reduce.field-0 in
    let h = narrowed p a.columns a.rows (entry a) e.rows.items e.pivots.items c.in_ok-reduce.ensures in
    let o = e.rows.ok.0 in
    let l = c.len-rank.ensures in
    let s : length e.rows.items ≡ c.len-rank.result = omega arith in
    subst (λ (r : ℕ). IsRank p a.rows a.columns (entry a) r) s
    (rank p a.columns (length e.rows.items) (is_field p c.args.f.listed) (cell e.rows.items) (λ (k : ℕ). get_or e.pivots.items k 0) h.form.echelon a.rows (entry a) h.forth h.back)
