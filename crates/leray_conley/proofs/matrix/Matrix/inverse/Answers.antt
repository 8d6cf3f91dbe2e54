use Rattle.std.proofs.Common.{ℕ, get_or, sym, subst, lit<}
use Rattle.field_mod.proofs.Table.{is_field}
use Rattle.leray_conley.specs.Inverses.{IsInverse}
use Rattle.leray_conley.specs.Kernels.{IsKernelVector}
use Rattle.leray_conley.specs.Tables.{entry}
use Rattle.leray_conley.proofs.Inverses.{no_inverse}
use Rattle.leray_conley.proofs.RightBlocks.{free_square, inverts_of, pivots_of, square_bound, squared}
use Rattle.leray_conley.proofs.matrix.Matrix.inverse.Goals as goal

pub returns-in-Some-clause-fault : goal.returns-in-Some-clause-fault
returns-in-Some-clause-fault g c =
    let a = c.args.self.now in
    let p = g.row.P in
    let k = rw c.in-Some.is at c.in_ok-kernel.ensures in
    let h : IsKernelVector p a.rows a.rows (entry a) c.in-Some.kernel.items = subst (λ (n : ℕ). IsKernelVector p a.rows n (entry a) c.in-Some.kernel.items) (sym c.requires.square) k in
    (h, (λ b i. no_inverse p a.rows (entry a) (λ j. get_or c.in-Some.kernel.items j 0) h.killed b i))

pub right_block-requires : goal.right_block-requires
right_block-requires g c =
    let a = c.args.self.now in
    let p = g.row.P in
    let s = c.rows-size.result in
    let e = c.in_ok-echelon.echelon in
    let q = c.requires.square in
    let v = c.rows-size.ensures.value in
    let h = squared p a.rows a.columns s (entry a) e.rows.items e.pivots.items q v c.in_ok-echelon.ensures in
    let n = rw c.in_default.is at c.in_ok-kernel.ensures in
    let free = free_square p a.rows a.columns s (entry a) q v n in
    (lit< tt, (lit< tt, (square_bound a.rows a.columns s 16777216 q v c.rows-size.ensures.table.bound, (h.form, pivots_of p s (is_field p c.args.f.listed) (entry a) e.rows.items e.pivots.items h free))))

pub returns-clause-inverse : goal.returns-clause-inverse
returns-clause-inverse g c =
    let a = c.args.self.now in
    let p = g.row.P in
    let s = c.rows-size.result in
    let e = c.in_ok-echelon.echelon in
    let q = c.requires.square in
    let v = c.rows-size.ensures.value in
    let h = squared p a.rows a.columns s (entry a) e.rows.items e.pivots.items q v c.in_ok-echelon.ensures in
    let n = rw c.in_default.is at c.in_ok-kernel.ensures in
    let free = free_square p a.rows a.columns s (entry a) q v n in
    subst (λ (d : ℕ). IsInverse p d (entry a) (entry c.in_ok-right_block.field-0)) v
    (inverts_of p s (is_field p c.args.f.listed) (entry a) e.rows.items e.pivots.items h free (entry c.in_ok-right_block.field-0) c.in_ok-right_block.ensures.block)
