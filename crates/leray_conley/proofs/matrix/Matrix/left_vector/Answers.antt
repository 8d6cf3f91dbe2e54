use Rattle.std.proofs.Common.{ℕ, MatchOption}
use Rattle.std.proofs.lemmas.Result.{IfOk-weaker}
use Rattle.leray_conley.specs.Kernels.{IsKilled, IsKernelVector}
use Rattle.leray_conley.specs.Products.{transpose}
use Rattle.leray_conley.specs.Tables.{entry}
use Rattle.leray_conley.proofs.Transfers.{killed_entries, option_weaker, vector_entries}
use Rattle.leray_conley.proofs.matrix.Matrix.left_vector.Goals as goal

pub returns : goal.returns
returns g c =
    let p = g.row.P in
    let a = c.args.self.now in
    let t = c.in_ok-transposed.field-0 in
    let h = c.in_ok-transposed.ensures in
    IfOk-weaker c.kernel_vector-2.result
    (λ o. MatchOption o ((v : ℕ → ℕ) → IsKilled p t.rows t.columns (entry t) v → ⊥) (λ v. IsKernelVector p t.rows t.columns (entry t) v.items))
    (λ o. MatchOption o ((v : ℕ → ℕ) → IsKilled p a.columns a.rows (transpose (entry a)) v → ⊥) (λ v. IsKernelVector p a.columns a.rows (transpose (entry a)) v.items))
    (λ o k. option_weaker o ((v : ℕ → ℕ) → IsKilled p t.rows t.columns (entry t) v → ⊥) ((v : ℕ → ℕ) → IsKilled p a.columns a.rows (transpose (entry a)) v → ⊥)
    (λ v. IsKernelVector p t.rows t.columns (entry t) v.items) (λ v. IsKernelVector p a.columns a.rows (transpose (entry a)) v.items)
    (λ none v kv. none v (killed_entries p t h v kv)) (λ v w. vector_entries p t h v.items w) k)
    c.kernel_vector-2.ensures
