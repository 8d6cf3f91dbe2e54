use Rattle.std.proofs.Common.{◌≡◌, ◌<◌, ◌≤◌, ℕ, List, length, inl, ap, ◌∙◌, subst, Err}
use Rattle.elem_cubes.specs.Cells.{Factor}
use Rattle.cube_sets.specs.Closures.{cells_of}
use Rattle.faults.specs.declared.fault.Fault.TheVariants.{Limit}
use Rattle.witness_laws.specs.Inputs.{all_cells}
use Rattle.witness_limits.proofs.cells.test_count.Goals as goal

pub returns-in-Ok-clause-few : goal.returns-in-Ok-clause-few
returns-in-Ok-clause-few c =
    let e : length (cells_of c.in_ok-whole.whole.cells) ≡ length (all_cells c.args.x.now.cells c.args.a.now.cells) = ap (λ (l : List (List Factor)). length (cells_of l)) c.in_ok-whole.ensures.cells in
    subst (λ (n : ℕ). n ≤ c.args.most) e c.in-Ok.ensures.few

pub returns-in-Err-TooMany-clause-fault : goal.returns-in-Err-TooMany-clause-fault
returns-in-Err-TooMany-clause-fault c =
    let e : length (cells_of c.in_ok-whole.whole.cells) ≡ length (all_cells c.args.x.now.cells c.args.a.now.cells) = ap (λ (l : List (List Factor)). length (cells_of l)) c.in_ok-whole.ensures.cells in
    let m = c.closure_within.ensures.many (c.in-Err-TooMany.is ∙ ap (λ fault. Err fault) c.in-Err-TooMany.field-0-is) in
    inl (subst (λ (n : ℕ). c.args.most < n) e m, ap (λ n. Limit c.args.count n) c.from.ensures)
