use Rattle.std.proofs.Common.{◌≡◌, ◌⊎◌, inl, inr, sym, length, ◌∙◌, ◌≤◌, List, ◌||◌, arith}
use Rattle.std.specs.Ordering.{is_eq}
use Rattle.elem_cubes.specs.declared.range.TheConstants.{MAX_EMBEDDING}
use Rattle.elem_cubes.specs.Cells.{Factor}
use Rattle.elem_cubes.specs.Order.{cell_cmp}
use Rattle.cube_sets.specs.Sorted.{has}
use Rattle.grid_files.proofs.Gathering.{on_ok, cell_joins, cell_too_many}
use Rattle.grid_files.proofs.gathered.Gathered.join_cell.Goals as goal
use Rattle.grid_files.proofs.gathered.Gathered.join_cell.Goals.{else-self-ne0-via-then-self-ne0+else-self-dimension, else-self-ne0-via-else-self-ne0}

pub returns-then-are_too_many-clause-joins : goal.returns-then-are_too_many-clause-joins
returns-then-are_too_many-clause-joins c = λ set g.
    let agree : (c.args.self.now.dimension ≡ 0) ⊎ (c.args.self.now.dimension ≡ length c.args.cell) = elim c.else-self-ne0.branch [
      | else-self-ne0-via-then-self-ne0+else-self-dimension w ↦ inr (w.if-self-dimension.false ∙ c.embedding-dimension.ensures.embedding)
      | else-self-ne0-via-else-self-ne0 w ↦ inl w.if-self-ne0.false
    ] in
    let more : (d : List Factor) → has cell_cmp c.insert.new.self d ≡ (is_eq (cell_cmp c.args.cell d) || has cell_cmp c.args.self.now.cells d) =
    on_ok c.insert.result _ c.insert.ensures (sym c.if-is_err.ensures.value) in
    cell_too_many c.args.self.now.kind set c.args.self.now c.args.cell c.insert.new.self g agree (sym c.is_wanted.ensures ∙ c.if-not-is_wanted.false) more
    (λ cells h. sym c.if-are_too_many.true ∙ c.are_too_many.ensures cells h)

pub returns-clause-joins : goal.returns-clause-joins
returns-clause-joins c = λ set g.
    let agree : (c.args.self.now.dimension ≡ 0) ⊎ (c.args.self.now.dimension ≡ length c.args.cell) = elim c.else-self-ne0.branch [
      | else-self-ne0-via-then-self-ne0+else-self-dimension w ↦ inr (w.if-self-dimension.false ∙ c.embedding-dimension.ensures.embedding)
      | else-self-ne0-via-else-self-ne0 w ↦ inl w.if-self-ne0.false
    ] in
    let more : (d : List Factor) → has cell_cmp c.insert.new.self d ≡ (is_eq (cell_cmp c.args.cell d) || has cell_cmp c.args.self.now.cells d) =
    on_ok c.insert.result _ c.insert.ensures (sym c.if-is_err.ensures.value) in
    let some : 1 ≤ length c.args.cell = omega arith in
    let few : length c.args.cell ≤ MAX_EMBEDDING = omega arith in
    cell_joins c.args.self.now.kind set c.args.self.now (record { kind = c.args.self.now.kind; dimension = c.embedding-dimension.result; cells = c.insert.new.self }) c.args.cell g c.requires some few agree
    (sym c.is_wanted.ensures ∙ c.if-not-is_wanted.false) more c.embedding-dimension.ensures.embedding (λ cells h. sym c.if-are_too_many.false ∙ c.are_too_many.ensures cells h)
