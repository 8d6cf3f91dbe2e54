use Rattle.std.proofs.Common.{sym, ◌∙◌, refl, ap, arith}
use Rattle.elem_cubes.specs.Order.{cell_cmp}
use Rattle.cube_sets.specs.Sorted.{has}
use Rattle.grid_files.proofs.Finishing.{keys_alike, no_keys, are_its_members}
use Rattle.cube_sets.proofs.SameSets.{same_sets, same_members}
use Rattle.grid_files.proofs.reader.Reader.finish.Goals as goal

pub returns-then-is_open : goal.returns-then-is_open
returns-then-is_open c = λ set o r. (sym (c.is_open.ensures o r.opening) ∙ c.if-is_open.true, refl, refl)

pub of_cells-requires-clause-few : goal.of_cells-requires-clause-few
of_cells-requires-clause-few c =
    let set = c.requires.0 in
    let g = c.requires.2.gathered in
    let few = c.in_ok-cells.ensures.few set.cells (are_its_members c.args.self.gathered set g) g.few in
    omega arith

pub of_cells-requires-clause-alike : goal.of_cells-requires-clause-alike
of_cells-requires-clause-alike c = rw c.in_ok-cells.ensures.cells (keys_alike c.args.self.gathered c.requires.0 c.requires.2.gathered)

pub of_cells-requires-clause-unknown : goal.of_cells-requires-clause-unknown
of_cells-requires-clause-unknown c = λ e. c.in_ok-cells.ensures.cells ∙ no_keys c.args.self.gathered c.requires.0 c.requires.2.gathered e

pub returns : goal.returns
returns c = λ set o r. (
  sym (c.is_open.ensures o r.opening) ∙ c.if-is_open.false,
  same_members c.in_ok-set.set set (c.in_ok-set.ensures.dimension ∙ r.gathered.dimension)
      (same_sets c.in_ok-set.set.cells set.cells c.len-len.ensures.set.sorted r.gathered.is_set.sorted
      (λ d. c.in_ok-set.ensures.members d ∙ ap (λ l. has cell_cmp l d) c.in_ok-cells.ensures.cells ∙ r.gathered.members d)),
)
