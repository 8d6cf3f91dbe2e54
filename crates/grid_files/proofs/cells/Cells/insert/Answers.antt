use Rattle.std.proofs.Common.{◌≡◌, ◌∙◌, sym, ap, List, [], ◌++◌, ◌||◌, Ok}
use Rattle.std.specs.declared.alloc.AllocError.{AllocError}
use Rattle.std.specs.List.{list_any}
use Rattle.std.specs.Ordering.{is_eq}
use Rattle.std.proofs.lemmas.Iterator.Adapters.{fact_from_extend, YieldsList-from_vec}
use Rattle.std.proofs.lemmas.List.{map-id}
use Rattle.elem_cubes.specs.Cells.{Factor, same_cell}
use Rattle.elem_cubes.specs.Order.{cell_cmp}
use Rattle.cube_sets.specs.Sorted.{has}
use Rattle.grid_files.proofs.Keeping.{told_apart}
use Rattle.grid_files.proofs.cells.Cells.insert.Goals as goal

pub returns : goal.returns
returns c = λ d.
    let listed = c.self.inside.listed.items in
    let distinct = c.self.inside.distinct.keys in
    let all : (x : List Factor) → list_any (same_cell x) c.extend.new.self.keys ≡ (list_any (same_cell x) distinct || list_any (same_cell x) listed) =
    fact_from_extend {E = AllocError} {Q = (x : List Factor) → list_any (same_cell x) c.extend.new.self.keys ≡ (list_any (same_cell x) distinct || list_any (same_cell x) listed)} (λ y. y) (Ok c.in_ok-extend.field-0) c.in_ok-extend.ensures.ran (λ it b. YieldsList-from_vec {s = it} _ b.0 (b.1 ∙ c.replace.result.ok.0))
    (λ xs e h. λ x. h.1.0 x ∙ ap (λ l. list_any (same_cell x) distinct || list_any (same_cell x) l) (sym (map-id xs) ∙ e ∙ ap (λ v. v.items) c.replace.ensures.value)) in
    let none : c.replace.new.dest.items ≡ [] = ap (λ v. v.items) c.replace.ensures.after ∙ c.new-unlisted.ensures.items in
    ap (λ l. has cell_cmp (l ++ c.insert.new.self.keys) d) none
    ∙ ap (λ l. has cell_cmp l d) c.in_ok-insert.ensures.keys
    ∙ told_apart c.args.cell listed distinct c.extend.new.self.keys d all
    ∙ ap (λ l. is_eq (cell_cmp c.args.cell d) || has cell_cmp l d) c.self.view_is
