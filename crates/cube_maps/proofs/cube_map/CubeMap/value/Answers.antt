use Rattle.std.proofs.Common.{rules, sym, ap, ◌∙◌, ◌<◌, ◌≤◌, get_or, length}
use Rattle.std.proofs.lemmas.List.Sorted.{answers_always}
use Rattle.elem_cubes.specs.OrderLemmas.{tied_cells}
use Rattle.cube_maps.proofs.Naming.{found, not_found}
use Rattle.cube_maps.proofs.cube_map.CubeMap.value.Goals as goal

pub returns-in-Ok-clause-some : goal.returns-in-Ok-clause-some
returns-in-Ok-clause-some c =
    let by_cube = c.in-Ok.ensures.position (λ e. e.cube) (answers_always _ _ _ (λ f a r g called. search rules)) in
    let es = c.self.inside.entries.items in
    let at : c.in-Ok.at < length es = rw (← c.deref.ensures.value) c.in-Ok.ensures.bound in
    let d = c.index.result.now in
    let same = ap (λ l. (get_or l c.in-Ok.at d).cube) (sym c.deref.ensures.value) ∙ tied_cells (get_or c.deref.result.now c.in-Ok.at d).cube c.args.cube.now (by_cube d) in
    let f = found es c.in-Ok.at d c.args.cube.now c.self.invariant.sorted at same in
    rw (← c.self.view_is) (f.0, c.deref-in-Ok.ensures.value ∙ ap (λ e. e.value) c.behind-self.view_is ∙ ap (λ e. e.value) c.index.ensures ∙ sym f.1)

pub returns-in-Err-clause-none : goal.returns-in-Err-clause-none
returns-in-Err-clause-none c =
    let by_cube = c.in-Err.ensures.position (λ e. e.cube) (answers_always _ _ _ (λ f a r g called. search rules)) in
    let es = c.self.inside.entries.items in
    let at : c.in-Err.field-0 ≤ length es = rw (← c.deref.ensures.value) c.in-Err.ensures.bound in
    rw (← c.self.view_is) (not_found es c.in-Err.field-0 c.args.cube.now c.self.invariant.sorted at (rw (← c.deref.ensures.value) by_cube))
