use Rattle.std.proofs.Common.{◌≡◌, ◌≤◌, ◌<◌, length, true, false, rules, ap, ◌∙◌, sym, subst, IfOk, OnOk, Err}
use Rattle.std.specs.List.{list_all}
use Rattle.cube_sets.specs.declared.fault.TheConstants.{CUBES}
use Rattle.cube_sets.specs.declared.fault.SetFault.TheVariants.{TooMany}
use Rattle.cube_sets.specs.declared.change.Change.TheVariants.{Down, Up}
use Rattle.cube_sets.specs.Sets.{Members}
use Rattle.cube_sets.specs.Changes.{spread_set}
use Rattle.cube_sets.specs.Neighbours.{neighbours_of, neighbourhood, are_full, are_in_range, is_inner}
use Rattle.cube_sets.proofs.Neighbouring.{range_is_inner, spread_to_next, next_alike, on_ok}
use Rattle.cube_sets.proofs.cube_set.CubeSet.neighbourhood.Goals as goal

pub returns-then-not-are_inner-clause-coordinates : goal.returns-then-not-are_inner-clause-coordinates
returns-then-not-are_inner-clause-coordinates c = λ e.
    let full : are_full c.self.inside.cells.items ≡ true = rw (← c.self.view_is) at c.requires in
    let out : c.are_inner.result ≡ false = search rules in
    rw (← c.self.view_is) (range_is_inner c.self.inside.cells.items full ∙ ap (list_all is_inner) (sym c.deref.ensures.value) ∙ sym c.are_inner.ensures ∙ out)

pub spread_within-requires : goal.spread_within-requires
spread_within-requires c =
    let full : are_full c.self.inside.cells.items ≡ true = rw (← c.self.view_is) at c.requires in
    let inner : c.are_inner.result ≡ true = search rules in
    let range : are_in_range (neighbours_of c.self.inside.cells.items) ≡ true = range_is_inner c.self.inside.cells.items full ∙ ap (list_all is_inner) (sym c.deref.ensures.value) ∙ sym c.are_inner.ensures ∙ inner in
    rw (← c.self.view_is) (next_alike _ c.self.invariant full range)

pub returns-clause-cells : goal.returns-clause-cells
returns-clause-cells c =
    let full : are_full c.self.inside.cells.items ≡ true = rw (← c.self.view_is) at c.requires in
    let e : spread_set Down Up c.args.self.now ≡ neighbourhood c.args.self.now = rw (← c.self.view_is) (spread_to_next _ c.self.invariant full) in
    let P : Members → Type 0 = λ m. IfOk c.spread_within.result (λ s. s ≡ m) in
    subst P e c.spread_within.ensures.cells

pub returns-clause-range : goal.returns-clause-range
returns-clause-range c =
    let full : are_full c.self.inside.cells.items ≡ true = rw (← c.self.view_is) at c.requires in
    let inner : c.are_inner.result ≡ true = search rules in
    let range : are_in_range (neighbours_of c.self.inside.cells.items) ≡ true = range_is_inner c.self.inside.cells.items full ∙ ap (list_all is_inner) (sym c.deref.ensures.value) ∙ sym c.are_inner.ensures ∙ inner in
    on_ok c.spread_within.result (rw (← c.self.view_is) range)

pub returns-clause-few : goal.returns-clause-few
returns-clause-few c =
    let full : are_full c.self.inside.cells.items ≡ true = rw (← c.self.view_is) at c.requires in
    let e : spread_set Down Up c.args.self.now ≡ neighbourhood c.args.self.now = rw (← c.self.view_is) (spread_to_next _ c.self.invariant full) in
    let P : Members → Type 0 = λ m. OnOk c.spread_within.result (length m.cells ≤ CUBES) in
    subst P e c.spread_within.ensures.few

pub returns-clause-many : goal.returns-clause-many
returns-clause-many c = λ h.
    let full : are_full c.self.inside.cells.items ≡ true = rw (← c.self.view_is) at c.requires in
    let inner : c.are_inner.result ≡ true = search rules in
    let range : are_in_range (neighbours_of c.self.inside.cells.items) ≡ true = range_is_inner c.self.inside.cells.items full ∙ ap (list_all is_inner) (sym c.deref.ensures.value) ∙ sym c.are_inner.ensures ∙ inner in
    let e : spread_set Down Up c.args.self.now ≡ neighbourhood c.args.self.now = rw (← c.self.view_is) (spread_to_next _ c.self.invariant full) in
    let P : Members → Type 0 = λ m. c.spread_within.result ≡ Err TooMany → CUBES < length m.cells in
    (rw (← c.self.view_is) range, subst P e c.spread_within.ensures.many h)
