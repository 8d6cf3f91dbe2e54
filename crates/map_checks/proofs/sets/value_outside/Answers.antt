use Rattle.std.proofs.Common.{◌≡◌, List, arith, rules, subst, sym, true, false}
use Rattle.std.specs.List.{Contains}
use Rattle.std.specs.List.Sorted.{IsStrictlySortedBy}
use Rattle.elem_cubes.specs.Cells.{Factor}
use Rattle.elem_cubes.specs.Order.{cell_cmp}
use Rattle.map_checks.specs.Firsts.{IsFirstOf}
use Rattle.map_checks.specs.Faults.{together}
use Rattle.map_checks.proofs.Firsts.{first_at, none_at, none_more}
use Rattle.map_checks.proofs.Leaving.{value_sorted, none_unnamed, in_either, in_neither}
use Rattle.map_checks.proofs.sets.value_outside.Goals as goal

pub returns-in_default : goal.returns-in_default
returns-in_default c = λ v w _. none_unnamed c.args.map.now.named c.args.cube.now c.in_default.ensures.none v w

pub returns-then-not-is_in_either : goal.returns-then-not-is_in_either
returns-then-not-is_in_either c =
    let P : List Factor → Type 0 = λ v. Contains (together c.args.y.now.cells c.args.b.now.cells) v → ⊥ in
    let e = c.in-Some.ensures.some.1 in
    let sorted : IsStrictlySortedBy cell_cmp c.in-Some.values.now = subst (IsStrictlySortedBy cell_cmp) (sym e) (value_sorted c.args.map.now c.len-count.ensures.map c.args.cube.now) in
    let no : c.is_in_either.result ≡ false = search rules in
    subst (λ (l : List (List Factor)). IsFirstOf l P c.value-item.result) e
    (first_at c.in-Some.values.now sorted P c.loop-value.value-index c.value-item.result c.loop-value-test.true c.value-item.is
    (in_neither c.args.y.now.cells c.args.b.now.cells c.value-item.result c.is_in_either.result c.is_in_either.ensures no) c.loop-value.invariant)

pub loop-value-preserved : goal.loop-value-preserved
loop-value-preserved c =
    let P : List Factor → Type 0 = λ v. Contains (together c.args.y.now.cells c.args.b.now.cells) v → ⊥ in
    let yes : c.is_in_either.result ≡ true = search rules in
    none_more c.in-Some.values.now P c.loop-value.value-index c.value-item.result c.loop-value-test.true c.value-item.is
    (λ out. out (in_either c.args.y.now.cells c.args.b.now.cells c.value-item.result c.is_in_either.result c.is_in_either.ensures yes)) c.loop-value.invariant

pub returns : goal.returns
returns c =
    let P : List Factor → Type 0 = λ v. Contains (together c.args.y.now.cells c.args.b.now.cells) v → ⊥ in
    subst (λ (l : List (List Factor)). (v : List Factor) → Contains l v → P v → ⊥) c.in-Some.ensures.some.1 (none_at c.in-Some.values.now P (λ k l p. c.loop-value.invariant k (omega arith) p))
