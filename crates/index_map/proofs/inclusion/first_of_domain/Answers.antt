use Rattle.std.proofs.Common.{◌∙◌, ap, List, Option, Some}
use Rattle.std.specs.List.{Contains}
use Rattle.elem_cubes.specs.Cells.{Factor}
use Rattle.map_checks.specs.Firsts.{lower_one}
use Rattle.map_checks.specs.Faults.{together}
use Rattle.index_map.proofs.Including.{first_in_both, min_is}
use Rattle.index_map.proofs.inclusion.first_of_domain.Goals as goal

pub returns-in-Some-Some : goal.returns-in-Some-Some
returns-in-Some-Some c =
    let P : List Factor → Type 0 = λ q. Contains (together c.args.y.now.cells c.args.b.now.cells) q → ⊥ in
    let left = rw c.cells.ensures.cells at c.first_outside-left.ensures in
    let right = rw c.cells-2.ensures.cells at c.first_outside-right.ensures in
    first_in_both c.args.x.now.cells c.args.a.now.cells P c.first_outside-left.result c.first_outside-right.result (Some c.min.result) left right
    (min_is c.first_outside-left.result c.first_outside-right.result c.in-Some-Some.cube c.in-Some-Some.other c.min.result c.in-Some-Some.is-0 c.in-Some-Some.is-1 c.min.ensures)

pub returns-in-Some-None : goal.returns-in-Some-None
returns-in-Some-None c =
    let P : List Factor → Type 0 = λ q. Contains (together c.args.y.now.cells c.args.b.now.cells) q → ⊥ in
    let left = rw c.cells.ensures.cells at c.first_outside-left.ensures in
    let right = rw c.cells-2.ensures.cells at c.first_outside-right.ensures in
    first_in_both c.args.x.now.cells c.args.a.now.cells P c.first_outside-left.result c.first_outside-right.result (Some c.in-Some-None.cube) left right
    (ap (λ (o : Option (List Factor)). lower_one o c.first_outside-right.result) c.in-Some-None.is-0 ∙ ap (lower_one (Some c.in-Some-None.cube)) c.in-Some-None.is-1)

pub returns-in-None-default : goal.returns-in-None-default
returns-in-None-default c =
    let P : List Factor → Type 0 = λ q. Contains (together c.args.y.now.cells c.args.b.now.cells) q → ⊥ in
    let left = rw c.cells.ensures.cells at c.first_outside-left.ensures in
    let right = rw c.cells-2.ensures.cells at c.first_outside-right.ensures in
    first_in_both c.args.x.now.cells c.args.a.now.cells P c.first_outside-left.result c.first_outside-right.result c.first_outside-right.result left right
    (ap (λ (o : Option (List Factor)). lower_one o c.first_outside-right.result) c.in-None-default.is-0)
