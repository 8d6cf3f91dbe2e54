use Rattle.std.proofs.Common.{sym, subst}
use Rattle.map_checks.specs.Firsts.{IsFirst}
use Rattle.map_checks.specs.Faults.{together, Leaves}
use Rattle.map_checks.proofs.Firsts.{first_of_both}
use Rattle.map_checks.proofs.Leaving.{goes_into, stays, first_cube}
use Rattle.map_checks.proofs.sets.first_outside.Goals as goal

pub returns-in_default-clause-none : goal.returns-in_default-clause-none
returns-in_default-clause-none c =
    let x = c.args.x.now.cells in
    let a = c.args.a.now.cells in
    let set = together c.args.y.now.cells c.args.b.now.cells in
    let P = Leaves c.args.map.now.named set in
    let left = rw c.cells.ensures.cells at c.first_leaving-left.ensures in
    let right = rw c.cells-2.ensures.cells at c.first_leaving-right.ensures in
    goes_into c.args.map.now.named set (together x a)
    (subst (IsFirst (together x a) P) (sym c.in_default.ensures) (first_of_both x a P c.first_leaving-left.result c.first_leaving-right.result left right))

pub returns-in-Some-value_outside-clause-some : goal.returns-in-Some-value_outside-clause-some
returns-in-Some-value_outside-clause-some c =
    let P = Leaves c.args.map.now.named (together c.args.y.now.cells c.args.b.now.cells) in
    let left = rw c.cells.ensures.cells at c.first_leaving-left.ensures in
    let right = rw c.cells-2.ensures.cells at c.first_leaving-right.ensures in
    record {
      cube = first_cube c.args.x.now.cells c.args.a.now.cells P c.first_leaving-left.result c.first_leaving-right.result c.in-Some.cube left right c.in-Some.ensures;
      value = c.in-Some-value_outside.ensures;
    }

pub returns-in-None-clause-none : goal.returns-in-None-clause-none
returns-in-None-clause-none c =
    let set = together c.args.y.now.cells c.args.b.now.cells in
    let P = Leaves c.args.map.now.named set in
    let left = rw c.cells.ensures.cells at c.first_leaving-left.ensures in
    let right = rw c.cells-2.ensures.cells at c.first_leaving-right.ensures in
    let first = first_cube c.args.x.now.cells c.args.a.now.cells P c.first_leaving-left.result c.first_leaving-right.result c.in-Some.cube left right c.in-Some.ensures in
    absurd (stays c.args.map.now.named set c.in-Some.cube c.in-None.ensures first.here)
