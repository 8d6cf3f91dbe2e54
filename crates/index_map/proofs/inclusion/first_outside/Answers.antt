use Rattle.std.proofs.Common.{◌≡◌, ◌∙◌, sym, arith, rules, List, true, false}
use Rattle.std.specs.List.{Contains}
use Rattle.elem_cubes.specs.Cells.{Factor}
use Rattle.map_checks.specs.Faults.{together}
use Rattle.map_checks.proofs.Firsts.{first_at, none_at, none_more, left_together, right_together}
use Rattle.map_checks.proofs.Leaving.{in_set}
use Rattle.index_map.proofs.Including.{outside_both}
use Rattle.index_map.proofs.inclusion.first_outside.Goals as goal
use Rattle.index_map.proofs.inclusion.first_outside.Goals.{else-not-holds-via-then-not-holds+else-not-holds-2, else-not-holds-via-else-not-holds}

pub returns-then-not-holds-2 : goal.returns-then-not-holds-2
returns-then-not-holds-2 c =
    let first_test : c.holds.result ≡ false = search rules in
    let second_test : c.holds-then-not-holds.result ≡ false = search rules in
    first_at c.args.cubes.now c.requires (λ q. Contains (together c.args.y.now.cells c.args.b.now.cells) q → ⊥) c.loop-cube.cube-index c.cube-item.result c.loop-cube-test.true c.cube-item.is
    (outside_both c.args.y.now.cells c.args.b.now.cells c.cube-item.result (sym c.holds.ensures ∙ first_test) (sym c.holds-then-not-holds.ensures ∙ second_test)) c.loop-cube.invariant

pub loop-cube-preserved : goal.loop-cube-preserved
loop-cube-preserved c =
    let P : List Factor → Type 0 = λ q. Contains (together c.args.y.now.cells c.args.b.now.cells) q → ⊥ in
    let y = c.args.y.now.cells in
    let b = c.args.b.now.cells in
    let q = c.cube-item.result in
    elim c.else-not-holds.branch [
      | else-not-holds-via-then-not-holds+else-not-holds-2 w ↦
          let test : w.holds-then-not-holds.result ≡ true = search rules in
          none_more c.args.cubes.now P c.loop-cube.cube-index q c.loop-cube-test.true c.cube-item.is (λ out. out (right_together y b q (in_set b q (sym w.holds-then-not-holds.ensures ∙ test)))) c.loop-cube.invariant
      | else-not-holds-via-else-not-holds w ↦
          let test : c.holds.result ≡ true = search rules in
          none_more c.args.cubes.now P c.loop-cube.cube-index q c.loop-cube-test.true c.cube-item.is (λ out. out (left_together y b q (in_set y q (sym c.holds.ensures ∙ test)))) c.loop-cube.invariant
    ]

pub returns : goal.returns
returns c = none_at c.args.cubes.now (λ q. Contains (together c.args.y.now.cells c.args.b.now.cells) q → ⊥) (λ k l p. c.loop-cube.invariant k (omega arith) p)
