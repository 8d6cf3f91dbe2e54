use Rattle.std.proofs.Common.{◌≤◌, List, [], ◌∷◌, ◌++◌, length, take, take_all, arith, sym, ap, ◌∙◌, subst}
use Rattle.std.proofs.lemmas.List.{take_more}
use Rattle.elem_cubes.specs.Cells.{Factor}
use Rattle.map_files.specs.Elements.{changed, joined}
use Rattle.map_files.specs.Kept.{IsKept}
use Rattle.map_files.proofs.Keeping.{cube_kept, step_kept}
use Rattle.map_files.proofs.parts.Parts.join.Goals as goal

pub loop-value-init : goal.loop-value-init
loop-value-init c = λ named k. cube_kept c.args.cube c.args.self.now c.name.new.self named c.in_ok-name.ensures.cubes c.in_ok-name.ensures.pairs k

pub loop-value-preserved : goal.loop-value-preserved
loop-value-preserved c = λ named k.
    step_kept c.args.cube c.args.values.now c.loop-value.value-index c.value-item.result c.loop-value.self c.pair.new.self named
    (take_more c.args.values.now c.loop-value.value-index c.value-item.result c.loop-value-test.true ∙ ap (λ x. take c.loop-value.value-index c.args.values.now ++ x ∷ []) (sym c.value-item.is))
    c.in_ok-pair.ensures.cubes c.in_ok-pair.ensures.pairs (c.loop-value.invariant named k)

pub returns : goal.returns
returns c = λ named k.
    let le : length c.args.values.now ≤ c.loop-value.value-index = omega arith in
    subst (λ (l : List (List Factor)). IsKept c.loop-value.self (changed c.args.cube (joined l) named)) (take_all c.loop-value.value-index c.args.values.now le) (c.loop-value.invariant named k)
