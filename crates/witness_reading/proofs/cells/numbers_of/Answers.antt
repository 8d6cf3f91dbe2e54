use Rattle.std.proofs.Common.{◌∙◌, ◌<◌, ℕ, List, suc, ap, arith, length, subst, sym}
use Rattle.std.specs.List.{Contains}
use Rattle.elem_cubes.specs.Cells.{Factor}
use Rattle.cell_complex.specs.Numbering.{number_of}
use Rattle.witness_reading.proofs.Tables.{place_inside, put_more}
use Rattle.witness_reading.proofs.cells.numbers_of.Goals as goal

pub number_in-requires-clause-inside : goal.number_in-requires-clause-inside
number_in-requires-clause-inside c =
    let l : c.loop-place.place < length c.args.kept.now = omega (arith, c.loop-place-test.true, c.len-place-end.ensures.count) in
    subst (λ (q : List Factor). Contains c.args.all.now q) (sym c.cell.ensures)
    (place_inside c.args.kept.now c.args.all.now c.loop-place.place c.requires.inside l)

pub loop-place-preserved : goal.loop-place-preserved
loop-place-preserved c =
    let f : List Factor → ℕ = λ q. suc (number_of c.args.all.now q) in
    let l : c.loop-place.place < length c.args.kept.now = omega (arith, c.loop-place-test.true, c.len-place-end.ensures.count) in
    put_more f c.args.kept.now c.loop-place.place c.loop-place.numbers.items c.push.new.self.items c.number_in.result l
    (c.number_in.ensures ∙ ap f c.cell.ensures) c.in_ok-push.ensures.items c.loop-place.invariant
