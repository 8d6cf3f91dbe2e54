use Rattle.std.proofs.Common.{◌<◌, ◌∙◌, ℕ, List, [], suc, ap, arith, length, sym}
use Rattle.elem_cubes.specs.Cells.{Factor}
use Rattle.cell_complex.specs.Numbering.{number_of}
use Rattle.witness_writing.proofs.Filling.{found_at}
use Rattle.witness_reading.proofs.Tables.{put_more}
use Rattle.map_reading.proofs.tables.numbers_of.Goals as goal

pub number_in-requires-clause-inside : goal.number_in-requires-clause-inside
number_in-requires-clause-inside c =
    c.requires.inside c.index-value-place.result (c.loop-place.place, omega (arith, c.loop-place-test.true), sym c.index-value-place.is)

pub loop-place-preserved : goal.loop-place-preserved
loop-place-preserved c =
    let f : List Factor → ℕ = λ q. suc (number_of c.args.all.now q) in
    let l : c.loop-place.place < length c.args.value.now = omega (arith, c.loop-place-test.true) in
    let q = found_at c.args.value.now c.loop-place.place c.index-value-place.result [] l c.index-value-place.is in
    put_more f c.args.value.now c.loop-place.place c.loop-place.numbers.items c.push.new.self.items c.number_in.result l
    (c.number_in.ensures ∙ ap f q) c.in_ok-push.ensures.items c.loop-place.invariant
