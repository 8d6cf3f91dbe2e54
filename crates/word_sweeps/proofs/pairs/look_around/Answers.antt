use Rattle.std.proofs.Common.{◌∙◌, ap, arith, sym}
use Rattle.std.specs.List.{list_all}
use Rattle.elem_cubes.specs.Cells.{is_file_factor}
use Rattle.word_sweeps.proofs.FreeSlots.{none_out_of_range, none_without_word}
use Rattle.word_sweeps.proofs.Steps.{vertex_placed}
use Rattle.word_sweeps.proofs.pairs.look_around.Goals as goal

pub returns-then-not-in_range-clause-none : goal.returns-then-not-in_range-clause-none
returns-then-not-in_range-clause-none c = none_out_of_range c.args.words.now c.args.corner.now c.len-count.ensures.words
    (ap (list_all is_file_factor) (sym c.vertex_at-vertex.ensures) ∙ sym c.in_range.ensures ∙ c.if-not-in_range.true)

pub returns-then-place-count-clause-none : goal.returns-then-place-count-clause-none
returns-then-place-count-clause-none c =
    let few = c.len-axes.ensures.few in
    let size = c.len-axes.ensures.len in
    let count = c.len-count.ensures.count in
    let past = c.if-place-count.true in
    let placed = vertex_placed c.args.words.now c.args.corner.now c.vertex_at-vertex.result c.place_near-place.result (omega arith) c.vertex_at-vertex.ensures c.place_near-place.ensures.place in
    none_without_word c.args.words.now c.args.corner.now c.len-count.ensures.words (omega arith) (omega arith)

pub returns-clause-some : goal.returns-clause-some
returns-clause-some c =
    let few = c.len-axes.ensures.few in
    let size = c.len-axes.ensures.len in
    let count = c.len-count.ensures.count in
    let within = c.if-place-count.false in
    let placed = vertex_placed c.args.words.now c.args.corner.now c.vertex_at-vertex.result c.place_near-place.result (omega arith) c.vertex_at-vertex.ensures c.place_near-place.ensures.place in
    record { placed = placed; within = omega arith; count = size; few = few; words = c.words_below.ensures }
