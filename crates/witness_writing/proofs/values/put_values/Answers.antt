use Rattle.std.proofs.Common.{◌≡◌, ◌<◌, ◌+◌, suc, [], ap, ◌∙◌, arith, length}
use Rattle.std.specs.Prelude.{slice_index_or}
use Rattle.cube_sets.specs.Closures.{cells_of}
use Rattle.witness_writing.specs.Runs.{value_in, fillings_in, cell_text}
use Rattle.witness_writing.proofs.Filling.{grown, found_at, mapped_at, same_value, values_inside}
use Rattle.witness_writing.proofs.values.put_values.Goals as goal

pub put_value-requires : goal.put_value-requires
put_value-requires g c =
    let f = c.args.map.now.named in
    let domain = c.args.domain.now.cells in
    let range = c.args.range.now.cells in
    let part = c.args.part.now in
    let i = c.loop-place.place in
    let l : i < length (cells_of domain) = omega (arith, c.loop-place-test.true, c.len-place-end.ensures.count, ap length c.in_ok-cells.ensures) in
    let v : c.deref.result.now ≡ value_in f domain range i = c.deref.ensures.value ∙ c.in_ok-value.ensures in
    let k : c.deref-in-loop-place.result.now ≡ slice_index_or (fillings_in part) i [] =
    c.deref-in-loop-place.ensures.value ∙ mapped_at (λ w. w.items) part.contractions.items i c.index-chains.result.now [] (omega (arith, l, c.requires.part.values)) c.index-chains.ensures in (
      (omega arith),
      (
        (omega (arith, ap length k, ap length v, c.requires.part.fillings i l)),
        (values_inside f domain range i c.deref.result.now c.in_ok-all.all v c.in_ok-all.ensures, (omega (arith, ap length c.in_ok-all.ensures, c.requires.few_range))),
      ),
    )

pub loop-place-preserved : goal.loop-place-preserved
loop-place-preserved g c =
    let f = c.args.map.now.named in
    let domain = c.args.domain.now.cells in
    let range = c.args.range.now.cells in
    let part = c.args.part.now in
    let i = c.loop-place.place in
    let l : i < length (cells_of domain) = omega (arith, c.loop-place-test.true, c.len-place-end.ensures.count, ap length c.in_ok-cells.ensures) in
    let v : c.deref.result.now ≡ value_in f domain range i = c.deref.ensures.value ∙ c.in_ok-value.ensures in
    let k : c.deref-in-loop-place.result.now ≡ slice_index_or (fillings_in part) i [] =
    c.deref-in-loop-place.ensures.value ∙ mapped_at (λ w. w.items) part.contractions.items i c.index-chains.result.now [] (omega (arith, l, c.requires.part.values)) c.index-chains.ensures in
    let n : i + 1 ≡ suc i = omega arith in
    grown i (cell_text f domain range part) c.args.to.now.items c.loop-place.to.items c.put_value.new.to.items _ c.in_ok-put_value.ensures
    (same_value c.in_ok-all.all (cells_of range) c.deref.result.now (value_in f domain range i) (i + 1) (suc i) _ _ c.deref-in-loop-place.result.now (slice_index_or (fillings_in part) i []) _ _
    c.in_ok-all.ensures v n (found_at part.vertices.items i c.index-vertex.result.now 0 (omega (arith, l, c.requires.part.vertices)) c.index-vertex.ensures) k
    (found_at part.images.items i c.index-image.result.now [] (omega (arith, l, c.requires.part.images)) c.index-image.ensures)) c.loop-place.invariant
