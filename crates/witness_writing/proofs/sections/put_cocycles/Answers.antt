use Rattle.std.proofs.Common.{rules, ◌≡◌, ◌∷◌, [], arith}
use Rattle.std.specs.Prelude.{codes, slice_index}
use Rattle.witness_laws.specs.Lines.{chain_line}
use Rattle.witness_laws.specs.Parts.{nth}
use Rattle.witness_types.specs.Parts.{degrees_of}
use Rattle.witness_writing.proofs.Filling.{grown, found_at, degree_line}
use Rattle.witness_writing.proofs.sections.put_cocycles.Goals as goal

pub loop-place-preserved : goal.loop-place-preserved
loop-place-preserved g c =
    let zs = c.args.cycles.now in
    let e : c.from-degree.result ≡ c.index-cycles-place.result.0 = search (rules) in
    grown c.loop-place.place (λ i. chain_line (codes "c") (slice_index (degrees_of zs) i ∷ []) (nth c.args.cocycles.now i)) _ _ _ _ c.in_ok-put_chain_line.ensures
    (degree_line (codes "c") zs c.args.cocycles.now c.loop-place.place _ _ _ (omega (arith, c.loop-place-test.true, c.requires)) c.index-cycles-place.is e
    (found_at c.args.cocycles.now c.loop-place.place _ [] c.loop-place-test.true c.index-cocycles-place.is)) c.loop-place.invariant
