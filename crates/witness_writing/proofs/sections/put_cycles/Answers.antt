use Rattle.std.proofs.Common.{rules, ℕ, List, ◌≡◌, ◌∷◌, [], map, get_or, sym}
use Rattle.std.proofs.lemmas.List.{get_or-map}
use Rattle.std.specs.Prelude.{codes, slice_index}
use Rattle.witness_laws.specs.Lines.{chain_line}
use Rattle.witness_laws.specs.Parts.{nth}
use Rattle.witness_types.specs.Parts.{degrees_of}
use Rattle.witness_writing.proofs.Filling.{grown, degree_line}
use Rattle.witness_writing.proofs.sections.put_cycles.Goals as goal

pub loop-place-preserved : goal.loop-place-preserved
loop-place-preserved g c =
    let zs = c.args.cycles.now in
    let i = c.loop-place.place in
    let y = get_or zs i c.index-cycles-place-in-loop-place.result in
    let e : c.from-degree.result ≡ c.index-cycles-place.result.0 = search (rules) in
    grown i (λ j. chain_line (codes "z") (slice_index (degrees_of zs) j ∷ []) (nth (map (λ z. z.1) zs) j)) c.args.to.now.items c.loop-place.to.items c.put_chain_line.new.to.items
    (chain_line (codes "z") (c.from-degree.result ∷ []) y.1) c.in_ok-put_chain_line.ensures
    (degree_line (codes "z") zs (map (λ z. z.1) zs) i c.from-degree.result c.index-cycles-place.result y.1 c.loop-place-test.true c.index-cycles-place.is e
    (sym (get_or-map (λ (z : ℕ × List (ℕ × ℕ)). z.1) zs i c.index-cycles-place-in-loop-place.result [] c.loop-place-test.true))) c.loop-place.invariant
