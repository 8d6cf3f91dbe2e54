use Rattle.std.proofs.Common.{ℕ, [], ◌∷◌, ◌∙◌, ap, arith, subst, map}
use Rattle.std.proofs.lemmas.List.{map-append}
use Rattle.map_parts.specs.Values.{AreFiledContractions}
use Rattle.map_parts.proofs.Contracting.{no_values, next_value}
use Rattle.map_parts.proofs.values.values_of.Goals as goal

pub loop-place-init : goal.loop-place-init
loop-place-init g c =
    no_values g.row.P c.args.cube_map.now.named c.args.domain.now.cells c.args.range.now.cells
    c.new-vertices.result.items _ c.new-vertices.ensures.items (ap (map (λ v. v.items)) c.new-contractions.ensures.items)

pub loop-place-preserved : goal.loop-place-preserved
loop-place-preserved g c =
    next_value g.row.P c.args.cube_map.now.named c.args.domain.now.cells c.args.range.now.cells c.loop-place.place c.in_ok-vertex.vertex c.loop-place.vertices.items c.push.new.self.items
    (map (λ v. v.items) c.loop-place.contractions.items) (map (λ v. v.items) c.push-in-loop-place.new.self.items)
    c.in_ok-vertex.rows.items c.loop-place.invariant c.in_ok-vertex.ensures c.in_ok-push.ensures.items
    (ap (map (λ v. v.items)) c.in_ok-push-2.ensures.items ∙ map-append (λ v. v.items) c.loop-place.contractions.items (c.in_ok-vertex.rows ∷ []))

pub returns : goal.returns
returns g c =
    let f = c.args.cube_map.now.named in
    let d = c.args.domain.now.cells in
    let r = c.args.range.now.cells in
    subst (λ (n : ℕ). AreFiledContractions g.row.P f d r n c.loop-place.vertices.items (map (λ v. v.items) c.loop-place.contractions.items))
    (omega (arith, c.loop-place-test.false, c.len-place-end.ensures.count)) c.loop-place.invariant
