use Rattle.std.proofs.Common.{◌≡◌, refl, arith, []}
use Rattle.std.specs.Prelude.{pos}
use Rattle.std.specs.Int.{int_rem_euclid}
use Rattle.std.proofs.lemmas.Bool.{false≢true}
use Rattle.std.proofs.lemmas.Option.{get_or_from_slice_get, slice_get_within}
use Rattle.cell_complex.proofs.Facets.{sign_number}
use Rattle.cell_complex.proofs.Collecting.{facet_added, facet_missed}
use Rattle.chain_selector.proofs.boundary.push_facet.Goals as goal

pub returns-in_default : goal.returns-in_default
returns-in_default g c = facet_missed g.row.P c.args.cells.now c.args.facet.0 c.args.facet.1 c.args.terms.now.items c.args.terms.now.items (λ w. false≢true (c.in_default.ensures.found.1 w)) refl

pub returns : goal.returns
returns g c =
    let number : pos c.of_i64.result ≡ int_rem_euclid c.args.facet.1 (pos g.row.P) = sign_number g.row.P c.of_i64.result c.args.facet.1 c.from.result c.requires c.from.ensures c.of_i64.ensures.value in
    facet_added g.row.P c.args.cells.now c.args.facet.0 c.args.facet.1 c.in-Some.number c.of_i64.result c.args.terms.now.items c.push.new.self.items (omega (arith, c.of_i64.ensures.below)) c.in-Some.ensures.sorted
    (slice_get_within c.args.cells.now c.in-Some.number c.args.facet.0 c.in-Some.ensures.place) (get_or_from_slice_get c.args.cells.now c.in-Some.number c.args.facet.0 [] c.in-Some.ensures.place) number c.in_ok-push.ensures.items
