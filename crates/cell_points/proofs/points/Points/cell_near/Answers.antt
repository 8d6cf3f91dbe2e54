use Rattle.std.proofs.Common.{◌<◌, ◌∙◌, ap, subst, arith, length, get_or, List}
use Rattle.std.specs.Prelude.{ℕ}
use Rattle.elem_cubes.specs.Cells.{checked_of}
use Rattle.elem_cubes.specs.Laws.{cell_at}
use Rattle.cell_points.specs.Places.{IsLastFrom, cells_of_places}
use Rattle.cell_points.proofs.Edges.{made_some, same_some}
use Rattle.cell_points.proofs.Searching.{some_firsts, number_inside, found_number, found_is}
use Rattle.cell_points.proofs.points.Points.cell_near.Goals as goal

pub place_of_number-place-requires-clause-some : goal.place_of_number-place-requires-clause-some
place_of_number-place-requires-clause-some c =
    let f = some_firsts c.self.inside.places.items c.args.number (omega (arith, c.requires, ap length c.self.view_is)) in
    omega (arith, ap length (c.deref.ensures.value ∙ c.self.invariant.numbered), f.0)

pub place_of_number-place-requires-clause-first : goal.place_of_number-place-requires-clause-first
place_of_number-place-requires-clause-first c =
    let f = some_firsts c.self.inside.places.items c.args.number (omega (arith, c.requires, ap length c.self.view_is)) in
    omega (arith, ap (λ ns. get_or ns 0 0) (c.deref.ensures.value ∙ c.self.invariant.numbered), f.1)

pub index-requires : goal.index-requires
index-requires c =
    let h = subst (λ (f : List ℕ). IsLastFrom f c.args.number c.place_of_number-place.result) (c.deref.ensures.value ∙ c.self.invariant.numbered) c.place_of_number-place.ensures in
    let f = number_inside c.self.inside.places.items c.args.number c.place_of_number-place.result c.self.invariant.are (omega (arith, c.requires, ap length c.self.view_is)) h in
    omega (arith, f.0, c.self.inside.places.ok)

pub rank_at-rank-requires : goal.rank_at-rank-requires
rank_at-rank-requires c =
    let f = found_number c.self.inside.places.items c.deref.result.now c.args.number c.place_of_number-place.result c.index.result.now c.index-2.result.now c.self.invariant.are
    (omega (arith, c.requires, ap length c.self.view_is)) (c.deref.ensures.value ∙ c.self.invariant.numbered) c.place_of_number-place.ensures c.index.ensures (rw c.deref.ensures.value c.index-2.ensures) in
    omega (arith, f.low, f.high)

pub unwrap-requires : goal.unwrap-requires
unwrap-requires c =
    let l : c.args.number < length (cells_of_places c.self.inside.places.items) = omega (arith, c.requires, ap length c.self.view_is) in
    let f = found_number c.self.inside.places.items c.deref.result.now c.args.number c.place_of_number-place.result c.index.result.now c.index-2.result.now c.self.invariant.are
    l (c.deref.ensures.value ∙ c.self.invariant.numbered) c.place_of_number-place.ensures c.index.ensures (rw c.deref.ensures.value c.index-2.ensures) in
    made_some c.new.result (cell_at (cells_of_places c.self.inside.places.items) c.args.number) (c.new.ensures ∙ ap (checked_of c.index.result.now.corner) c.turned.ensures.turned
    ∙ found_is c.self.inside.places.items c.args.number c.place_of_number-place.result c.index.result.now c.index-2.result.now c.rank_at-rank.result c.self.invariant.are c.self.invariant.cells l f c.rank_at-rank.ensures.few c.rank_at-rank.ensures.bit c.rank_at-rank.ensures.place (omega (arith, c.len.ensures.len, c.len.ensures.some)))

pub returns : goal.returns
returns c =
    let l : c.args.number < length (cells_of_places c.self.inside.places.items) = omega (arith, c.requires, ap length c.self.view_is) in
    let f = found_number c.self.inside.places.items c.deref.result.now c.args.number c.place_of_number-place.result c.index.result.now c.index-2.result.now c.self.invariant.are
    l (c.deref.ensures.value ∙ c.self.invariant.numbered) c.place_of_number-place.ensures c.index.ensures (rw c.deref.ensures.value c.index-2.ensures) in
    same_some c.new.result c.unwrap.result (cell_at (cells_of_places c.self.inside.places.items) c.args.number) c.unwrap.ensures (c.new.ensures ∙ ap (checked_of c.index.result.now.corner) c.turned.ensures.turned
    ∙ found_is c.self.inside.places.items c.args.number c.place_of_number-place.result c.index.result.now c.index-2.result.now c.rank_at-rank.result c.self.invariant.are c.self.invariant.cells l f c.rank_at-rank.ensures.few c.rank_at-rank.ensures.bit c.rank_at-rank.ensures.place (omega (arith, c.len.ensures.len, c.len.ensures.some)))
    ∙ ap (λ cells. cell_at cells c.args.number) c.self.view_is
