use Rattle.std.proofs.Common.{◌+◌, ◌≤◌, ◌∙◌, refl, ap, arith, length, get_or, true, false}
use Rattle.std.proofs.lemmas.Bool.{false≢true}
use Rattle.elem_cubes.specs.Laws.{cell_at}
use Rattle.cell_points.specs.Places.{cells_of_places}
use Rattle.cell_points.proofs.Counting.{length-firsts}
use Rattle.cell_points.proofs.Searching.{not_there, number_few, number_cell, bit_there, count_there}
use Rattle.cell_points.proofs.Sorting.{found, placed}
use Rattle.cell_points.proofs.search.number_at.Goals as goal

pub returns-then-not-has_bit-clause-found : goal.returns-then-not-has_bit-clause-found
returns-then-not-has_bit-clause-found c =
    let b = bit_there c.args.places.now c.args.place c.index-places-place.result c.rank_of-rank.result c.args.cell.now c.requires.here.within c.rank_of-rank.ensures.rank c.has_bit.result false c.has_bit.ensures c.if-not-has_bit.true in
    (λ e. absurd (false≢true e), λ w. absurd (not_there c.args.places.now c.args.cell.now c.args.place c.requires.are c.requires.here (omega (arith, c.embedding.ensures.embedding, c.embedding.ensures.few)) b w))

pub bounds-firsts-place : goal.bounds-firsts-place
bounds-firsts-place c = let a = c.requires.here.within in let b = length-firsts c.args.places.now 0 in let e = ap length c.requires.firsts in omega arith

pub overflow_add-result : goal.overflow_add-result
overflow_add-result c =
    let few : length c.args.cell.now ≤ 4 = omega (arith, c.embedding.ensures.embedding, c.embedding.ensures.few) in
    let b = bit_there c.args.places.now c.args.place c.index-places-place.result c.rank_of-rank.result c.args.cell.now c.requires.here.within c.rank_of-rank.ensures.rank c.has_bit.result true c.has_bit.ensures c.if-not-has_bit.false in
    let n = count_there c.args.places.now c.args.place c.index-places-place.result c.rank_of-rank.result c.args.cell.now c.requires.here.within c.rank_of-rank.ensures.rank c.ranks_below.result c.args.firsts.now c.ranks_below.ensures c.requires.firsts in
    let l = number_few c.args.places.now c.args.cell.now c.args.place c.requires.are c.requires.here few b in
    let t = c.requires.few in
    omega arith

pub returns-clause-found : goal.returns-clause-found
returns-clause-found c =
    let few : length c.args.cell.now ≤ 4 = omega (arith, c.embedding.ensures.embedding, c.embedding.ensures.few) in
    let b = bit_there c.args.places.now c.args.place c.index-places-place.result c.rank_of-rank.result c.args.cell.now c.requires.here.within c.rank_of-rank.ensures.rank c.has_bit.result true c.has_bit.ensures c.if-not-has_bit.false in
    let l = number_few c.args.places.now c.args.cell.now c.args.place c.requires.are c.requires.here few b in
    let e = number_cell c.args.places.now c.args.cell.now c.args.place c.requires.are c.requires.here few b in
    (λ _. found (cells_of_places c.args.places.now) c.args.cell.now _ l e, λ w. refl)

pub returns-clause-place : goal.returns-clause-place
returns-clause-place c =
    let few : length c.args.cell.now ≤ 4 = omega (arith, c.embedding.ensures.embedding, c.embedding.ensures.few) in
    let b = bit_there c.args.places.now c.args.place c.index-places-place.result c.rank_of-rank.result c.args.cell.now c.requires.here.within c.rank_of-rank.ensures.rank c.has_bit.result true c.has_bit.ensures c.if-not-has_bit.false in
    let n = count_there c.args.places.now c.args.place c.index-places-place.result c.rank_of-rank.result c.args.cell.now c.requires.here.within c.rank_of-rank.ensures.rank c.ranks_below.result c.args.firsts.now c.ranks_below.ensures c.requires.firsts in
    let l = number_few c.args.places.now c.args.cell.now c.args.place c.requires.are c.requires.here few b in
    let e = number_cell c.args.places.now c.args.cell.now c.args.place c.requires.are c.requires.here few b in
    placed (cells_of_places c.args.places.now) c.args.cell.now (get_or c.args.firsts.now c.args.place 0 + c.ranks_below.result) (omega (arith, n, l)) (ap (cell_at (cells_of_places c.args.places.now)) n ∙ e)
