use Rattle.std.proofs.Common.{◌≡◌, ◌+◌, ◌≤◌, sym, subst, arith, List, length}
use Rattle.leray_conley.specs.Tables.{Table}
use Rattle.index_map.specs.Pairs.{AreSized}
use Rattle.carrier_tests.proofs.Asked.{pairs_of, included_of, sized}
use Rattle.carrier_tests.proofs.matrix_tests.index_over.Goals as goal

pub matrices_in-requires : goal.matrices_in-requires
matrices_in-requires g c =
    let pairs = pairs_of g.row.P c.args.input.now c.args.carrier c.in-Some.domain.0 c.in-Some-basis_of.range.0 c.in-Some.domain.1 c.in-Some-basis_of.range.1 c.requires.carrier c.in-Some.ensures c.in-Some-basis_of.ensures in
    ((omega arith), ((omega arith), ((omega arith), ((omega arith), ((omega arith), pairs)))))

pub index-requires : goal.index-requires
index-requires g c =
    let all = c.in-Some-matrices_in.induced.items in
    let count : c.in-Some-matrices_in.induced.len ≡ length all = omega (arith, c.in-Some-matrices_in.induced.ok.0) in
    let total : length all ≡ c.args.carrier.dimension + 1 = let e = c.in-Some-matrices_in.ensures.count in omega (arith, e, count) in
    let last = c.dimension-last.ensures.dimension in
    let few : c.args.carrier.dimension ≤ 255 = omega (arith, last) in
    let pairs = included_of g.row.P c.args.input.now c.args.carrier c.in-Some.domain.0 c.in-Some-basis_of.range.0 c.in-Some.domain.1 c.in-Some-basis_of.range.1 c.requires.carrier c.in-Some.ensures c.in-Some-basis_of.ensures c.requires.included in
    let made = sized g.row.P c.args.input.now c.args.carrier c.in-Some.domain.0 c.in-Some-basis_of.range.0 c.in-Some.domain.1 c.in-Some-basis_of.range.1 c.requires.carrier c.in-Some.ensures c.in-Some-basis_of.ensures
    c.dimension-cycles.ensures.basis c.dimension-range_cycles.ensures.basis all total few (λ k l. c.in-Some-matrices_in.ensures.matrices k (omega (arith, l, count))) in
    let sizes = subst (λ (ms : List Table). AreSized c.in-Some.domain.1 c.in-Some-basis_of.range.1 ms) (sym c.deref.ensures.value) made in
    ((omega arith), ((omega arith), ((omega arith), ((omega arith), ((omega arith), (pairs, sizes))))))
