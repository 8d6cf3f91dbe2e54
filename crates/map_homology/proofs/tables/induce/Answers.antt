use Rattle.std.proofs.Common.{◌≡◌, ℕ, ◌+◌, ◌<◌, ◌≤◌, ◌∙◌, sym, subst, arith, List, length}
use Rattle.std.proofs.lemmas.Result.{err_from_is_err_and}
use Rattle.leray_conley.specs.Tables.{Table}
use Rattle.map_checks.specs.Carriers.{Carrying}
use Rattle.induced_map.specs.Matrices.{ArePairsOfMap, HaveFewEntries, IsMatrixOf, nth}
use Rattle.index_map.specs.Pairs.{AreSized}
use Rattle.map_homology.specs.Bases.{IsPrintedOf}
use Rattle.map_homology.proofs.Inducing.{pairs_of_map, included_pairs, sized}
use Rattle.map_homology.proofs.tables.induce.Goals as goal

pub matrices-requires : goal.matrices-requires
matrices-requires g c =
    let some = c.requires.bases in
    let same = sym c.in_ok-selector.ensures.carrier in
    let pairs = subst (λ (s : Carrying). ArePairsOfMap g.row.P s c.args.domain.now.cells c.args.cycles.now c.args.range.now.cells c.args.basis.now) same
    (pairs_of_map g.row.P some.map c.args.carrier c.args.domain.now c.args.cycles.now c.args.range.now c.args.basis.now c.args.field.listed some.bases.bases) in
    let few = subst (λ (s : Carrying). HaveFewEntries c.args.cycles.now c.args.basis.now s.dimension) same c.requires.few in
    ((omega arith), ((omega arith), ((omega arith), ((omega arith), ((omega arith), (pairs, few))))))

pub printed_on-requires : goal.printed_on-requires
printed_on-requires g c =
    let some = c.requires.bases in
    let all = c.in_ok-all.all.items in
    let carrying = c.in_ok-selector.ensures.carrier in
    let count : c.in_ok-all.all.len ≡ length all = omega (arith, c.in_ok-all.all.ok.0) in
    let last = c.dimension-last.ensures.dimension in
    let total : length all ≡ c.args.carrier.dimension + 1 = subst (λ (s : Carrying). length all ≡ s.dimension + 1) carrying (let e = c.in_ok-all.ensures.count in omega (arith, e, count)) in
    let matrices = subst (λ (s : Carrying). (k : ℕ) → k < length all → IsMatrixOf g.row.P s c.args.domain.now.cells c.args.cycles.now c.args.range.now.cells c.args.basis.now k (nth all k)) carrying
    (λ k l. c.in_ok-all.ensures.matrices k (omega (arith, l, count))) in
    let few : c.args.carrier.dimension ≤ 255 = omega (arith, last) in
    let made : AreSized c.args.cycles.now c.args.basis.now all = sized g.row.P some.map c.args.carrier c.args.domain.now c.args.cycles.now c.args.range.now c.args.basis.now c.args.field.listed some.bases.bases all total matrices few in
    let sizes : AreSized c.args.cycles.now c.args.basis.now c.deref.result.now = subst (λ (ms : List Table). AreSized c.args.cycles.now c.args.basis.now ms) (sym c.deref.ensures.value) made in (
      (omega arith),
      (
        (omega arith),
        (
          (omega arith),
          (
            (omega arith),
            (
              (λ on. included_pairs g.row.P some.map c.args.carrier c.args.domain.now c.args.cycles.now c.args.range.now c.args.basis.now c.args.field.listed some.bases.bases (some.bases.included on)),
              (λ on. sizes),
            ),
          ),
        ),
      ),
    )

pub returns-in_err-printed-clause-fault : goal.returns-in_err-printed-clause-fault
returns-in_err-printed-clause-fault g c =
    let p = err_from_is_err_and c.from_residual-in_err-printed.result c.from_residual-in_err-printed.ensures.1 in
    rw (p.1, p.2) c.in_err-printed.ensures.fault

pub returns-clause-matrices : goal.returns-clause-matrices
returns-clause-matrices g c =
    let all = c.in_ok-all.all.items in
    let carrying = c.in_ok-selector.ensures.carrier in
    let count : c.in_ok-all.all.len ≡ length all = omega (arith, c.in_ok-all.all.ok.0) in
    record {
      count = subst (λ (s : Carrying). length all ≡ s.dimension + 1) carrying (let e = c.in_ok-all.ensures.count in omega (arith, e, count));
      each = subst (λ (s : Carrying). (k : ℕ) → k < length all → IsMatrixOf g.row.P s c.args.domain.now.cells c.args.cycles.now c.args.range.now.cells c.args.basis.now k (nth all k)) carrying
          (λ k l. c.in_ok-all.ensures.matrices k (omega (arith, l, count)));
    }

pub returns-clause-carrying : goal.returns-clause-carrying
returns-clause-carrying g c = c.matrices.ensures.extends.carrying ∙ c.in_ok-selector.ensures.carrier

pub returns-clause-printed : goal.returns-clause-printed
returns-clause-printed g c =
    subst (λ (ms : List Table). IsPrintedOf g.row.P c.args.wanted c.args.domain.now.cells c.args.cycles.now c.args.range.now.cells c.args.basis.now ms c.in_ok-printed.printed.index c.in_ok-printed.printed.ranks c.in_ok-printed.printed.tables.items)
    c.deref.ensures.value c.in_ok-printed.ensures.printed
