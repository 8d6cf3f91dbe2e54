use Rattle.std.proofs.Common.{◌≡◌, ℕ, ◌+◌, sym, subst, ◌∙◌, length, ap, max, arith}
use Rattle.algebraic_reduction.specs.LogWords.{Reduced}
use Rattle.cell_complex.specs.Numbering.{IsRelativeComplex, cell_terms}
use Rattle.basis_reports.specs.ByDegree.{AreByDegree}
use Rattle.basis_reports.proofs.RightBases.{right_basis, cell_names}
use Rattle.pair_witness.proofs.Witnessing.{cycles_alone, without_cocycles}
use Rattle.pair_witness.proofs.bases.pair_basis.Goals as goal

pub cycles_by_degree-requires : goal.cycles_by_degree-requires
cycles_by_degree-requires g c =
    let basis = c.in_ok-basis.basis in
    λ k l j m. cell_names g.row.P (length c.args.prepared.cells) (cycles_alone basis) (without_cocycles g.row.P basis c.in_ok-basis.ensures.basis)
    (ap (λ (log : Reduced). length log.complex.boundaries) c.in_ok-basis.ensures.log ∙ c.requires.complex.complex.count) k j m

pub returns-clause-counts : goal.returns-clause-counts
returns-clause-counts g c =
    let r = c.requires in
    record { relative = (c.args.prepared.cells, r.complex.listing, c.len-count.ensures.count); growth = r.grown; collapse = r.left; none_free = r.none_free; once = r.sorted }

pub returns-clause-right : goal.returns-clause-right
returns-clause-right g c =
    let p = g.row.P in
    let pair = c.args.pair.now in
    let cells = c.args.prepared.cells in
    let basis = c.in_ok-basis.basis in
    let most : c.max-most.result ≡ max pair.x.dimension pair.y.dimension = omega (arith, c.max-most.ensures, c.dimension.ensures.dimension, c.dimension-2.ensures.dimension) in
    right_basis p (max pair.x.dimension pair.y.dimension) pair.x.cells pair.y.cells cells (cycles_alone basis) c.in_ok-dimensions.dimensions c.in_ok-dimensions.cycles c.args.field.listed
    (without_cocycles p basis c.in_ok-basis.ensures.basis)
    (subst (λ (l : Reduced). IsRelativeComplex p pair.x.cells pair.y.cells cells l.complex) (sym c.in_ok-basis.ensures.log) c.requires.complex)
    c.len-count.ensures.sorted
    (subst (λ (n : ℕ). AreByDegree (λ k. cell_terms cells) basis.cycles (n + 1) c.in_ok-dimensions.dimensions c.in_ok-dimensions.cycles) most c.in_ok-dimensions.ensures)

pub returns-clause-basis : goal.returns-clause-basis
returns-clause-basis g c =
    let p = g.row.P in
    let pair = c.args.pair.now in
    let cells = c.args.prepared.cells in
    let basis = c.in_ok-basis.basis in
    let most : c.max-most.result ≡ max pair.x.dimension pair.y.dimension = omega (arith, c.max-most.ensures, c.dimension.ensures.dimension, c.dimension-2.ensures.dimension) in
    record {
      relative = subst (λ (l : Reduced). IsRelativeComplex p pair.x.cells pair.y.cells cells l.complex) (sym c.in_ok-basis.ensures.log) c.requires.complex;
      sorted = c.len-count.ensures.sorted;
      basis = c.in_ok-basis.ensures.basis;
      named = subst (λ (n : ℕ). AreByDegree (λ k. cell_terms cells) basis.cycles (n + 1) c.in_ok-dimensions.dimensions c.in_ok-dimensions.cycles) most c.in_ok-dimensions.ensures;
    }
