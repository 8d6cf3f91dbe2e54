use Rattle.std.proofs.Common.{sym, subst, ◌∙◌, length, ap}
use Rattle.algebraic_reduction.specs.LogWords.{Reduced}
use Rattle.cell_complex.specs.Numbering.{IsRelativeComplex}
use Rattle.basis_reports.specs.Right.{IsRightPair}
use Rattle.basis_reports.proofs.RightBases.{right_basis, cell_names}
use Rattle.basis_reports.proofs.RightPairs.{right_pair}
use Rattle.basis_reports.proofs.Showing.{shown_whole, left_out}
use Rattle.basis_reports.proofs.pairs.pair_homology.Goals as goal

pub cycles_by_degree-requires : goal.cycles_by_degree-requires
cycles_by_degree-requires g c =
    let basis = c.in_ok-basis.basis in
    λ k l j m. cell_names g.row.P (length c.in_ok-cells.field-0.cells) basis c.in_ok-basis.ensures.basis
    (ap (λ (log : Reduced). length log.complex.boundaries) c.in_ok-basis.ensures.log ∙ c.in_ok-cells.ensures.complex.complex.count) k j m

pub returns-then-shown-clause-right : goal.returns-then-shown-clause-right
returns-then-shown-clause-right g c =
    let p = g.row.P in
    let x = c.args.x.now.cells in
    let a = c.args.a.now.cells in
    let cells = c.in_ok-cells.field-0.cells in
    shown_whole c.args.shown (IsRightPair p c.args.most x a c.in_ok-dimensions.dimensions) c.in_ok-dimensions.cycles
    (right_basis p c.args.most x a cells c.in_ok-basis.basis c.in_ok-dimensions.dimensions c.in_ok-dimensions.cycles c.args.field.listed c.in_ok-basis.ensures.basis
    (subst (λ (l : Reduced). IsRelativeComplex p x a cells l.complex) (sym c.in_ok-basis.ensures.log) c.in_ok-cells.ensures.complex) c.len-count.ensures.sorted c.in_ok-dimensions.ensures)

pub returns-clause-right : goal.returns-clause-right
returns-clause-right g c =
    let p = g.row.P in
    let x = c.args.x.now.cells in
    let a = c.args.a.now.cells in
    let cells = c.in_ok-cells.field-0.cells in
    left_out c.args.shown (IsRightPair p c.args.most x a c.in_ok-dimensions-2.dimensions) c.of-cycles.result c.if-shown.false
    (right_pair p x a cells c.in_ok-cells.field-0.log.complex c.args.field.listed c.in_ok-cells.ensures.complex c.len-count.ensures.sorted c.args.most
    c.in_ok-dimensions-2.dimensions c.in_ok-dimensions-2.ensures.bases)

pub returns-then-shown-clause-counts : goal.returns-then-shown-clause-counts
returns-then-shown-clause-counts g c =
    let r = c.in_ok-cells.ensures in
    record { relative = (c.in_ok-cells.field-0.cells, r.complex.listing, c.len-count.ensures.count); growth = r.grown; collapse = r.left; none_free = r.none_free; once = r.sorted }

pub returns-clause-counts : goal.returns-clause-counts
returns-clause-counts g c =
    let r = c.in_ok-cells.ensures in
    record { relative = (c.in_ok-cells.field-0.cells, r.complex.listing, c.len-count.ensures.count); growth = r.grown; collapse = r.left; none_free = r.none_free; once = r.sorted }
