use Rattle.std.proofs.Common.{◌≡◌, ℕ, ◌+◌, List, sym, ap, ◌∙◌, arith, get_or, subst}
use Rattle.algebraic_reduction.specs.LogWords.{Reduced}
use Rattle.chains.specs.ChainComplex.{ChainComplex, IsComplex}
use Rattle.chain_files.specs.Complexes.{AreCountsBelow}
use Rattle.basis_reports.specs.ByDegree.{AreByDegree, numbers_from}
use Rattle.basis_reports.specs.Counting.{HasBases}
use Rattle.basis_reports.specs.Right.{IsRightFile}
use Rattle.basis_reports.proofs.RightBases.{file_names, right_file_basis}
use Rattle.basis_reports.proofs.RightPairs.{right_file}
use Rattle.basis_reports.proofs.Showing.{shown_whole, left_out}
use Rattle.basis_reports.proofs.files.file_homology.Goals as goal

pub cycles_by_degree-requires : goal.cycles_by_degree-requires
cycles_by_degree-requires g c =
    let file = c.args.file in
    let basis = c.in_ok-basis.basis in
    let same : basis.log.complex ≡ file.complex = ap (λ (log : Reduced). log.complex) c.in_ok-basis.ensures.log ∙ c.in_ok-log.ensures.complex ∙ c.in_ok-start.ensures.0 ∙ c.into_complex.ensures in
    let below : AreCountsBelow file.complex.degrees file.top c.of-numbers.result = subst (λ (counts : List ℕ). AreCountsBelow file.complex.degrees file.top counts) (sym c.of-numbers.ensures) c.in_ok-counts_below.ensures in
    λ k l j m. file_names g.row.P file basis c.of-numbers.result c.in_ok-basis.ensures.basis c.top-top.ensures.numbered same below k j (omega (arith, l, c.top-top.ensures.value)) m

pub returns-then-shown : goal.returns-then-shown
returns-then-shown g c =
    let file = c.args.file in
    let basis = c.in_ok-basis.basis in
    let counts = c.of-numbers.result in
    let same : basis.log.complex ≡ file.complex = ap (λ (log : Reduced). log.complex) c.in_ok-basis.ensures.log ∙ c.in_ok-log.ensures.complex ∙ c.in_ok-start.ensures.0 ∙ c.into_complex.ensures in
    let below : AreCountsBelow file.complex.degrees file.top counts = subst (λ (counts : List ℕ). AreCountsBelow file.complex.degrees file.top counts) (sym c.of-numbers.ensures) c.in_ok-counts_below.ensures in
    let are : AreByDegree (λ k. numbers_from (get_or counts k 0)) basis.cycles (file.top + 1) c.in_ok-dimensions.dimensions c.in_ok-dimensions.cycles =
    subst (λ (top : ℕ). AreByDegree (λ k. numbers_from (get_or counts k 0)) basis.cycles (top + 1) c.in_ok-dimensions.dimensions c.in_ok-dimensions.cycles) c.top-top.ensures.value c.in_ok-dimensions.ensures in
    λ content is_file. shown_whole c.args.shown (IsRightFile g.row.P content c.in_ok-dimensions.dimensions) c.in_ok-dimensions.cycles
    (right_file_basis g.row.P content file basis counts c.in_ok-dimensions.dimensions c.in_ok-dimensions.cycles c.args.field.listed c.in_ok-basis.ensures.basis is_file c.top-top.ensures.numbered same below are)

pub returns : goal.returns
returns g c =
    let p = g.row.P in
    let file = c.args.file in
    let counts = c.in_ok-dimensions-2.dimensions in
    let same : c.in_ok-log.log.complex ≡ file.complex = c.in_ok-log.ensures.complex ∙ c.in_ok-start.ensures.0 ∙ c.into_complex.ensures in
    let complex : IsComplex p file.complex = subst (λ (K : ChainComplex). IsComplex p K) same c.in_ok-dimensions-2.ensures.complex in
    let bases : HasBases p file.complex file.top counts =
    subst (λ (K : ChainComplex). HasBases p K file.top counts) same
    (subst (λ (top : ℕ). HasBases p c.in_ok-log.log.complex top counts) c.top-top.ensures.value c.in_ok-dimensions-2.ensures.bases) in
    λ content is_file. left_out c.args.shown (IsRightFile p content counts) c.of.result c.if-shown.false
    (right_file p content file c.args.field.listed is_file c.top-top.ensures.numbered complex counts bases)
