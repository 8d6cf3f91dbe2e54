use Rattle.std.proofs.Common.{◌∙◌, ℕ, subst, arith, List, length}
use Rattle.field_mod.proofs.Table.{two_le}
use Rattle.homology_basis.specs.Bases.{in_degree}
use Rattle.induced_map.specs.Images.{AreProducts}
use Rattle.induced_map.proofs.Making.{cells_of_range, count_of_cells, matrix_is, empty_matrix}
use Rattle.induced_map.proofs.inducing.matrix_of.Goals as goal

pub images_of-requires : goal.images_of-requires
images_of-requires g c = (
  (omega arith),
  (
    (omega arith),
    (
      (omega arith),
      (
        (omega arith),
        (
          cells_of_range g.row.P c.args.selector.now.carrying c.args.domain_cells.now c.args.domain.now c.args.range_cells.now c.args.range.now c.requires.pairs,
          count_of_cells g.row.P c.args.selector.now.carrying c.args.domain_cells.now c.args.domain.now c.args.range_cells.now c.args.range.now c.requires.pairs,
        ),
      ),
    ),
  ),
)

pub returns-then-rows-eq0-clause-matrix : goal.returns-then-rows-eq0-clause-matrix
returns-then-rows-eq0-clause-matrix g c =
    empty_matrix g.row.P c.args.selector.now.carrying c.dimension-dimension.ensures.selection.carrier (omega (arith, two_le g.row.P c.args.field.listed)) c.args.domain_cells.now c.args.domain.now c.args.range_cells.now c.args.range.now
    c.dimension-columns.ensures.basis c.dimension-rows.ensures.basis c.args.degree c.new-then-rows-eq0.result (omega (arith, c.if-rows-eq0.true, c.dimension-rows.ensures.dimension)) c.new-then-rows-eq0.ensures.rows (c.new-then-rows-eq0.ensures.columns ∙ c.dimension-columns.ensures.dimension)

pub returns-clause-matrix : goal.returns-clause-matrix
returns-clause-matrix g c =
    matrix_is g.row.P c.args.selector.now.carrying c.dimension-dimension.ensures.selection.carrier (omega (arith, two_le g.row.P c.args.field.listed)) c.args.domain_cells.now c.args.domain.now c.args.range_cells.now c.args.range.now
    c.dimension-columns.ensures.basis c.dimension-rows.ensures.basis c.args.degree c.in_ok-images.images.items c.in_ok-entries.entries.items c.new-2.result c.in_ok-images.ensures.images
    (subst (λ (chains : List (List (ℕ × ℕ))). AreProducts g.row.P (in_degree c.args.range.now.cocycles c.args.degree) chains (length (in_degree c.args.range.now.cycles c.args.degree)) c.in_ok-entries.entries.items) c.deref.ensures.value c.in_ok-entries.ensures.products)
    (c.new-2.ensures.rows ∙ c.dimension-rows.ensures.dimension) (c.new-2.ensures.columns ∙ c.dimension-columns.ensures.dimension) c.new-2.ensures.entries
