use Rattle.std.proofs.Common.{◌∙◌, ℕ, subst, arith, List, length}
use Rattle.field_mod.proofs.Table.{two_le}
use Rattle.homology_basis.specs.Bases.{in_degree}
use Rattle.induced_map.specs.Images.{AreProducts}
use Rattle.index_map.proofs.Solving.{products_are}
use Rattle.index_map.proofs.matrices.inclusion_in.Goals as goal

pub returns : goal.returns
returns g c =
    products_are g.row.P c.args.degree c.args.domain_cells.now c.args.domain.now c.args.range_cells.now c.args.range.now c.dimension-columns.ensures.basis c.dimension-rows.ensures.basis (omega (arith, two_le g.row.P c.args.field.listed))
    c.in_ok-cycles.cycles.items c.in_ok-entries.entries.items c.new.result c.in_ok-cycles.ensures
    (subst (λ (chains : List (List (ℕ × ℕ))). AreProducts g.row.P (in_degree c.args.range.now.cocycles c.args.degree) chains (length (in_degree c.args.range.now.cycles c.args.degree)) c.in_ok-entries.entries.items) c.deref.ensures.value c.in_ok-entries.ensures.products)
    (c.new.ensures.rows ∙ c.dimension-rows.ensures.dimension) (c.new.ensures.columns ∙ c.dimension-columns.ensures.dimension) c.new.ensures.entries
