use Rattle.std.proofs.Common.{◌∙◌, ap, arith}
use Rattle.std.proofs.lemmas.List.{get_or_default}
use Rattle.field_mod.proofs.Table.{two_le}
use Rattle.leray_conley.specs.Tables.{Table}
use Rattle.induced_map.specs.Matrices.{none}
use Rattle.index_map.proofs.Solving.{solutions_more, invertible_everywhere}
use Rattle.index_map.proofs.matrices.index.Goals as goal

pub loop-degree-preserved : goal.loop-degree-preserved
loop-degree-preserved g c =
    let at = c.index-induced-degree.is ∙ get_or_default c.args.induced.now c.loop-degree.degree c.index-induced-degree.result none c.loop-degree-test.true in
    solutions_more g.row.P c.args.domain_cells.now c.args.domain.now c.args.range_cells.now c.args.range.now c.args.induced.now c.loop-degree.degree c.loop-degree.all.items c.push.new.self.items
    c.in_ok-inverse.inverse c.in_ok-times.field-0 c.index-induced-degree.result c.dimension-cycles.ensures.basis c.dimension-range_cycles.ensures.basis (omega (arith, two_le g.row.P c.args.field.listed))
    c.loop-degree.invariant c.in_ok-push.ensures.items at c.in_ok-inverse.ensures.inverse
    (ap (λ (t : Table). t.columns) at ∙ c.requires.sizes.columns c.loop-degree.degree c.loop-degree-test.true) c.in_ok-times.ensures

pub returns-clause-solves : goal.returns-clause-solves
returns-clause-solves g c = λ x a y b h k l. c.loop-degree.invariant.solves x a y b h k (omega (arith, l, c.loop-degree.invariant.count))

pub returns-clause-invertible : goal.returns-clause-invertible
returns-clause-invertible g c =
    invertible_everywhere g.row.P c.args.domain_cells.now c.args.domain.now c.args.range_cells.now c.args.range.now c.args.induced.now c.loop-degree.degree c.loop-degree.all.items
    c.dimension-cycles.ensures.basis c.dimension-range_cycles.ensures.basis (omega (arith, two_le g.row.P c.args.field.listed)) c.requires.sizes c.loop-degree.invariant c.loop-degree-test.false
