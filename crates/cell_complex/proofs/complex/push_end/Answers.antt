use Rattle.cell_complex.proofs.Collecting.{if_told, added_left, added_right}
use Rattle.cell_complex.proofs.complex.push_end.Goals as goal

pub returns-then-is_lower : goal.returns-then-is_lower
returns-then-is_lower g c =
    if_told c.push_facet.result
    (added_left g.row.P c.args.cells.now c.args.facet.0 c.args.facet.1 c.args.lower.now.items c.push_facet.new.terms.items c.args.upper.now.items)
    c.push_facet.ensures

pub returns-else-is_lower : goal.returns-else-is_lower
returns-else-is_lower g c =
    if_told c.push_facet-else-is_lower.result
    (added_right g.row.P c.args.cells.now c.args.facet.0 c.args.facet.1 c.args.lower.now.items c.args.upper.now.items c.push_facet-else-is_lower.new.terms.items)
    c.push_facet-else-is_lower.ensures
