use Rattle.std.proofs.Common.{◌≡◌, ◌∙◌, ◌++◌, ℕ, List, ap, arith}
use Rattle.field_mod.proofs.Table.{is_field}
use Rattle.chains.specs.Terms.{coefficient}
use Rattle.cell_complex.proofs.Collecting.{partial_none, first_signs, partial_more, partial_same, if_told}
use Rattle.cell_complex.proofs.complex.add_facets.Goals as goal

pub loop-facet-init : goal.loop-facet-init
loop-facet-init g c =
    partial_none g.row.P c.args.cells.now c.args.cell.now c.into_iter-facet-iterator.result (c.clear.new.self.items ++ c.clear-2.new.self.items) (omega (arith, (is_field g.row.P c.args.field.listed).above_one))
    (c.into_iter-facet-iterator.ensures.into_iter_gives ∙ c.faces-facet-items.ensures)
    (ap (λ (ts : List (ℕ × ℕ)). ts ++ c.clear-2.new.self.items) c.clear.ensures.items ∙ c.clear-2.ensures.items)

pub push_end-requires : goal.push_end-requires
push_end-requires g c =
    ((omega arith), (first_signs g.row.P c.args.cells.now c.args.cell.now c.loop-facet.facet-iterator c.next.new.self c.in-Some.facet.0 c.in-Some.facet.1 (c.loop-facet.lower.items ++ c.loop-facet.upper.items) c.loop-facet.invariant c.in-Some.ensures.steps).0)

pub loop-facet-preserved : goal.loop-facet-preserved
loop-facet-preserved g c =
    partial_more g.row.P c.args.cells.now c.args.cell.now c.loop-facet.facet-iterator c.next.new.self c.in-Some.facet.0 c.in-Some.facet.1 (c.loop-facet.lower.items ++ c.loop-facet.upper.items) (c.push_end.new.lower.items ++ c.push_end.new.upper.items)
    c.loop-facet.invariant c.in-Some.ensures.steps c.in_ok-push_end.ensures

pub returns : goal.returns
returns g c =
    if_told c.add_turned.result
    (λ (turned : (h : ℕ) → coefficient c.add_turned.new.terms.items h ≡ coefficient (c.loop-facet.lower.items ++ c.deref.result.now) h).
    partial_same g.row.P c.args.cells.now c.args.cell.now (c.loop-facet.lower.items ++ c.loop-facet.upper.items) c.add_turned.new.terms.items c.loop-facet.facet-iterator
    c.in-None.ensures.steps.0 c.loop-facet.invariant
    (λ h. turned h ∙ ap (λ (ts : List (ℕ × ℕ)). coefficient (c.loop-facet.lower.items ++ ts) h) c.deref.ensures.value))
    c.add_turned.ensures
