use Rattle.std.proofs.Common.{◌≡◌, ◌∙◌, ℕ, ◌%◌, List, arith, Result, Ok, Err, IfOk}
use Rattle.field_mod.proofs.Table.{is_field}
use Rattle.elem_cubes.specs.Cells.{Factor}
use Rattle.chains.specs.Terms.{coefficient, IsNormal}
use Rattle.cell_complex.specs.Boundaries.{IsBoundaryAmong}
use Rattle.cell_complex.proofs.Collecting.{partial_none, first_signs, partial_more, partial_all}
use Rattle.chain_selector.proofs.boundary.boundary_of.Goals as goal

-- what an Ok value meets, from two facts on it
if_both : {E : Type 0} (p : ℕ) (cells : List (List Factor)) (q : List Factor) (ts : List (ℕ × ℕ)) (r : Result (List (ℕ × ℕ)) E) → IfOk r (IsNormal p) → IfOk r (λ c. (g : ℕ) → coefficient c g ≡ coefficient ts g % p)
    → ((c : List (ℕ × ℕ)) → IsNormal p c → ((g : ℕ) → coefficient c g ≡ coefficient ts g % p) → IsBoundaryAmong p cells q c) → IfOk r (IsBoundaryAmong p cells q)
if_both p cells q ts (Ok c) normal sum both = both c normal sum
if_both p cells q ts (Err e) normal sum both = tt

pub loop-facet-init : goal.loop-facet-init
loop-facet-init g c =
    partial_none g.row.P c.args.cells.now c.args.cell.now c.into_iter-facet-iterator.result c.new-terms.result.items (omega (arith, (is_field g.row.P c.args.field.listed).above_one)) (c.into_iter-facet-iterator.ensures.into_iter_gives ∙ c.faces-facet-items.ensures) c.new-terms.ensures.items

pub push_facet-requires : goal.push_facet-requires
push_facet-requires g c = ((omega arith), (first_signs g.row.P c.args.cells.now c.args.cell.now c.loop-facet.facet-iterator c.next.new.self c.in-Some.facet.0 c.in-Some.facet.1 c.loop-facet.terms.items c.loop-facet.invariant c.in-Some.ensures.steps).0)

pub loop-facet-preserved : goal.loop-facet-preserved
loop-facet-preserved g c =
    partial_more g.row.P c.args.cells.now c.args.cell.now c.loop-facet.facet-iterator c.next.new.self c.in-Some.facet.0 c.in-Some.facet.1 c.loop-facet.terms.items c.push_facet.new.terms.items c.loop-facet.invariant c.in-Some.ensures.steps c.in_ok-push_facet.ensures

pub returns : goal.returns
returns g c =
    if_both g.row.P c.args.cells.now c.args.cell.now c.deref.result.now c.from_terms.result c.from_terms.ensures.normal c.from_terms.ensures.sum (λ d normal sum. partial_all g.row.P c.args.cells.now c.args.cell.now c.loop-facet.facet-iterator c.deref.result.now d (rw c.deref.ensures.value c.loop-facet.invariant) c.in-None.ensures.steps.0 normal sum)
