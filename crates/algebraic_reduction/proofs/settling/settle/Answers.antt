use Rattle.std.proofs.Common.{arith, ◌∙◌, sym, ℕ, ◌≡◌, ⊎_elim, length, subst}
use Rattle.std.specs.Ordering.{nat_cmp}
use Rattle.std.specs.BTreeSet.{contains}
use Rattle.field_mod.proofs.Modular.{same_trans}
use Rattle.field_mod.proofs.Table.{two_le}
use Rattle.chains.specs.Terms.{coefficient}
use Rattle.algebraic_reduction.specs.Maps.{rows}
use Rattle.algebraic_reduction.proofs.OneMore.{state_short}
use Rattle.algebraic_reduction.proofs.Triangular.{Settling, settled_all, settled_same}
use Rattle.algebraic_reduction.proofs.DueSteps.{settling_first, empty_has}
use Rattle.algebraic_reduction.proofs.MapResults.{triangular, settle_turn}
use Rattle.algebraic_reduction.proofs.settling.settle.Goals as goal

pub overflow_cast-count : goal.overflow_cast-count
overflow_cast-count g c = let l = state_short g.row.P _ _ _ c.requires.state in omega (arith, c.len-count.ensures, c.args.parts.now.steps.ok.0, l)

pub settling-init : goal.settling-init
settling-init g c =
    let p = c.args.parts.now in
    let eqs = rows p.steps.items in
    let n = length p.complex.boundaries in
    let e = c.in_ok-make_all_due.ensures in
    let count : eqs.count ≡ c.len-count.result = sym (c.len-count.ensures ∙ p.steps.ok.0) in
    subst (λ (k : ℕ). Settling g.row.P n eqs (coefficient c.args.start.now) (coefficient c.in_ok-values.values) (contains nat_cmp c.make_all_due.new.due) k) count
    (settling_first g.row.P n eqs (coefficient c.args.start.now) (coefficient c.in_ok-values.values) (contains nat_cmp c.make_all_due.new.due) c.in_ok-values.ensures (λ j h l. e.added j h (omega (arith, l, count))) (λ j h. ⊎_elim (λ a. absurd (empty_has c.new-due.result j c.new-due.ensures.empty a)) (λ l. omega (arith, l, count)) (e.below j h)))

pub settling-preserved : goal.settling-preserved
settling-preserved g c =
    let p = c.args.parts.now in
    let e = c.in_ok-settle_one.ensures in
    let o = c.in-Some.ensures in
    settle_turn g.row.P (two_le g.row.P c.args.field.listed) p.complex p.places.items p.steps.items c.requires.state c.in-Some.place c.settling.bound c.settling.values c.settle_one.new.values (coefficient c.args.start.now) (contains nat_cmp c.settling.due) (contains nat_cmp c.pop_due.new.due) (contains nat_cmp c.settle_one.new.due) e.normal c.requires.clean c.settling.invariant o.member o.kept o.below e.values e.kept e.below e.added

pub returns-clause-others : goal.returns-clause-others
returns-clause-others g c h f =
    let p = c.args.parts.now in
    same_trans (c.in_ok-settled.ensures h) (c.settling.invariant.others h (λ i l. f i l))

pub returns-clause-settled : goal.returns-clause-settled
returns-clause-settled g c i l =
    let p = c.args.parts.now in
    let eqs = rows p.steps.items in
    let n = length p.complex.boundaries in
    let tri = triangular g.row.P (two_le g.row.P c.args.field.listed) p.complex p.places.items p.steps.items c.requires.state in
    settled_same g.row.P n eqs tri (coefficient c.args.start.now) (coefficient c.settling.values) (coefficient c.in_ok-settled.settled) i c.in_ok-settled.ensures
    (settled_all g.row.P n eqs tri (coefficient c.args.start.now) (coefficient c.settling.values) (contains nat_cmp c.settling.due) c.settling.bound c.settling.invariant c.in_default.ensures.none i l)
