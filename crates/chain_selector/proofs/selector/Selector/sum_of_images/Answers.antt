use Rattle.std.proofs.Common.{◌∙◌, ◌%◌, ap, subst, arith}
use Rattle.chains.specs.Terms.{coefficient}
use Rattle.chains.proofs.Boundary.{products_none}
use Rattle.chain_selector.specs.Selections.{Selection, IsSelection}
use Rattle.chain_selector.proofs.Summing.{chains_of, image_is}
use Rattle.chain_selector.proofs.Pushed.{summed_more, summed_end}
use Rattle.chain_selector.proofs.Reading.{image_inside, term_inside, chain_inside, term_never_missing, term_chain}
use Rattle.chain_selector.proofs.selector.Selector.sum_of_images.Goals as goal

pub loop-place-init : goal.loop-place-init
loop-place-init g c = λ h. products_none g.row.P (chains_of c.args.self.now) c.args.chain.now _ h c.new-terms.ensures.items

pub index-requires : goal.index-requires
index-requires g c =
    let l = image_inside g.row.P c.args.self.now c.self.inside.images.items c.term-number.result.0 (subst (IsSelection g.row.P) c.self.view_is c.self.invariant) (ap (λ (v : Selection). v.images) c.self.view_is)
    (term_inside g.row.P c.args.self.now (subst (IsSelection g.row.P) c.self.view_is c.self.invariant) c.args.chain.now c.loop-place.place c.term-number.result.0 c.term-number.result.1 (omega (arith, c.loop-place-test.true, c.len-place-end.ensures.count)) c.term-number.ensures.value c.requires.domain) in
    omega (arith, l, c.self.inside.images.ok.0)

pub unreachable-requires : goal.unreachable-requires
unreachable-requires g c =
    term_never_missing g.row.P c.args.self.now (subst (IsSelection g.row.P) c.self.view_is c.self.invariant) c.args.chain.now c.loop-place.place c.term-number.result.0 c.term-number.result.1 (omega (arith, c.loop-place-test.true, c.len-place-end.ensures.count)) c.term-number.ensures.value c.requires.domain
    c.self.inside.images.items (ap (λ (v : Selection). v.images) c.self.view_is) c.index.result.now c.index.ensures c.in-None.is c.requires.kept

pub loop-place-preserved : goal.loop-place-preserved
loop-place-preserved g c =
    let at = term_chain g.row.P c.args.self.now (subst (IsSelection g.row.P) c.self.view_is c.self.invariant) c.args.chain.now c.loop-place.place c.term-number.result.0 c.term-number.result.1 (omega (arith, c.loop-place-test.true, c.len-place-end.ensures.count)) c.term-number.ensures.value c.requires.domain
    c.self.inside.images.items (ap (λ (v : Selection). v.images) c.self.view_is) c.index.result.now c.index.ensures c.in-Some.image c.in-Some.is in
    summed_more g.row.P (chains_of c.args.self.now) c.args.chain.now c.loop-place.place c.term-number.result c.in-Some.image c.loop-place.terms.items c.push_scaled.new.terms.items
    (omega (arith, c.loop-place-test.true, c.len-place-end.ensures.count)) c.term-number.ensures.value (chain_inside g.row.P c.args.self.now (subst (IsSelection g.row.P) c.self.view_is c.self.invariant) c.args.chain.now c.loop-place.place c.term-number.result.0 c.term-number.result.1 (omega (arith, c.loop-place-test.true, c.len-place-end.ensures.count)) c.term-number.ensures.value c.requires.domain) at c.loop-place.invariant c.in_ok-push_scaled-in-Some.ensures

pub returns : goal.returns
returns g c =
    image_is g.row.P c.args.self.now (subst (IsSelection g.row.P) c.self.view_is c.self.invariant) c.args.chain.now c.in_ok-sum.sum c.in_ok-sum.ensures.normal
    (summed_end g.row.P (chains_of c.args.self.now) c.args.chain.now c.loop-place.place c.loop-place.terms.items c.in_ok-sum.sum (omega (arith, c.loop-place-test.false, c.len-place-end.ensures.count)) c.loop-place.invariant
    (λ h. c.in_ok-sum.ensures.sum h ∙ ap (λ ts. coefficient ts h % g.row.P) c.deref.ensures.value))
