use Rattle.std.proofs.Common.{◌≡◌, ℕ, List, ap, ◌∙◌, arith}
use Rattle.std.specs.Map.Iter.{deref_pair}
use Rattle.std.proofs.lemmas.Cmp.{nat_cmp_total}
use Rattle.std.proofs.lemmas.Map.Iter.{btree_map_turn}
use Rattle.chains.specs.Terms.{product}
use Rattle.field_mod.proofs.Modular.{same_by}
use Rattle.field_mod.proofs.Table.{two_le}
use Rattle.algebraic_reduction.proofs.Residues.{number_below}
use Rattle.algebraic_reduction.proofs.NumbersKept.{left_more, left_none}
use Rattle.algebraic_reduction.proofs.numbers.Numbers.product_by_places.Goals as goal

pub loop-place-init : goal.loop-place-init
loop-place-init g c = record {
  below = c.self.invariant.positive;
  value =
      let e : product c.into_iter-place-iterator.result c.args.chain.now ≡ product c.args.self.now c.args.chain.now = ap (λ (es : List (ℕ × ℕ)). product es c.args.chain.now) (c.into_iter-place-iterator.ensures.into_iter_gives.0 ∙ c.self.view_is) in
      same_by g.row.P 0 0 _ _ (omega arith);
}

pub mul-requires : goal.mul-requires
mul-requires g c = (
  (omega arith),
  (
    number_below g.row.P _ _ _ (two_le g.row.P c.args.field.listed) c.coefficient.ensures.normal c.coefficient.ensures.value,
    (c.self.invariant.numbers _ _ (btree_map_turn deref_pair c.loop-place.yielded c.into_iter-place-iterator.result c.loop-place.place-iterator c.next.new.self c.next.result (c.in-Some.place, c.in-Some.number) c.loop-place.yielded_by c.in-Some.is c.next.ensures.steps nat_cmp_total c.self.inside.kept c.into_iter-place-iterator.ensures.into_iter_gives.0 c.self.invariant.ordered).1).1,
  ),
)

pub add-sum-requires : goal.add-sum-requires
add-sum-requires g c = ((omega arith), (c.loop-place.invariant.below, c.mul.ensures.below))

pub loop-place-preserved : goal.loop-place-preserved
loop-place-preserved g c = record {
  below = c.add-sum.ensures.below;
  value = left_more g.row.P c.loop-place.sum c.add-sum.result c.mul.result c.coefficient.result c.loop-place.place-iterator c.next.new.self c.args.chain.now c.args.self.now _ c.in-Some.ensures.steps c.coefficient.ensures.value c.mul.ensures.value c.add-sum.ensures.value c.loop-place.invariant.value;
}

pub returns-clause-below : goal.returns-clause-below
returns-clause-below g c = c.loop-place.invariant.below

pub returns-clause-value : goal.returns-clause-value
returns-clause-value g c = left_none g.row.P c.loop-place.sum c.loop-place.place-iterator c.args.chain.now c.args.self.now c.in-None.ensures.steps.0 c.loop-place.invariant.value
