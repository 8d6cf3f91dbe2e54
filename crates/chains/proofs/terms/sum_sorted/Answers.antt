use Rattle.std.proofs.Common.{ℕ, ◌<◌, ◌^◌, get_or, arith, refl, mod-lt, ap, ◌∙◌}
use Rattle.field_mod.proofs.Table.{two_le}
use Rattle.chains.proofs.Summing.{sum_start, sum_more, sum_next, sum_end}
use Rattle.chains.proofs.terms.sum_sorted.Goals as goal
use Rattle.chains.proofs.terms.sum_sorted.Goals.{then-next-generator+in_ok-push_term, else-next-generator}

pub loop-next-init : goal.loop-next-init
loop-next-init g c = sum_start _ _ _ _ _ (omega (arith, two_le g.row.P c.args.field.listed)) refl refl c.new-sums.ensures.items

pub add-number-requires : goal.add-number-requires
add-number-requires g c =
    let two = two_le g.row.P c.args.field.listed in (
      (omega arith),
      (
        (elim c.if-next-generator.branch [
          | then-next-generator+in_ok-push_term w ↦ omega (arith, w.number-is)
          | else-next-generator w ↦ omega (arith, w.number-is, c.loop-next.invariant.below)
        ]),
        mod-lt _ (omega arith),
      ),
    )

pub loop-next-preserved : goal.loop-next-preserved
loop-next-preserved g c =
    let t : ℕ × ℕ = get_or c.args.terms.now c.loop-next.next-index (0, 0) in
    elim c.if-next-generator.branch [
      | then-next-generator+in_ok-push_term w ↦
          let short : t.0 < 2 ^ 32 = omega arith in
          rw w.generator-is (sum_next _ _ _ _ _ _ _ _ c.loop-next.invariant c.loop-next-test.true w.if-next-generator.true short c.requires (ap (λ v. v.items) w.sums-is ∙ w.in_ok-push_term.ensures) (rw w.number-is at c.add-number.ensures.value) c.add-number.ensures.below)
      | else-next-generator w ↦
          rw (w.generator-is, w.sums-is) (sum_more _ _ _ _ _ _ _ c.loop-next.invariant c.loop-next-test.true w.if-next-generator.false (rw w.number-is at c.add-number.ensures.value) c.add-number.ensures.below)
    ]

pub returns-clause-normal : goal.returns-clause-normal
returns-clause-normal g c = (sum_end _ _ _ _ _ _ _ (omega (arith, two_le g.row.P c.args.field.listed)) c.loop-next.invariant c.loop-next-test.false c.in_ok-push_term-2.ensures).0

pub returns-clause-sum : goal.returns-clause-sum
returns-clause-sum g c = (sum_end _ _ _ _ _ _ _ (omega (arith, two_le g.row.P c.args.field.listed)) c.loop-next.invariant c.loop-next-test.false c.in_ok-push_term-2.ensures).1
