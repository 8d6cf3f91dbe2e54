use Rattle.std.proofs.Common.{◌≡◌, ◌<◌, ◌≤◌, ◌-◌, ◌∙◌, sym, arith, get_or, length}
use Rattle.std.specs.declared.cmp.Ordering.TheVariants.{Less}
use Rattle.packed_words.specs.Words.{key_cmp, no_key}
use Rattle.packed_words.proofs.Placed.{place_here, key_between, key_read}
use Rattle.packed_words.proofs.words.place_from.Goals.{then-below-via-then-below, then-below-via-else-below+then-place-eq0}
use Rattle.packed_words.proofs.words.place_from.Goals as goal

pub returns-in-Equal-clause-place : goal.returns-in-Equal-clause-place
returns-in-Equal-clause-place c =
    sym (place_here c.args.keys.now c.args.key.now c.few.place c.requires (omega (arith, c.few-test.true, c.min-end.ensures))
    (key_read c.args.keys.now c.args.key.now c.few.place c.index-keys-place.result c.index-keys-place.is (omega (arith, c.few-test.true, c.min-end.ensures)) ∙ sym c.cmp.ensures ∙ c.in-Equal.is))

pub returns-then-below-clause-place : goal.returns-then-below-clause-place
returns-then-below-clause-place c =
    let l : c.few.place < length c.args.keys.now = omega (arith, c.few-test.true, c.min-end.ensures) in
    let low : 1 ≤ c.few.place → key_cmp (get_or c.args.keys.now (c.few.place - 1) no_key) c.args.key.now ≡ Less = λ h. elim c.then-below.branch [
      | then-below-via-then-below w ↦ (c.few.invariant w.if-below.true).1
      | then-below-via-else-below+then-place-eq0 w ↦ absurd (omega arith)
    ] in
    sym (key_between c.args.keys.now c.args.key.now c.few.place c.requires l
    (key_read c.args.keys.now c.args.key.now c.few.place c.index-keys-place.result c.index-keys-place.is l ∙ sym c.cmp.ensures ∙ c.in-Greater.is) low)
