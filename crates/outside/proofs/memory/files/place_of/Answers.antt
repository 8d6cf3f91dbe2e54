-- What is left to show of `place_of`.
use Rattle.std.proofs.Common.{◌∙◌, sym, ap, string_bytes}
use Rattle.std.specs.Str.{bytes_eq}
use Rattle.outside.proofs.Held.{held_here, named_here, left_further, none_further}
use Rattle.outside.proofs.memory.files.place_of.Goals as goal

pub returns-then-eq-clause-found : goal.returns-then-eq-clause-found
returns-then-eq-clause-found c = held_here string_bytes (λ b. b.items) c.args.files.now c.loop-i.i c.index-files-i.result c.args.name.now
    c.loop-i.invariant.left c.loop-i-test.true c.index-files-i.is
    (ap (λ t. bytes_eq (string_bytes t.0) c.args.name.now) c.index-files-i.is ∙ ap (λ t. bytes_eq t c.args.name.now) (sym c.as_str.ensures.value) ∙ sym c.eq.ensures ∙ c.if-eq.true)

pub returns-then-eq-clause-first : goal.returns-then-eq-clause-first
returns-then-eq-clause-first c = (
  c.loop-i.invariant.none,
  named_here string_bytes c.args.files.now c.loop-i.i c.index-files-i.result c.args.name.now
      c.loop-i-test.true c.index-files-i.is
      (ap (λ t. bytes_eq (string_bytes t.0) c.args.name.now) c.index-files-i.is ∙ ap (λ t. bytes_eq t c.args.name.now) (sym c.as_str.ensures.value) ∙ sym c.eq.ensures ∙ c.if-eq.true),
)

pub loop-i-preserved : goal.loop-i-preserved
loop-i-preserved c =
    let other = ap (λ t. bytes_eq (string_bytes t.0) c.args.name.now) c.index-files-i.is ∙ ap (λ t. bytes_eq t c.args.name.now) (sym c.as_str.ensures.value) ∙ sym c.eq.ensures ∙ c.if-eq.false in
    record {
      left = left_further string_bytes (λ b. b.items) c.args.files.now c.loop-i.i c.index-files-i.result c.args.name.now
          c.loop-i-test.true c.index-files-i.is other ∙ c.loop-i.invariant.left;
      none = none_further string_bytes (λ b. b.items) c.args.files.now c.loop-i.i c.index-files-i.result c.args.name.now
          c.loop-i.invariant.none c.loop-i-test.true c.index-files-i.is other;
    }
