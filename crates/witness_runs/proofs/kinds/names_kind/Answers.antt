use Rattle.std.proofs.Common.{sym, ◌∙◌}
use Rattle.std.proofs.lemmas.Bool.{false≢true}
use Rattle.witness_runs.proofs.Naming.{names_more, names_get}
use Rattle.witness_runs.proofs.kinds.names_kind.Goals as goal

pub returns-then-not-is_of_kind : goal.returns-then-not-is_of_kind
returns-then-not-is_of_kind c = (
  λ q. absurd (false≢true q),
  λ h. sym c.if-not-is_of_kind.true ∙ c.is_of_kind.ensures.1 (names_get c.args.kinds.now c.args.wanted c.args.terms.now c.loop-term.term-index (0, 0) c.loop-term-test.true h),
)

pub loop-term-preserved : goal.loop-term-preserved
loop-term-preserved c =
    names_more c.args.kinds.now c.args.wanted c.args.terms.now c.loop-term.term-index (0, 0) c.loop-term-test.true c.loop-term.invariant (c.is_of_kind.ensures.0 c.if-not-is_of_kind.false)
