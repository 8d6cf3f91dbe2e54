use Rattle.std.proofs.Common.{ℕ, arith, ap}
use Rattle.field_mod.proofs.Table.{two_le}
use Rattle.chains.specs.Terms.{coefficient}
use Rattle.algebraic_reduction.proofs.Singles.{on_left}
use Rattle.homology_basis.proofs.Beginning.{one_term, one_term_other, some_term, is_class}
use Rattle.homology_basis.proofs.class.Class.of.Goals as goal

pub include-requires : goal.include-requires
include-requires g c = ((omega arith), ((omega arith), ((omega arith), on_left g.row.P c.args.log.now.steps c.args.generator (coefficient c.in_ok-single.single) c.requires.left (one_term_other g.row.P c.args.generator c.in_ok-single.single c.in_ok-single.ensures.sum))))

pub term-first-requires : goal.term-first-requires
term-first-requires g c = (
  (omega arith),
  some_term g.row.P c.args.log.now.complex c.args.log.now.steps c.args.generator (two_le g.row.P c.args.field.listed) c.requires.reduction c.requires.left c.in_ok-single.single c.in_ok-included.included
      (one_term g.row.P c.args.generator c.in_ok-single.single c.in_ok-single.ensures.sum) c.in_ok-included.ensures,
)

pub returns-clause-class : goal.returns-clause-class
returns-clause-class g c =
    is_class g.row.P c.args.log.now.complex c.args.log.now.steps c.args.generator (two_le g.row.P c.args.field.listed) c.requires.reduction c.requires.left c.in_ok-single.single c.in_ok-included.included
    (one_term g.row.P c.args.generator c.in_ok-single.single c.in_ok-single.ensures.sum) c.in_ok-included.ensures
    c.args.wanted c.in_ok-cycle.cycle c.in_ok-cocycle.cocycle c.inv.result c.term-first.result.1
    c.requires.inside c.inv.ensures.value (ap (λ (t : ℕ × ℕ). t.1) c.term-first.ensures.value)
    c.len-terms.ensures.normal c.in_ok-cycle.ensures.normal c.in_ok-cocycle.ensures.normal c.in_ok-cycle.ensures.value c.in_ok-cocycle.ensures.inside c.in_ok-cocycle.ensures.past
