use Rattle.std.proofs.Common.{arith, ap, sym, ◌∙◌, length}
use Rattle.field_mod.proofs.Table.{two_le}
use Rattle.chains.specs.ChainComplex.{ChainComplex}
use Rattle.algebraic_reduction.proofs.Going.{goes_trans, empty_more, empty_all}
use Rattle.algebraic_reduction.proofs.reducing.reduce_parts.Goals as goal

pub loop-b-init : goal.loop-b-init
loop-b-init g c =
    let e = c.in_ok-reduce_by_plan.ensures in
    record {
      state = e.state;
      goes = e.goes;
      count = c.len-count.ensures.count;
      empty = λ h l. absurd (omega arith);
    }

pub finish-requires : goal.finish-requires
finish-requires g c = ((omega arith), ((omega arith), ((omega (arith, c.loop-b-test.true, c.loop-b.invariant.count)), c.loop-b.invariant.state)))

pub loop-b-preserved : goal.loop-b-preserved
loop-b-preserved g c =
    let e = c.in_ok-finish.ensures in
    let i = c.loop-b.invariant in
    record {
      state = e.state;
      goes = goes_trans _ _ _ _ _ _ i.goes e.goes;
      count = i.count ∙ ap (λ (K : ChainComplex). length K.boundaries) (sym e.goes.complex);
      empty = empty_more g.row.P c.loop-b.b _ _ _ _ i.empty e.goes e.empty;
    }

pub returns-clause-empty : goal.returns-clause-empty
returns-clause-empty g c = let i = c.loop-b.invariant in empty_all g.row.P c.len-count.result _ _ _ (two_le g.row.P c.args.field.listed) i.state i.count (λ h l. i.empty h (omega (arith, l, c.loop-b-test.false)))
