use Rattle.chain_selector.proofs.Settling.{extends_on}
use Rattle.induced_map.proofs.Making.{matrices_more}
use Rattle.induced_map.proofs.inducing.matrices.Goals as goal

pub returns-in_err-matrix-clause-extends : goal.returns-in_err-matrix-clause-extends
returns-in_err-matrix-clause-extends g c = extends_on c.args.selector.now c.loop-degree.selector c.matrix_of.new.selector c.loop-degree.invariant.extends c.matrix_of.ensures.extends

pub returns-in_err-push-clause-extends : goal.returns-in_err-push-clause-extends
returns-in_err-push-clause-extends g c = extends_on c.args.selector.now c.loop-degree.selector c.matrix_of.new.selector c.loop-degree.invariant.extends c.matrix_of.ensures.extends

pub loop-degree-preserved : goal.loop-degree-preserved
loop-degree-preserved g c = record {
  extends = extends_on c.args.selector.now c.loop-degree.selector c.matrix_of.new.selector c.loop-degree.invariant.extends c.matrix_of.ensures.extends;
  matrices = matrices_more g.row.P c.args.selector.now.carrying c.loop-degree.selector.carrying c.args.domain_cells.now c.args.domain.now c.args.range_cells.now c.args.range.now c.loop-degree.degree
      c.loop-degree.all.items c.push.new.self.items c.in_ok-matrix.matrix c.loop-degree.invariant.extends.carrying c.loop-degree.invariant.matrices c.in_ok-push.ensures.items c.in_ok-matrix.ensures.matrix;
}
