use Rattle.std.proofs.Common.{sym, ◌∙◌, arith}
use Rattle.cell_points.proofs.Ranks.{next_with, next_without}
use Rattle.cell_points.proofs.mask.rank_at.Goals as goal
use Rattle.cell_points.proofs.mask.rank_at.Goals.{then-has_bit+else-left-eq0, else-has_bit}

pub loop-rank-preserved : goal.loop-rank-preserved
loop-rank-preserved c = elim c.if-has_bit.branch [
  | then-has_bit+else-left-eq0 w ↦
      let n = next_with c.args.mask c.loop-rank.rank (sym c.has_bit.ensures ∙ w.if-has_bit.true) in
      let i = c.loop-rank.invariant in let l = w.left-is in let z = w.if-left-eq0.false in omega arith
  | else-has_bit w ↦
      let n = next_without c.args.mask c.loop-rank.rank (sym c.has_bit.ensures ∙ w.if-has_bit.false) in
      let i = c.loop-rank.invariant in let l = w.left-is in omega arith
]
