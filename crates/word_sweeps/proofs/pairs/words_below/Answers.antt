use Rattle.std.proofs.Common.{◌∙◌, arith}
use Rattle.std.proofs.lemmas.List.{length-set}
use Rattle.word_sweeps.proofs.FreeSlots.{below_more}
use Rattle.word_sweeps.proofs.pairs.words_below.Goals as goal

pub axes-preserved : goal.axes-preserved
axes-preserved c = record {
  long = length-set c.axes.below c.axes.axis c.word_below-word.result ∙ c.axes.invariant.long;
  known = below_more c.args.words.now c.args.corner.now c.axes.below c.axes.axis c.word_below-word.result (let l = c.axes.invariant.long in omega (arith, c.len-axis-end.ensures.few)) c.word_below-word.ensures c.axes.invariant.known;
}

pub returns : goal.returns
returns c = λ k l. c.axes.invariant.known k (omega arith)
