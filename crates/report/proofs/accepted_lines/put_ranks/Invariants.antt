-- What is written and the lines to come are all the lines.
use Rattle.std.proofs.Common.{◌≡◌, ◌++◌, drop}
use Rattle.report.specs.ReportText.{rank_lines}
use Rattle.report.proofs.accepted_lines.put_ranks.Given as goal

abbrev pub invariant-loop-degree : goal.invariant-loop-degree
invariant-loop-degree l = l.to.items ++ rank_lines l.degree (drop l.degree l.ranks) ≡ l.fn.to.items ++ rank_lines 0 l.ranks
