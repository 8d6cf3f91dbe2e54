-- What is written and the lines to come are all the lines.
use Rattle.std.proofs.Common.{◌≡◌, ◌++◌, drop}
use Rattle.report.specs.ReportText.{map_lines_from}
use Rattle.report.proofs.map_lines.put_ranks.Given as goal

abbrev pub invariant-loop-degree : goal.invariant-loop-degree
invariant-loop-degree l = l.to.items ++ map_lines_from l.shown l.degree (drop l.degree l.ranks) l.matrices ≡ l.fn.to.items ++ map_lines_from l.shown 0 l.ranks l.matrices
