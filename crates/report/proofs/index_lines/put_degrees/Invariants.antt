-- What is written and the lines to come are all the lines.
use Rattle.std.proofs.Common.{◌≡◌, ◌++◌, drop}
use Rattle.report.specs.ReportText.{index_lines_from, reduced_of}
use Rattle.report.proofs.index_lines.put_degrees.Given as goal

abbrev pub invariant-loop-degree : goal.invariant-loop-degree
invariant-loop-degree l =
    l.to.items ++ index_lines_from l.shown l.degree (drop l.degree l.ranks) l.matrices (reduced_of l.leray)
    ≡ l.fn.to.items ++ index_lines_from l.shown 0 l.ranks l.matrices (reduced_of l.leray)
