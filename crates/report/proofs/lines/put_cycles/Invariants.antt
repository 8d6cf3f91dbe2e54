-- What is written and the lines to come are all the lines.
use Rattle.std.proofs.Common.{◌≡◌, ◌+◌, ◌++◌, drop}
use Rattle.report.specs.ReportText.{cycle_lines, cycle_lines_from}
use Rattle.report.proofs.lines.put_cycles.Given as goal

abbrev pub invariant-loop-place : goal.invariant-loop-place
invariant-loop-place g l = l.to.items ++ cycle_lines_from g.G.Generator.text l.degree (l.place + 1) (drop l.place l.cycles) ≡ l.fn.to.items ++ cycle_lines g.G.Generator.text l.degree l.cycles
