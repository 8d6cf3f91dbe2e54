-- What is written and the lines to come are all the lines.
use Rattle.std.proofs.Common.{◌≡◌, ◌++◌, drop}
use Rattle.report.specs.ReportText.{group_lines, group_lines_from, shown_cycles}
use Rattle.report.proofs.lines.put_groups.Given as goal

abbrev pub invariant-loop-degree : goal.invariant-loop-degree
invariant-loop-degree g l = l.to.items ++ group_lines_from g.G.Generator.text l.shown.modulus l.degree (drop l.degree l.dimensions) (shown_cycles l.shown l.cycles) ≡ l.fn.to.items ++ group_lines g.G.Generator.text l.shown.modulus l.dimensions (shown_cycles l.shown l.cycles)
