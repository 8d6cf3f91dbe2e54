-- What is written and the lines to come are all the lines.
use Rattle.std.proofs.Common.{◌≡◌, ◌++◌, drop}
use Rattle.report.specs.ReportText.{dimension_lines}
use Rattle.report.proofs.accepted_lines.put_dimensions.Given as goal

abbrev pub invariant-loop-degree : goal.invariant-loop-degree
invariant-loop-degree l = l.to.items ++ dimension_lines l.modulus l.degree (drop l.degree l.dimensions) ≡ l.fn.to.items ++ dimension_lines l.modulus 0 l.dimensions
