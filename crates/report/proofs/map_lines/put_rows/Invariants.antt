use Rattle.std.proofs.Common.{◌≡◌, ◌++◌, take, map}
use Rattle.std.specs.List.{flat_map}
use Rattle.report.specs.ReportText.{row_line}
use Rattle.report.proofs.map_lines.put_rows.Given as goal

abbrev pub invariant-loop-row : goal.invariant-loop-row
invariant-loop-row l = l.to.items ≡ l.fn.to.items ++ flat_map row_line (map (λ row. row.items) (take l.row-index l.rows))
