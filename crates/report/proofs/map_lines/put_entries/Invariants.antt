use Rattle.std.proofs.Common.{◌≡◌, ◌++◌, take}
use Rattle.std.specs.List.{flat_map}
use Rattle.report.specs.ReportText.{entry_text}
use Rattle.report.proofs.map_lines.put_entries.Given as goal

abbrev pub invariant-loop-entry : goal.invariant-loop-entry
invariant-loop-entry l = l.to.items ≡ l.fn.to.items ++ flat_map entry_text (take l.entry-index l.row)
