use Rattle.std.proofs.Common.{rules, ◌≡◌}
use Rattle.leray_conley.specs.Tables.{entry}
use Rattle.witness_lines.proofs.Growing.{entry_added}
use Rattle.witness_lines.proofs.parts.put_entries.Goals as goal

pub loop-column-preserved : goal.loop-column-preserved
loop-column-preserved g c =
    let e : c.from.result ≡ entry c.args.matrix.now c.args.row c.loop-column.column = search (rules, c.entry.ensures.value) in
    entry_added c.loop-column.column c.from.result (entry c.args.matrix.now c.args.row) _ _ _ e c.in_ok-put_number.ensures c.loop-column.invariant
