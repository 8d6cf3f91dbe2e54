use Rattle.std.specs.Prelude.{IfOk, IfErr}
use Rattle.section_reading.specs.Section.{HasSection, StopsSection}
use Rattle.witness_reading.specs.Kinds.{pair_table, pair_numbers, pair_wanted}
use Rattle.witness_reading.proofs.Tables.{all_three, if_told}
use Rattle.witness_reading.proofs.section.read_section.Goals as goal

pub returns-clause-ok : goal.returns-clause-ok
returns-clause-ok g c =
    all_three (λ t n w. IfOk c.section_over.result (λ r. HasSection g.row.P c.args.head.now c.args.top t n w c.args.bytes.now r.0.cycles.items r.0.cocycles.items r.0.homotopy.items r.1.now))
    c.in_ok-cells.cells.table.items c.in_ok-cells.cells.numbers.items c.in_ok-cells.cells.wanted.items
    (pair_table c.args.x.now.cells c.args.a.now.cells) (pair_numbers c.args.x.now.cells c.args.a.now.cells) (pair_wanted c.args.x.now.cells c.args.a.now.cells)
    c.in_ok-cells.ensures.table c.in_ok-cells.ensures.numbers c.in_ok-cells.ensures.wanted c.section_over.ensures.ok

pub returns-clause-err : goal.returns-clause-err
returns-clause-err g c =
    if_told c.section_over.result
    (StopsSection g.row.P c.args.head.now c.args.top (pair_table c.args.x.now.cells c.args.a.now.cells) (pair_numbers c.args.x.now.cells c.args.a.now.cells)
    (pair_wanted c.args.x.now.cells c.args.a.now.cells) c.args.bytes.now)
    (all_three (λ t n w. IfErr c.section_over.result (StopsSection g.row.P c.args.head.now c.args.top t n w c.args.bytes.now))
    c.in_ok-cells.cells.table.items c.in_ok-cells.cells.numbers.items c.in_ok-cells.cells.wanted.items
    (pair_table c.args.x.now.cells c.args.a.now.cells) (pair_numbers c.args.x.now.cells c.args.a.now.cells) (pair_wanted c.args.x.now.cells c.args.a.now.cells)
    c.in_ok-cells.ensures.table c.in_ok-cells.ensures.numbers c.in_ok-cells.ensures.wanted c.section_over.ensures.err)
