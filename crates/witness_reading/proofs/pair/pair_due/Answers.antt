use Rattle.std.proofs.Common.{ℕ, subst}
use Rattle.std.specs.Prelude.{codes}
use Rattle.section_reading.specs.Section.{HasSection, StopsSection}
use Rattle.witness_reading.specs.Kinds.{pair_table, pair_numbers, pair_wanted}
use Rattle.witness_reading.specs.Ends.{IfTold}
use Rattle.witness_reading.specs.Pairs.{pair_given}
use Rattle.witness_reading.proofs.Ending.{section_stops, end_stops}
use Rattle.witness_reading.proofs.pair.pair_due.Goals as goal

pub returns-in-Ok-end_due-clause-ok : goal.returns-in-Ok-end_due-clause-ok
returns-in-Ok-end_due-clause-ok g c = record {
  rest = c.in-Ok.rest.now;
  section = subst (λ (t : ℕ). HasSection g.row.P (codes "pair domain\n") t (pair_table c.args.x.now.cells c.args.a.now.cells) (pair_numbers c.args.x.now.cells c.args.a.now.cells)
      (pair_wanted c.args.x.now.cells c.args.a.now.cells) c.args.bytes.now
      c.in-Ok.part.cycles.items c.in-Ok.part.cocycles.items c.in-Ok.part.homotopy.items c.in-Ok.rest.now) c.known.ensures.top c.in-Ok.ensures.ok;
  over = c.in-Ok-end_due.ensures.ok;
}

pub returns-in-Err-end_due-clause-err : goal.returns-in-Err-end_due-clause-err
returns-in-Err-end_due-clause-err g c =
    end_stops g.row.P (pair_given c.args.x.now c.args.a.now) c.args.bytes.now c.in-Err-end_due.end c.in-Ok.part.cycles.items c.in-Ok.part.cocycles.items
    c.in-Ok.part.homotopy.items c.in-Ok.rest.now
    (subst (λ (t : ℕ). HasSection g.row.P (codes "pair domain\n") t (pair_table c.args.x.now.cells c.args.a.now.cells) (pair_numbers c.args.x.now.cells c.args.a.now.cells)
    (pair_wanted c.args.x.now.cells c.args.a.now.cells) c.args.bytes.now
    c.in-Ok.part.cycles.items c.in-Ok.part.cocycles.items c.in-Ok.part.homotopy.items c.in-Ok.rest.now) c.known.ensures.top c.in-Ok.ensures.ok)
    c.in-Err-end_due.ensures.err

pub returns-in-Err-clause-err : goal.returns-in-Err-clause-err
returns-in-Err-clause-err g c =
    section_stops g.row.P (pair_given c.args.x.now c.args.a.now) c.args.bytes.now c.in-Err.stop
    (subst (λ (t : ℕ). IfTold (StopsSection g.row.P (codes "pair domain\n") t (pair_table c.args.x.now.cells c.args.a.now.cells) (pair_numbers c.args.x.now.cells c.args.a.now.cells)
    (pair_wanted c.args.x.now.cells c.args.a.now.cells) c.args.bytes.now) c.in-Err.stop)
    c.known.ensures.top c.in-Err.ensures.err)
