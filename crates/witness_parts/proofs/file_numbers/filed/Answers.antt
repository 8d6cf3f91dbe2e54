use Rattle.std.proofs.Common.{arith, sym, subst, List, ℕ}
use Rattle.field_mod.proofs.Table.{two_le}
use Rattle.chains.specs.Terms.{coefficient}
use Rattle.cell_complex.specs.Numbering.{by_cell}
use Rattle.witness_parts.specs.Filed.{IsFiled}
use Rattle.witness_parts.proofs.Filing.{exact_none, filed as filed_is}
use Rattle.witness_parts.proofs.file_numbers.filed.Goals as goal

pub renumbered-requires : goal.renumbered-requires
renumbered-requires g c = (
  (omega arith),
  ((omega arith), exact_none g.row.P _ c.args.chain.now (two_le g.row.P c.args.field.listed) c.len-terms.ensures.normal c.requires.within),
)

pub returns : goal.returns
returns g c =
    subst (λ (ts : List (ℕ × ℕ)). IsFiled g.row.P c.args.all.now (by_cell c.args.cells.now (coefficient c.args.chain.now)) ts) (sym c.in_ok-shifted.ensures)
    (filed_is g.row.P c.args.cells.now c.args.all.now c.args.chain.now c.in_ok-other.other (omega (arith, two_le g.row.P c.args.field.listed)) c.in_ok-other.ensures
    c.len-count.ensures.sorted.sorted c.requires.inside)
