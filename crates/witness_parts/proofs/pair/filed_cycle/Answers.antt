use Rattle.std.proofs.Common.{arith, subst, List, ℕ, IfOk}
use Rattle.chains.specs.Terms.{coefficient}
use Rattle.cell_complex.specs.Numbering.{by_cell}
use Rattle.witness_parts.specs.Filed.{IsFiled}
use Rattle.witness_parts.proofs.Filing.{cycle_none}
use Rattle.witness_parts.proofs.pair.filed_cycle.Goals as goal

pub filed-requires : goal.filed-requires
filed-requires g c = (
  (omega arith),
  (
    (omega arith),
    (
      cycle_none g.row.P _ c.args.basis.now c.dimension-dimension.ensures.basis c.requires.complex c.args.degree c.args.number c.cycle.result.now c.requires.number c.cycle.ensures,
      (c.requires.inside, c.requires.few),
    ),
  ),
)

pub returns : goal.returns
returns g c =
    subst (λ (ts : List (ℕ × ℕ)). IfOk c.filed.result (IsFiled g.row.P c.args.all.now (by_cell c.args.cells.now (coefficient ts)))) c.cycle.ensures c.filed.ensures
