use Rattle.std.proofs.Common.{ℕ, List, arith, subst, IfOk}
use Rattle.chains.specs.Terms.{coefficient}
use Rattle.cell_complex.specs.Numbering.{by_cell}
use Rattle.witness_parts.specs.Filed.{IsFiled}
use Rattle.map_parts.proofs.Contracting.{homotopy_none}
use Rattle.map_parts.proofs.values.filed_row.Goals as goal

pub filed-requires : goal.filed-requires
filed-requires g c = (
  (omega arith),
  (
    (omega arith),
    (
      homotopy_none g.row.P c.args.value.now c.args.contraction.now c.args.place c.homotopy.result.now c.requires.contracted c.requires.place c.homotopy.ensures,
      (c.requires.inside, c.requires.few),
    ),
  ),
)

pub returns : goal.returns
returns g c =
    subst (λ (ts : List (ℕ × ℕ)). IfOk c.filed.result (IsFiled g.row.P c.args.all.now (by_cell c.args.value.now (coefficient ts)))) c.homotopy.ensures c.filed.ensures
