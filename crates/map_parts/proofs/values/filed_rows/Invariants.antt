use Rattle.cell_complex.specs.Numbering.{by_cell}
use Rattle.acyclic_values.specs.Contracted.{homotopy_in}
use Rattle.witness_parts.specs.Filed.{AreFiled}
use Rattle.map_parts.proofs.values.filed_rows.Given as goal

abbrev pub invariant-loop-place : goal.invariant-loop-place
invariant-loop-place g l = AreFiled g.row.P l.all l.place (λ m. by_cell l.value (homotopy_in l.contraction m)) l.rows.items
