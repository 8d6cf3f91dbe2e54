use Rattle.cell_complex.specs.Numbering.{by_cell}
use Rattle.homology_basis.specs.Bases.{homotopy_in}
use Rattle.witness_parts.specs.Filed.{AreFiled}
use Rattle.witness_parts.proofs.pair.rows_of.Given as goal

abbrev pub invariant-loop-generator : goal.invariant-loop-generator
invariant-loop-generator g l = AreFiled g.row.P l.all l.generator (λ s. by_cell l.cells (homotopy_in g.row.P l.basis s)) l.rows.items
