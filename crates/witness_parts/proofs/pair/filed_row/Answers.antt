use Rattle.std.proofs.Common.{arith}
use Rattle.chains.specs.Terms.{coefficient}
use Rattle.cell_complex.specs.Numbering.{by_cell}
use Rattle.homology_basis.specs.Bases.{homotopy_in}
use Rattle.witness_parts.proofs.Filing.{row_none, by_cell_same, filed_same}
use Rattle.witness_parts.proofs.pair.filed_row.Goals as goal

pub filed-requires : goal.filed-requires
filed-requires g c = (
  (omega arith),
  (
    (omega arith),
    (
      row_none g.row.P _ c.args.basis.now c.dimension-dimension.ensures.basis c.requires.complex c.args.generator c.in_ok-row.row c.requires.number c.in_ok-row.ensures,
      (c.requires.inside, c.requires.few),
    ),
  ),
)

pub returns : goal.returns
returns g c =
    filed_same g.row.P c.args.all.now (by_cell c.args.cells.now (coefficient c.in_ok-row.row)) (by_cell c.args.cells.now (homotopy_in g.row.P c.args.basis.now c.args.generator)) c.in_ok-chain.chain
    (by_cell_same g.row.P c.args.cells.now (coefficient c.in_ok-row.row) (homotopy_in g.row.P c.args.basis.now c.args.generator) c.in_ok-row.ensures) c.in_ok-chain.ensures
