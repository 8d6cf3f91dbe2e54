use Rattle.std.proofs.Common.{sym, subst, arith}
use Rattle.cell_complex.specs.Numbering.{IsOfPair}
use Rattle.acyclic_values.proofs.Making.{pair_of, of_cells}
use Rattle.acyclic_values.proofs.contraction.log_of.Goals as goal

pub complex_of-requires : goal.complex_of-requires
complex_of-requires g c = ((omega arith), ((omega arith), subst IsOfPair (sym c.in_ok-cells.ensures) (pair_of c.args.value.now (record { sorted = c.requires.sorted.sorted; closed = c.requires.closed }))))

pub returns-clause-complex : goal.returns-clause-complex
returns-clause-complex g c =
    of_cells g.row.P c.args.value.now c.in_ok-cells.cells c.in_ok-complex.complex c.in_ok-start.field-0.complex c.in_ok-log.log.complex c.in_ok-cells.ensures c.in_ok-complex.ensures c.in_ok-start.ensures.0 c.in_ok-log.ensures.complex
