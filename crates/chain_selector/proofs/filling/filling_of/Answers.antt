use Rattle.std.proofs.Common.{arith, refl}
use Rattle.field_mod.proofs.Table.{two_le}
use Rattle.acyclic_values.proofs.Making.{pair_of, of_cells}
use Rattle.chain_selector.proofs.Cycles.{fills_if_null}
use Rattle.chain_selector.proofs.filling.filling_of.Goals as goal

pub complex_of-requires : goal.complex_of-requires
complex_of-requires g c = ((omega arith), ((omega arith), pair_of c.args.value.now (record { sorted = c.len-count.ensures.sorted.sorted; closed = c.requires.closed })))

pub returns : goal.returns
returns g c =
    fills_if_null g.row.P c.args.value.now c.in_ok-log.log c.args.cycle.now c.in_ok-filling.filling (two_le g.row.P c.args.field.listed)
    (record { sorted = c.len-count.ensures.sorted.sorted; closed = c.requires.closed })
    (of_cells g.row.P c.args.value.now c.args.value.now c.in_ok-complex.complex c.in_ok-start.field-0.complex c.in_ok-log.log.complex refl c.in_ok-complex.ensures c.in_ok-start.ensures.0 c.in_ok-log.ensures.complex)
    c.step_count-steps.ensures.steps c.in_ok-log.ensures.nothing_left c.requires.within c.len-terms.ensures.normal c.in_ok-filling.ensures
