use Rattle.std.proofs.Common.{subst, sym}
use Rattle.std.specs.Prelude.{IfOk, IfErr}
use Rattle.witness_types.specs.Headers.{body_of}
use Rattle.witness_types.specs.Inputs.{given_of}
use Rattle.witness_types.specs.declared.input.Input.{Input}
use Rattle.witness_reading.specs.Reading.{IsRead, IsReadFault}
use Rattle.map_reading.proofs.reading.read_witness.Goals as goal

pub returns-in-Pair-clause-ok : goal.returns-in-Pair-clause-ok
returns-in-Pair-clause-ok g c =
    subst (λ (i : Input). IfOk c.read_pair.result (IsRead g.row.P (given_of i) (body_of c.args.bytes.now))) (sym c.in-Pair.is) c.read_pair.ensures.ok

pub returns-in-Pair-clause-err : goal.returns-in-Pair-clause-err
returns-in-Pair-clause-err g c =
    subst (λ (i : Input). IfErr c.read_pair.result (IsReadFault g.row.P (given_of i) (body_of c.args.bytes.now))) (sym c.in-Pair.is) c.read_pair.ensures.err

pub returns-in-Map-clause-ok : goal.returns-in-Map-clause-ok
returns-in-Map-clause-ok g c =
    subst (λ (i : Input). IfOk c.read_map.result (IsRead g.row.P (given_of i) (body_of c.args.bytes.now))) (sym c.in-Map.is) c.read_map.ensures.ok

pub returns-in-Map-clause-err : goal.returns-in-Map-clause-err
returns-in-Map-clause-err g c =
    subst (λ (i : Input). IfErr c.read_map.result (IsReadFault g.row.P (given_of i) (body_of c.args.bytes.now))) (sym c.in-Map.is) c.read_map.ensures.err
