use Rattle.std.proofs.Common.{refl, subst, sym}
use Rattle.witness_laws.specs.declared.law.WitnessFault.{WitnessFault}
use Rattle.witness_types.specs.Headers.{body_of}
use Rattle.witness_reading.specs.Pairs.{pair_given}
use Rattle.witness_reading.specs.Reading.{IsReadFault}
use Rattle.witness_reading.proofs.PairRead.{pair_read, pair_stops}
use Rattle.witness_reading.proofs.pair.read_pair.Goals as goal

pub returns-in-Ok-clause-ok : goal.returns-in-Ok-clause-ok
returns-in-Ok-clause-ok g c =
    pair_read g.row.P (pair_given c.args.x.now c.args.a.now) refl c.body-lines.result.now (body_of c.args.bytes.now) c.body-lines.ensures c.in-Ok.domain c.in-Ok.ensures.ok

pub returns-in-Err-clause-err : goal.returns-in-Err-clause-err
returns-in-Err-clause-err g c =
    subst (λ (f : WitnessFault). IsReadFault g.row.P (pair_given c.args.x.now c.args.a.now) (body_of c.args.bytes.now) f) (sym c.fault_at.ensures)
    (pair_stops g.row.P (pair_given c.args.x.now c.args.a.now) refl c.body-lines.result.now (body_of c.args.bytes.now) c.body-lines.ensures c.in-Err.stop c.in-Err.ensures.err)
