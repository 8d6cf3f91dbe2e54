use Rattle.std.proofs.Common.{refl, subst, sym}
use Rattle.witness_laws.specs.Inputs.{target_of}
use Rattle.witness_laws.specs.declared.law.WitnessFault.{WitnessFault}
use Rattle.witness_types.specs.Headers.{body_of}
use Rattle.witness_reading.specs.Reading.{IsReadFault}
use Rattle.map_lines.specs.Whole.{map_given}
use Rattle.map_lines.proofs.MapRead.{map_read, map_stops}
use Rattle.map_reading.proofs.reading.read_map.Goals as goal

pub returns-in-Ok-clause-ok : goal.returns-in-Ok-clause-ok
returns-in-Ok-clause-ok g c =
    let G = map_given c.args.map.now c.args.x.now c.args.a.now c.args.y.now c.args.b.now in
    map_read g.row.P G (target_of G) refl c.body-lines.result.now c.in-Ok.domain c.in-Ok.read c.in-Ok.ensures.ok (body_of c.args.bytes.now) c.body-lines.ensures

pub returns-in-Err-clause-err : goal.returns-in-Err-clause-err
returns-in-Err-clause-err g c =
    let G = map_given c.args.map.now c.args.x.now c.args.a.now c.args.y.now c.args.b.now in
    subst (λ (f : WitnessFault). IsReadFault g.row.P G (body_of c.args.bytes.now) f) (sym c.fault_at.ensures)
    (map_stops g.row.P G (target_of G) refl c.requires.modulus c.body-lines.result.now (body_of c.args.bytes.now) c.in-Err.stop c.body-lines.ensures c.in-Err.ensures.err)
