use Rattle.std.proofs.Common.{arith}
use Rattle.std.proofs.lemmas.Result.{err_from_is_err_and}
use Rattle.witness_types.specs.Inputs.{given_of}
use Rattle.read_parts.specs.Values.{parts_value}
use Rattle.witness_replay.proofs.Answering.{read_fault, test_fault, shown}
use Rattle.witness_replay.proofs.replaying.replay.Goals as goal

pub returns-in_err-parts-clause-err : goal.returns-in_err-parts-clause-err
returns-in_err-parts-clause-err g c =
    let p = err_from_is_err_and c.from_residual.result c.from_residual.ensures.1 in
    rw (p.1, p.2) (read_fault g.row.P (given_of c.args.input.now) c.args.bytes.now c.in_err-parts.field-0.0 c.in_err-parts.ensures.err)

pub test_laws-requires : goal.test_laws-requires
test_laws-requires g c =
    let r = c.in_ok-parts.ensures.ok in
    ((omega arith), ((omega arith), ((omega arith), (c.requires.input, (c.requires.limits, record { fits = r.has.fits; first = r.first; order = r.order; range_order = r.range_order })))))

pub returns-in_err-claim-clause-err : goal.returns-in_err-claim-clause-err
returns-in_err-claim-clause-err g c =
    let G = given_of c.args.input.now in
    let r = c.in_ok-parts.ensures.ok in
    let p = err_from_is_err_and c.from_residual-in_err-claim.result c.from_residual-in_err-claim.ensures.1 in
    rw (p.1, p.2) (test_fault g.row.P G c.args.bytes.now (parts_value G c.in_ok-parts.parts) r.has r.first c.in_err-claim.field-0.0 c.in_err-claim.ensures.err)

pub returns-clause-ok : goal.returns-clause-ok
returns-clause-ok g c =
    let G = given_of c.args.input.now in
    let t = c.in_ok-claim.ensures.ok in
    shown g.row.P c.args.input.now c.args.bytes.now (parts_value G c.in_ok-parts.parts) c.in_ok-claim.claim c.requires.header.modulus c.requires.input c.in_ok-parts.ensures.ok.has t.meets t.claimed
