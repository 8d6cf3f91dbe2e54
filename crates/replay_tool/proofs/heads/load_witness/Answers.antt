use Rattle.std.proofs.Common.{ℕ, List, subst}
use Rattle.std.proofs.lemmas.Result.{err_from_is_err_and}
use Rattle.witness_types.specs.Headers.{IsHeader}
use Rattle.replay_tool.specs.Inputs.{header_of}
use Rattle.replay_tool.proofs.Files.{witness_refused, head_refused, witness_loads}
use Rattle.replay_tool.proofs.heads.load_witness.Goals as goal

pub returns-in_err-bytes-clause-loads : goal.returns-in_err-bytes-clause-loads
returns-in_err-bytes-clause-loads g c =
    let p = err_from_is_err_and c.from_residual.result c.from_residual.ensures.1 in
    rw (p.1, p.2) (witness_refused c.args.name.now c.args.kind (g.F.Files.seen c.args.files.now) (g.F.Files.seen c.load_bytes.new.files) c.in_err-bytes.field-0.0 c.in_err-bytes.ensures)

pub returns-in_err-modulus-clause-loads : goal.returns-in_err-modulus-clause-loads
returns-in_err-modulus-clause-loads g c =
    let p = err_from_is_err_and c.from_residual-in_err-modulus.result c.from_residual-in_err-modulus.ensures.1 in
    rw (p.1, p.2) (head_refused c.args.name.now c.args.kind (g.F.Files.seen c.args.files.now) (g.F.Files.seen c.load_bytes.new.files) c.in_ok-bytes.bytes.items c.deref.result.now c.deref.ensures.value c.in_ok-bytes.ensures c.in_err-modulus.field-0.0 c.in_err-modulus.ensures.err)

pub returns-clause-loads : goal.returns-clause-loads
returns-clause-loads g c =
    witness_loads c.args.name.now c.args.kind (g.F.Files.seen c.args.files.now) (g.F.Files.seen c.load_bytes.new.files) c.in_ok-bytes.bytes.items c.deref.result.now c.deref.ensures.value c.in_ok-bytes.ensures c.in_ok-modulus.modulus c.in_ok-modulus.ensures.ok

pub returns-clause-header : goal.returns-clause-header
returns-clause-header g c =
    subst (λ (b : List ℕ). IsHeader b (header_of c.args.kind c.in_ok-modulus.modulus)) c.deref.ensures.value c.in_ok-modulus.ensures.ok
