use Rattle.std.proofs.Common.{ℕ, List, Ok, Err, subst}
use Rattle.std.proofs.lemmas.Result.{err_from_is_err_and}
use Rattle.loading.specs.Jobs.{Computes}
use Rattle.loading.specs.Loads.{Loads}
use Rattle.loading.proofs.Refused.{load_refused}
use Rattle.witness_types.specs.declared.heading.ClaimKind.{ClaimKind}
use Rattle.replay_tool.specs.Inputs.{Headed, testimony, read_witness, IsWitnessIn}
use Rattle.replay_tool.specs.Refusals.{RefusesTestimony}
use Rattle.replay_tool.specs.Jobs.{replay_job, IsAcceptedText}
use Rattle.replay_tool.proofs.Files.{no_witness, no_subject, testimony_loads, answered}
use Rattle.replay_tool.proofs.replaying.replayed.Goals as goal

pub returns-in_err-bytes : goal.returns-in_err-bytes
unfolding replay_job
returns-in_err-bytes g c =
    let job = c.args.job.now in
    let old = g.F.Files.seen c.args.files.now in
    let new = g.F.Files.seen c.load_witness.new.files in
    let fault = c.in_err-bytes.field-0.0 in
    let p = err_from_is_err_and c.from_residual.result c.from_residual.ensures.1 in
    rw (p.1, p.2) (load_refused (replay_job job) old new fault (no_witness job old old new fault
    (subst (λ (k : ClaimKind). Loads {A = Headed} read_witness (IsWitnessIn job.witness k) old new (Err fault)) c.kind_of-kind.ensures c.in_err-bytes.ensures.loads)))

pub returns-in_err-subject : goal.returns-in_err-subject
unfolding replay_job
returns-in_err-subject g c =
    let job = c.args.job.now in
    let old = g.F.Files.seen c.args.files.now in
    let between = g.F.Files.seen c.load_witness.new.files in
    let new = g.F.Files.seen c.load_subject.new.files in
    let headed : Headed = record { bytes = c.in_ok-bytes.bytes.items; modulus = c.in_ok-bytes.modulus } in
    let fault = c.in_err-subject.field-0.0 in
    let p = err_from_is_err_and c.from_residual-in_err-subject.result c.from_residual-in_err-subject.ensures.1 in
    rw (p.1, p.2) (load_refused (replay_job job) old new fault (no_subject job old between new headed
    (subst (λ (k : ClaimKind). Loads {A = Headed} read_witness (IsWitnessIn job.witness k) old between (Ok headed)) c.kind_of-kind.ensures c.in_ok-bytes.ensures.loads)
    fault c.in_err-subject.ensures.loads))

pub returns : goal.returns
unfolding replay_job
returns g c =
    let job = c.args.job.now in
    let old = g.F.Files.seen c.args.files.now in
    let between = g.F.Files.seen c.load_witness.new.files in
    let new = g.F.Files.seen c.load_subject.new.files in
    let headed : Headed = record { bytes = c.in_ok-bytes.bytes.items; modulus = c.in_ok-bytes.modulus } in
    let subject = c.in_ok-subject.subject in
    answered (replay_job job) old new (testimony headed subject)
    (testimony_loads job old between new headed
    (subst (λ (k : ClaimKind). Loads {A = Headed} read_witness (IsWitnessIn job.witness k) old between (Ok headed)) c.kind_of-kind.ensures c.in_ok-bytes.ensures.loads)
    subject c.in_ok-subject.ensures.loads)
    c.compute.result
    (subst (λ (b : List ℕ). Computes (RefusesTestimony job.witness) IsAcceptedText (testimony (record { bytes = b; modulus = c.in_ok-bytes.modulus }) subject) c.compute.result) c.deref.ensures.value c.compute.ensures)
