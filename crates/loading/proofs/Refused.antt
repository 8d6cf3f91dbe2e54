-- What is refused before any file is read is judged in one way, and answered so.
use Rattle.std.proofs.Common.{◌≡◌, ◌≢◌, [], Ok, Err, refl, sym, ap, ◌∙◌, arith, inl, inr}
use Rattle.outside.specs.Seen.{Seen}
use Rattle.faults.specs.declared.fault.Fault.{Fault}
use Rattle.faults.specs.declared.fault.Fault.TheVariants.{OutOfMemory}
use Rattle.faults.specs.declared.status.Status.TheVariants as statuses
use Rattle.faults.specs.Statuses.{status_of, without_chain}
use Rattle.loading.specs.Steps.{Is}
use Rattle.loading.specs.Loads.{Loads}
use Rattle.loading.specs.Jobs.{Job, HasOneJudgement, IsRefusedWith, Answers}
use Rattle.loading.specs.Refused.{refused_job}
use Rattle.loading.proofs.OfFiles.{made, value_made}
use Rattle.loading.proofs.Judging.{judged_once}

pub refused_once : (fault : Fault) → status_of fault ≢ statuses.Write → HasOneJudgement (refused_job fault)
refused_once fault never = judged_once (refused_job fault) (record {
  files = made [] (Is (Ok tt)) (value_made tt);
  found = λ input. inl (fault, refl);
  alike = λ input f g r s. ap without_chain (r ∙ sym s);
  before = λ input f r w. never (sym (ap status_of r) ∙ w);
})

pub refused_only : (fault : Fault) → IsRefusedWith (refused_job fault) fault
refused_only fault read (Ok input) (given, allowed) = absurd (allowed fault refl)
refused_only fault read (Err other) (inl e) = cc
refused_only fault read (Err other) (inr (input, given, r)) = ap (λ f. Err f) r

pub refusal : (fault : Fault) (old : Seen) → Answers (refused_job fault) old old (Err fault)
refusal fault old = record { right = tt; fault = inr (tt, refl, refl); given = omega arith; left = refl; writes = λ name. omega arith }

-- any job may end for want of memory
pub no_memory : (job : Job) (old : Seen) (fault : Fault) → fault ≡ OutOfMemory → Answers job old old (Err fault)
no_memory job old fault e = record { right = tt; fault = inl (inl e); given = omega arith; left = refl; writes = λ name. omega arith }

-- what the files of a job are refused with, the job is refused with
pub load_refused : (job : Job) (old new : Seen) (fault : Fault) → Loads {A = job.Input} job.most job.gives old new (Err fault) → Answers job old new (Err fault)
load_refused job old new fault h = record { right = tt; fault = inl h.fault; given = h.given; left = h.holds; writes = h.writes }
