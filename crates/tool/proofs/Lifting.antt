-- From what a job or a computation promises to what a task does.
use Rattle.std.proofs.Common.{◌≡◌, ℕ, List, Result, Ok, Err, refl, sym, subst, ◌⊎◌, inl, inr, arith}
use Rattle.outside.specs.Seen.{Seen}
use Rattle.faults.specs.declared.fault.Fault.{Fault}
use Rattle.faults.specs.declared.fault.Fault.TheVariants.{OutOfMemory}
use Rattle.loading.specs.Loads.{Loads}
use Rattle.loading.specs.Jobs.{Job, Answers, RestsOn}
use Rattle.tool.specs.Tasks.{Task, Written, Produces, Provides, alone, lifted}
use Rattle.tool.specs.Ends.{name_of}

-- a text alone
pub lifts : (job : Job) (old new : Seen) (answer : Result (List ℕ) Fault) (result : Result Written Fault) → result ≡ lifted answer
    → Answers job old new answer → Provides (alone job) old new result
lifts job old new answer result e h = subst (λ (r : Result Written Fault). Provides (alone job) old new r) (sym e) (by answer h)
  where
    by : (answer : Result (List ℕ) Fault) → Answers job old new answer → Provides (alone job) old new (lifted answer)
    by (Ok text) h = record {
      right = record { input = h.right.0; judged = h.right.1; right = h.right.2; named = refl };
      fault = tt;
      given = h.given;
      left = h.left;
      writes = h.writes;
    }
    by (Err fault) h = record { right = tt; fault = h.fault; given = h.given; left = h.left; writes = h.writes }

-- memory that was wanting before a file was read
pub no_memory_for : (task : Task) (old : Seen) (fault : Fault) → fault ≡ OutOfMemory → Provides task old old (Err fault)
no_memory_for task old fault e = record { right = tt; fault = inl (inl e); given = omega arith; left = refl; writes = λ name. omega arith }

module _ (task : Task) (old new : Seen) where
  -- files that are refused
  pub loading_refused : (fault : Fault) → Loads {A = task.job.Input} task.job.most task.job.gives old new (Err fault) → Provides task old new (Err fault)
  loading_refused fault h = record { right = tt; fault = inl h.fault; given = h.given; left = h.holds; writes = h.writes }

  -- what is computed of files that were read
  pub provided : (input : task.job.Input) → Loads task.job.most task.job.gives old new (Ok input)
      → ((written : Written) → task.answers input written → name_of written.file ≡ task.file)
      → (result : Result Written Fault) → Produces task.job.refuses task.answers input result → Provides task old new result
  provided input h named (Ok written) p = record {
    right = record { input = input; judged = (h.value, p.allowed); right = p.right; named = named written p.right };
    fault = tt;
    given = h.given;
    left = h.holds;
    writes = h.writes;
  }
  provided input h named (Err fault) p = record { right = tt; fault = rests p.fault; given = h.given; left = h.holds; writes = h.writes }
    where
      rests : task.job.refuses input fault ⊎ (fault ≡ OutOfMemory) → RestsOn task.job old new fault
      rests (inl r) = inr (input, h.value, r)
      rests (inr e) = inl (inl e)
