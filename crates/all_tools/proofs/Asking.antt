-- From what words are due to what a run answers on them.
use Rattle.std.proofs.Common.{◌≡◌, Result, Ok, Err, IfErr, sym, subst, inl, inr, refl}
use Rattle.outside.specs.Seen.{Seen}
use Rattle.faults.specs.declared.fault.Fault.{Fault}
use Rattle.command_line.specs.Words.{Request, IsDue}
use Rattle.loading.specs.Jobs.{IsRefusedWith}
use Rattle.loading.specs.Refused.{refused_job}
use Rattle.loading.proofs.Refused.{refusal, refused_only}
use Rattle.tool.specs.Tasks.{Written, Provides}
use Rattle.tool.proofs.Lifting.{lifts, no_memory_for}
use Rattle.all_tools.specs.Jobs.{task_of}
use Rattle.all_tools.specs.Lines.{asked_task}

-- words that are refused, or memory that was wanting to read them
pub words_refused : (due : Result Request Fault) (old : Seen) (fault : Fault) → IsDue due (Err fault) → Provides (asked_task due) old old (Err fault)
words_refused due old fault (inl e) = subst (λ (d : Result Request Fault). Provides (asked_task d) old old (Err fault)) (sym e) (lifts (refused_job fault) old old (Err fault) (Err fault) refl (refusal fault old))
words_refused due old fault (inr e) = no_memory_for (asked_task due) old fault e

-- words that ask for a command
pub command_answered : (due : Result Request Fault) (old new : Seen) (command : Request) (result : Result Written Fault) → due ≡ Ok command → Provides (task_of command) old new result → Provides (asked_task due) old new result
command_answered due old new command result e h = subst (λ (d : Result Request Fault). Provides (asked_task d) old new result) (sym e) h

-- words of no form are refused whatever the files hold
pub refused_words : (due : Result Request Fault) (P : Fault → Type 0) → ((fault : Fault) → IsRefusedWith (asked_task due).job fault → P fault) → IfErr due P
refused_words (Ok command) P f = tt
refused_words (Err fault) P f = f fault (refused_only fault)
