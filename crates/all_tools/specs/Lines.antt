-- What words ask for, and that it is judged in one way.
use Rattle.std.specs.Prelude.{◌≢◌, ℕ, List, Result, Ok, Err, IfErr}
use Rattle.faults.specs.declared.fault.Fault.{Fault}
use Rattle.faults.specs.declared.status.Status.TheVariants.{Write}
use Rattle.faults.specs.Statuses.{status_of}
use Rattle.command_line.specs.Words.{Request, command_of}
use Rattle.loading.specs.Jobs.{IsJudgedOnce}
use Rattle.loading.specs.Refused.{refused_job}
use Rattle.loading.proofs.Refused.{refused_once}
use Rattle.tool.specs.Tasks.{Task, alone}
use Rattle.all_tools.specs.Jobs.{judged_by, task_of}
use Rattle.all_tools.specs.Refusals.{words_refused_so}

-- the task of a command, or to be refused
abbrev pub asked_task : Result Request Fault → Task
asked_task (Ok command) = task_of command
asked_task (Err fault) = alone (refused_job fault)

abbrev pub asked : List (List ℕ) → Task
asked words = asked_task (command_of words)

pub asked_once : (due : Result Request Fault) → IfErr due (λ fault. status_of fault ≢ Write)
    → IsJudgedOnce (asked_task due).job
asked_once (Ok command) before = (judged_by command.tool command).once
asked_once (Err fault) before = (refused_once fault before).once

pub line_once : (words : List (List ℕ)) → IsJudgedOnce (asked words).job
line_once words = asked_once (command_of words) (words_refused_so words)
