-- A job, and a file that is written before its text.
use Rattle.std.specs.Prelude.{◌≡◌, ◌⊎◌, ℕ, ◌+◌, ◌≤◌, List, Option, None, option_map, Result, Ok, Err, IfOk, IfErr, OnOk}
use Rattle.outside.specs.Causes.{NoneFell}
use Rattle.outside.specs.Seen.{Seen}
use Rattle.faults.specs.declared.fault.Fault.{Fault}
use Rattle.faults.specs.declared.fault.Fault.TheVariants.{OutOfMemory}
use Rattle.loading.specs.Readings.{reading}
use Rattle.loading.specs.Jobs.{Job, IsAllowed, IsJudged, RestsOn, Leaves}
use Rattle.witness_delivery.specs.Delivery.{WholeFile}

-- what is written: a text, and before it a file, where there is one
pub record Written : Type 0 where
  pub text : List ℕ
  pub file : Option WholeFile

-- what a tool is asked to do, and to write
pub record Task : Type 1 where
  -- what is read, what refuses it, and which texts answer it
  pub job : Job
  -- the name of the file that is written, where one is
  pub file : Option (List ℕ)
  -- what answers an input: a text together with what stands in the file
  pub answers : job.Input → Written → Type 0

-- a job whose text alone is written
abbrev pub alone : Job → Task
alone job = record {
  job = job;
  file = None;
  answers = λ input written. job.answers input written.text;
}

-- what is written answers what the files give, which nothing refuses, and has a file where the task
-- has one, of that name
pub record IsTaskAnswer (task : Task) (old : Seen) (written : Written) : Type 0 where
  pub input : task.job.Input
  pub judged : IsJudged task.job (reading old.holds) (Ok input)
  pub right : task.answers input written
  pub named : option_map (λ file. file.name) written.file ≡ task.file

-- what a tool promises on its task
pub record Provides (task : Task) (old new : Seen) (result : Result Written Fault) : Type 0 where
  pub right : IfOk result (IsTaskAnswer task old)
  pub fault : IfErr result (RestsOn task.job old new)
  pub given : new.given ≤ old.given + task.job.most
  pub left : Leaves task.job old new
  pub writes : NoneFell old.write_faults new.write_faults

-- what a computation promises on an input: what is written to answer it, where nothing refuses it,
-- or what refuses it
pub record Produces {A : Type 0} (refuses : A → Fault → Type 0) (answers : A → Written → Type 0)
    (input : A) (result : Result Written Fault) : Type 0 where
  pub right : IfOk result (answers input)
  pub allowed : OnOk result (IsAllowed refuses input)
  pub fault : IfErr result (λ fault. refuses input fault ⊎ (fault ≡ OutOfMemory))

-- a text alone as what is written
abbrev pub lifted : Result (List ℕ) Fault → Result Written Fault
lifted (Ok text) = Ok (record { text = text; file = None })
lifted (Err fault) = Err fault
