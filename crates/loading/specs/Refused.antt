-- What is refused before any file is read, as a job.
use Rattle.std.specs.Prelude.{◌≡◌, [], Ok}
use Rattle.faults.specs.declared.fault.Fault.{Fault}
use Rattle.loading.specs.Steps.{Is}
use Rattle.loading.specs.Jobs.{Job}

-- it reads nothing, is refused with this fault, and no text answers it
abbrev pub refused_job : Fault → Job
refused_job fault = record {
  Input = Unit {0};
  names = [];
  most = 0;
  gives = λ read. Is (Ok tt);
  refuses = λ input other. other ≡ fault;
  answers = λ input text. ⊥;
}
