-- Words are refused before anything is written.
use Rattle.std.proofs.Common.{◌≢◌, ℕ, List, [], ◌∷◌, Option, None, Some, IfErr, subst}
use Rattle.faults.specs.declared.status.Status.{Status}
use Rattle.faults.specs.declared.status.Status.TheVariants.{Words, Write}
use Rattle.faults.specs.Statuses.{status_of}
use Rattle.command_line.specs.Forms.{Row, form_named}
use Rattle.command_line.specs.Words.{formed, command_with, command_of}

abbrev IsWords : Status → Type 0
IsWords Words = Unit {0}
IsWords status = ⊥

words_alone : Words ≢ Write
words_alone e = subst (λ (status : Status). IsWords status) e tt

formed_so : {A : Type 0} (form : Row) (o : Option A)
    → IfErr (formed form o) (λ fault. status_of fault ≢ Write)
formed_so form None = words_alone
formed_so form (Some x) = tt

form_so : (form : Option Row) (words : List (List ℕ))
    → IfErr (command_with form words) (λ fault. status_of fault ≢ Write)
form_so None words = words_alone
form_so (Some form) words = formed_so form _

pub words_refused_so : (words : List (List ℕ))
    → IfErr (command_of words) (λ fault. status_of fault ≢ Write)
words_refused_so [] = words_alone
words_refused_so (name ∷ words) = form_so (form_named name) words
