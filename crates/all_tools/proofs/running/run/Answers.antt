use Rattle.std.proofs.Common.{◌≡◌, ◌≢◌, ◌⊎◌, ℕ, List, [], Result, Some, IfErr, IfSome, subst}
use Rattle.outside.specs.Told.{Gains}
use Rattle.faults.specs.declared.fault.Fault.{Fault}
use Rattle.faults.specs.declared.status.Status.TheVariants as statuses
use Rattle.faults.specs.FaultText.{fault_text}
use Rattle.faults.specs.Statuses.{status_of}
use Rattle.command_line.specs.Words.{command_of}
use Rattle.loading.specs.Readings.{reading}
use Rattle.loading.specs.Jobs.{IsJudged, RestsOn, Leaves}
use Rattle.witness_delivery.specs.Delivery.{HoldsFile}
use Rattle.tool.specs.Tasks.{IsTaskAnswer, Written}
use Rattle.tool.specs.Ends.{Says, ReadFailed, WriteFailed, StopsAt, EndsAs}
use Rattle.all_tools.specs.Lines.{asked}
use Rattle.all_tools.proofs.Asking.{refused_words}
use Rattle.all_tools.proofs.running.run.Goals as goal

pub returns-clause-done : goal.returns-clause-done
returns-clause-done g c =
    let old = g.F.Files.seen c.args.files.now in
    let new = g.F.Files.seen c.run.new.files in
    subst (λ (words : List (List ℕ)). c.run.result ≡ statuses.Done → (written : Written)
    × IsTaskAnswer (asked words) old written
    × HoldsFile written.file old.holds new.holds
    × Gains (g.O.Sink.written c.args.out.now) (g.O.Sink.written c.run.new.out) written.text) c.of.ensures c.run.ensures.done

pub returns-clause-write : goal.returns-clause-write
returns-clause-write g c =
    let old = g.F.Files.seen c.args.files.now in
    let new = g.F.Files.seen c.run.new.files in
    subst (λ (words : List (List ℕ)). c.run.result ≡ statuses.Write → (written : Written)
    × IsTaskAnswer (asked words) old written × (fault : Fault)
    × StopsAt fault written old new (g.O.Sink.written c.args.out.now) (g.O.Sink.written c.run.new.out)
    (g.O.Sink.faults c.args.out.now) (g.O.Sink.faults c.run.new.out)
    × Says (g.E.Sink.written c.args.err.now) (g.E.Sink.written c.run.new.err)
    (g.E.Sink.faults c.args.err.now) (g.E.Sink.faults c.run.new.err) (fault_text fault)) c.of.ensures c.run.ensures.write

pub returns-clause-fault : goal.returns-clause-fault
returns-clause-fault g c =
    let old = g.F.Files.seen c.args.files.now in
    let new = g.F.Files.seen c.run.new.files in
    subst (λ (words : List (List ℕ)). c.run.result ≢ statuses.Done → c.run.result ≢ statuses.Write → (fault : Fault)
    × (c.run.result ≡ status_of fault)
    × RestsOn (asked words).job old new fault
    × Says (g.E.Sink.written c.args.err.now) (g.E.Sink.written c.run.new.err)
    (g.E.Sink.faults c.args.err.now) (g.E.Sink.faults c.run.new.err) (fault_text fault)
    × Gains (g.O.Sink.written c.args.out.now) (g.O.Sink.written c.run.new.out) []
    × Leaves (asked words).job old new) c.of.ensures c.run.ensures.fault

pub returns-clause-exact : goal.returns-clause-exact
returns-clause-exact g c =
    let old = g.F.Files.seen c.args.files.now in
    let new = g.F.Files.seen c.run.new.files in
    subst (λ (words : List (List ℕ)). IfSome old.holds (λ disk. (outcome : Result (asked words).job.Input Fault)
    → IsJudged (asked words).job (reading (Some disk)) outcome
    → EndsAs outcome (ReadFailed (asked words).job.names old new)
    (WriteFailed (asked words).file old new (g.O.Sink.faults c.args.out.now) (g.O.Sink.faults c.run.new.out)) c.run.result)) c.of.ensures c.run.ensures.exact

pub returns-clause-words : goal.returns-clause-words
returns-clause-words g c =
    subst (λ (words : List (List ℕ)). IfErr (command_of words) (λ fault. (c.run.result ≡ status_of fault) ⊎ (c.run.result ≡ statuses.NoMemory))) c.of.ensures
    (refused_words (command_of c.of.result) (λ fault. (c.run.result ≡ status_of fault) ⊎ (c.run.result ≡ statuses.NoMemory)) c.run.ensures.refused)
