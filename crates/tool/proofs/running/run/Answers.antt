use Rattle.std.proofs.Common.{ℕ, List, Option, refl, inl, ◌∙◌, subst, ⊎_elim}
use Rattle.faults.specs.declared.fault.Fault.TheVariants.{OutOfMemory}
use Rattle.tool.specs.Ends.{OthersStay, name_of}
use Rattle.tool.proofs.Writing.{holds_from, stops_from, others_same, others_held, others_stopped, stopped_failed}
use Rattle.tool.proofs.Ending.{refusal_ends, delivery_ends, refusal_is, never_answered, said_rests, never_ends_so, gains_nothing}
use Rattle.tool.proofs.running.run.Goals as goal

pub returns-in-Err-clause-exact : goal.returns-in-Err-clause-exact
returns-in-Err-clause-exact g c =
    let tool = c.args.tool.now in
    refusal_ends (g.T.Tool.task tool).job (g.met.T.Tool.one_judgement tool) (g.F.Files.seen c.args.files.now) (g.F.Files.seen c.answer.new.files) _
    c.in-Err.fault c.refuse.ensures.0 c.refuse.result c.in-Err.ensures.fault c.refuse.ensures.1 c.refuse.ensures.2

pub returns-in-Ok-clause-exact : goal.returns-in-Ok-clause-exact
returns-in-Ok-clause-exact g c =
    let tool = c.args.tool.now in
    let old = g.F.Files.seen c.args.files.now in
    let mid = g.F.Files.seen c.answer.new.files in
    let new = g.F.Files.seen c.conclude.new.files in
    let right = c.in-Ok.ensures.right in
    delivery_ends (g.T.Tool.task tool).job (g.met.T.Tool.one_judgement tool) old new _
    right.input c.conclude.result right.judged c.conclude.ensures.ends
    (λ w.
    let stop = c.conclude.ensures.write w in
    stopped_failed c.in-Ok.output old new _ _ _ _ (g.T.Tool.task tool).file stop.0 right.named
    (stops_from c.in-Ok.output _ _ _ _ old mid new stop.0 c.in-Ok.ensures.left c.in-Ok.ensures.writes stop.1))

pub returns-in-Ok-clause-done : goal.returns-in-Ok-clause-done
returns-in-Ok-clause-done g c =
    λ w.
    let done = c.conclude.ensures.done w in
    (c.in-Ok.output, c.in-Ok.ensures.right, holds_from c.in-Ok.output.file _ _ _ c.in-Ok.ensures.left done.0, done.1)

pub returns-in-Ok-clause-write : goal.returns-in-Ok-clause-write
returns-in-Ok-clause-write g c =
    let old = g.F.Files.seen c.args.files.now in
    let mid = g.F.Files.seen c.answer.new.files in
    let new = g.F.Files.seen c.conclude.new.files in
    λ w.
    let stop = c.conclude.ensures.write w in
    (c.in-Ok.output, c.in-Ok.ensures.right, stop.0, stops_from c.in-Ok.output _ _ _ _ old mid new stop.0 c.in-Ok.ensures.left c.in-Ok.ensures.writes stop.1, stop.2)

pub returns-in-Ok-clause-fault : goal.returns-in-Ok-clause-fault
returns-in-Ok-clause-fault g c =
    λ not_done not_write. ⊎_elim
    (λ e. absurd (not_done e))
    (λ r. ⊎_elim
    (λ e. absurd (not_write e))
    (λ e.
    let ended = c.conclude.ensures.memory e in
    (OutOfMemory, e, inl (inl refl), ended.0, ended.1, ended.2 ∙ c.in-Ok.ensures.left))
    r)
    c.conclude.ensures.ends

pub returns-in-Ok-clause-left : goal.returns-in-Ok-clause-left
returns-in-Ok-clause-left g c =
    let task = g.T.Tool.task c.args.tool.now in
    let old = g.F.Files.seen c.args.files.now in
    let mid = g.F.Files.seen c.answer.new.files in
    let new = g.F.Files.seen c.conclude.new.files in
    let to_task = λ (h : OthersStay (name_of c.in-Ok.output.file) old.holds new.holds). subst (λ (file : Option (List ℕ)). OthersStay file old.holds new.holds) c.in-Ok.ensures.right.named h in
    ⊎_elim
    (λ e. to_task (others_held c.in-Ok.output.file old.holds new.holds (holds_from c.in-Ok.output.file _ _ _ c.in-Ok.ensures.left (c.conclude.ensures.done e).0)))
    (λ r. ⊎_elim
    (λ e.
    let stop = c.conclude.ensures.write e in
    to_task (others_stopped c.in-Ok.output old new _ _ _ _ stop.0 (stops_from c.in-Ok.output _ _ _ _ old mid new stop.0 c.in-Ok.ensures.left c.in-Ok.ensures.writes stop.1)))
    (λ e. others_same task.file old.holds new.holds ((c.conclude.ensures.memory e).2 ∙ c.in-Ok.ensures.left))
    r)
    c.conclude.ensures.ends

pub returns-in-Err-clause-left : goal.returns-in-Err-clause-left
returns-in-Err-clause-left g c =
    others_same (g.T.Tool.task c.args.tool.now).file _ _ c.in-Err.ensures.left

pub returns-in-Err-clause-write : goal.returns-in-Err-clause-write
returns-in-Err-clause-write g c =
    let tool = c.args.tool.now in
    λ w. absurd (never_ends_so (g.T.Tool.task tool).job (g.met.T.Tool.one_judgement tool) (g.F.Files.seen c.args.files.now) (g.F.Files.seen c.answer.new.files)
    c.in-Err.fault c.refuse.ensures.0 c.refuse.result c.in-Err.ensures.fault c.refuse.ensures.1 c.refuse.ensures.2 w)

pub returns-in-Err-clause-fault : goal.returns-in-Err-clause-fault
returns-in-Err-clause-fault g c =
    let tool = c.args.tool.now in
    let rests = said_rests (g.T.Tool.task tool).job (g.met.T.Tool.one_judgement tool) (g.F.Files.seen c.args.files.now) (g.F.Files.seen c.answer.new.files)
    c.in-Err.fault c.refuse.ensures.0 c.in-Err.ensures.fault c.refuse.ensures.1 in
    λ not_done not_write. (c.refuse.ensures.0, c.refuse.ensures.2, rests, c.refuse.ensures.3, gains_nothing (g.O.Sink.written c.args.out.now), c.in-Err.ensures.left)

pub returns-in-Err-clause-refused : goal.returns-in-Err-clause-refused
returns-in-Err-clause-refused g c =
    let tool = c.args.tool.now in
    refusal_is (g.T.Tool.task tool).job (g.met.T.Tool.one_judgement tool) (g.F.Files.seen c.args.files.now) (g.F.Files.seen c.answer.new.files)
    c.in-Err.fault c.refuse.ensures.0 c.refuse.result c.in-Err.ensures.fault c.refuse.ensures.1 c.refuse.ensures.2

pub returns-in-Ok-clause-refused : goal.returns-in-Ok-clause-refused
returns-in-Ok-clause-refused g c =
    let tool = c.args.tool.now in
    let right = c.in-Ok.ensures.right in
    λ refusal only. absurd (never_answered (g.T.Tool.task tool).job (g.met.T.Tool.one_judgement tool) (g.F.Files.seen c.args.files.now) (g.F.Files.seen c.answer.new.files)
    right.input right.judged refusal only)
