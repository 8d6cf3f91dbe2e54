use Rattle.std.proofs.Common.{ℕ, List, Option, refl, subst}
use Rattle.outside.specs.Told.{GainsFront}
use Rattle.faults.specs.declared.fault.Fault.TheVariants.{CannotWriteOut}
use Rattle.witness_delivery.specs.Delivery.{WholeFile, HoldsFile, LacksFile}
use Rattle.tool.proofs.Writing.{file_stops}
use Rattle.tool.proofs.delivery.deliver.Goals as goal

pub returns-in-NoReport-clause-write : goal.returns-in-NoReport-clause-write
returns-in-NoReport-clause-write g c =
    let old = g.F.Files.seen c.args.files.now in
    let new = g.F.Files.seen c.deliver.new.files in
    let stop = c.in-NoReport.ensures.report refl in
    λ w. (
      CannotWriteOut,
      (
        subst (λ (file : Option WholeFile). HoldsFile file old.holds new.holds) c.file.ensures stop.0,
        subst (λ (text : List ℕ). GainsFront (g.O.Sink.written c.args.out.now) (g.O.Sink.written c.deliver.new.out) text) c.text.ensures stop.1,
        stop.2,
      ),
      c.say.ensures,
    )

pub returns-in-NoFile-clause-write : goal.returns-in-NoFile-clause-write
returns-in-NoFile-clause-write g c =
    let old = g.F.Files.seen c.args.files.now in
    let new = g.F.Files.seen c.deliver.new.files in
    let stop = c.in-NoFile.ensures.file refl in
    λ w.
    file_stops c.args.output.now.text c.args.output.now.file c.args.line.now old new _ _ _ _ _ _ _ _ c.requires
    (subst (λ (file : Option WholeFile). LacksFile file old new) c.file.ensures stop.0)
    stop.1 c.say-in-NoFile.ensures
