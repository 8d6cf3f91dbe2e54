use Rattle.std.proofs.Common.{ℕ, List, arith, subst, sym}
use Rattle.witness_scanning.proofs.Progress.{HasReadEntries}
use Rattle.witness_scanning.proofs.Entries.{none_read, entries_more, entries_stop, entries_whole, entries_over}
use Rattle.witness_scanning.proofs.terms.entries.Goals as goal

pub loop-rest-init : goal.loop-rest-init
loop-rest-init c =
    subst (λ (es : List ℕ). HasReadEntries c.args.modulus c.args.width c.args.bytes.now es c.args.bytes.now) (sym c.new-entries.ensures.items)
    (none_read c.args.modulus c.args.width c.args.bytes.now)

pub loop-rest-preserved : goal.loop-rest-preserved
loop-rest-preserved c =
    entries_more c.args.modulus c.args.width c.args.bytes.now c.loop-rest.entries.items c.push.new.self.items c.loop-rest.rest.now c.in-Some.number c.in-Some.behind.now (omega arith)
    c.loop-rest.invariant c.in-Some.ensures c.in_ok-push.ensures.items

pub returns-in_default : goal.returns-in_default
returns-in_default c =
    entries_stop c.args.modulus c.args.width c.args.bytes.now c.loop-rest.entries.items c.loop-rest.rest.now (omega arith) c.loop-rest.invariant c.in_default.ensures

pub returns-in-Some-after : goal.returns-in-Some-after
returns-in-Some-after c =
    entries_whole c.args.modulus c.args.width c.args.bytes.now c.loop-rest.entries.items c.loop-rest.rest.now c.in-Some-after.behind.now (omega arith) c.loop-rest.invariant c.in-Some-after.ensures

pub returns : goal.returns
returns c =
    entries_over c.args.modulus c.args.width c.args.bytes.now c.loop-rest.entries.items c.loop-rest.rest.now (omega arith) c.loop-rest.invariant c.in-None.ensures
