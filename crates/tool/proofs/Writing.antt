-- What stands after a run that came to its writing.
use Rattle.std.proofs.Common.{◌≡◌, ℕ, ◌≤◌, List, [], Option, None, Some, refl, sym, ◌∙◌, subst, inl, inr, arith}
use Rattle.outside.specs.Causes.{Rose, NoneFell}
use Rattle.outside.specs.Disk.{Disk, Puts, MayPut}
use Rattle.outside.specs.Seen.{Seen}
use Rattle.outside.specs.Told.{Told, Gains}
use Rattle.std.specs.Prelude.{true}
use Rattle.faults.specs.declared.fault.Fault.{Fault}
use Rattle.faults.specs.declared.fault.Fault.TheVariants.{CannotWriteOut, CannotWrite}
use Rattle.faults.specs.FaultText.{fault_text}
use Rattle.witness_delivery.specs.Delivery.{WholeFile, HoldsFile, LacksFile}
use Rattle.tool.specs.Tasks.{Written}
use Rattle.tool.specs.Ends.{IsLineOn, OthersStay, Says, StopsAt, WriteFailed, name_of}

-- ---- from the files before the writing to those before the run

pub rose_later : (a b c : ℕ) → a ≤ b → Rose b c → Rose a c
rose_later a b c l r = omega (arith, l, r)

pub holds_from : (file : Option WholeFile) (old mid new : Option Disk) → mid ≡ old → HoldsFile file mid new → HoldsFile file old new
holds_from file old mid new e h = subst (λ (o : Option Disk). HoldsFile file o new) e h

lacks_from : (file : Option WholeFile) (old mid new : Seen) → mid.holds ≡ old.holds → NoneFell old.write_faults mid.write_faults
    → LacksFile file mid new → LacksFile file old new
lacks_from None old mid new e later l = l
lacks_from (Some file) old mid new e later l = (
  subst (λ (o : Option Disk). Told o new.holds (MayPut true file.name file.bytes)) e l.0,
  rose_later _ (mid.write_faults file.name) _ (later file.name) l.1,
)

module _ (written : Written) (before now : Option (List ℕ)) (faults risen : ℕ) where
  pub stops_from : (old mid new : Seen) (fault : Fault) → mid.holds ≡ old.holds → NoneFell old.write_faults mid.write_faults
      → StopsAt fault written mid new before now faults risen → StopsAt fault written old new before now faults risen
  stops_from old mid new CannotWriteOut e later s = (holds_from written.file old.holds mid.holds new.holds e s.0, s.1, s.2)
  stops_from old mid new (CannotWrite name) e later s = (s.0, lacks_from written.file old mid new e later s.1, s.2)
  stops_from old mid new fault e later s = absurd s

-- ---- all other files stay

told_same : (holds : Option Disk) (name : List ℕ) → OthersStay (Some name) holds holds
told_same None name = tt
told_same (Some disk) name = λ other apart. refl

pub others_same : (file : Option (List ℕ)) (old new : Option Disk) → new ≡ old → OthersStay file old new
others_same None old new e = e
others_same (Some name) old new e = subst (λ (o : Option Disk). OthersStay (Some name) old o) (sym e) (told_same old name)

others_put : (old new : Option Disk) (name bytes : List ℕ) → Told old new (Puts name bytes) → OthersStay (Some name) old new
others_put old None name bytes p = tt
others_put None (Some now) name bytes p = absurd p
others_put (Some before) (Some now) name bytes p = p.others

others_may : (old new : Option Disk) (name bytes : List ℕ) → Told old new (MayPut true name bytes) → OthersStay (Some name) old new
others_may old None name bytes p = tt
others_may None (Some now) name bytes p = absurd p
others_may (Some before) (Some now) name bytes p = p.others

pub others_held : (file : Option WholeFile) (old new : Option Disk) → HoldsFile file old new → OthersStay (name_of file) old new
others_held None old new h = h
others_held (Some file) old new h = others_put old new file.name file.bytes h

others_lacked : (file : Option WholeFile) (old new : Seen) → LacksFile file old new → OthersStay (name_of file) old.holds new.holds
others_lacked None old new l = absurd l
others_lacked (Some file) old new l = others_may old.holds new.holds file.name file.bytes l.0

-- ---- a write that failed

rose_named : (file : Option WholeFile) (old new : Seen) (name : List ℕ) → name_of file ≡ Some name → LacksFile file old new
    → Rose (old.write_faults name) (new.write_faults name)
rose_named None old new name e l = absurd l
rose_named (Some file) old new name e l =
    let is : file.name ≡ name = cc in
    subst (λ (n : List ℕ). Rose (old.write_faults n) (new.write_faults n)) is l.1

module _ (written : Written) (old new : Seen) (before now : Option (List ℕ)) (faults risen : ℕ) where
  pub others_stopped : (fault : Fault) → StopsAt fault written old new before now faults risen → OthersStay (name_of written.file) old.holds new.holds
  others_stopped CannotWriteOut s = others_held written.file old.holds new.holds s.0
  others_stopped (CannotWrite name) s = others_lacked written.file old new s.1
  others_stopped fault s = absurd s

  pub stopped_failed : (file : Option (List ℕ)) (fault : Fault) → name_of written.file ≡ file → StopsAt fault written old new before now faults risen
      → WriteFailed file old new faults risen
  stopped_failed file CannotWriteOut named s = inl s.2
  stopped_failed file (CannotWrite name) named s = inr (name, sym named ∙ s.0, rose_named written.file old new name s.0 s.1)
  stopped_failed file fault named s = absurd s

-- the fault of a file that was not written whole
pub file_stops : (text : List ℕ) (file : Option WholeFile) (line : List ℕ) (old new : Seen) (before now said saying : Option (List ℕ)) (faults risen told telling : ℕ)
    → IsLineOn file line → LacksFile file old new → Gains before now [] → Says said saying told telling line
    → (fault : Fault) × StopsAt fault (record { text = text; file = file }) old new before now faults risen × Says said saying told telling (fault_text fault)
file_stops text None line old new before now said saying faults risen told telling is l g s = absurd l
file_stops text (Some file) line old new before now said saying faults risen told telling is l g s =
    (CannotWrite file.name, (refl, l, g), subst (λ (x : List ℕ). Says said saying told telling x) is s)
