-- The witness of a pair that is read, whole or up to its first fault.
use Rattle.std.proofs.Common.{◌≡◌, ℕ, ◌∙◌, arith, List, length, subst, None}
use Rattle.std.proofs.lemmas.List.{length-map}
use Rattle.witness_laws.specs.Lines.{lines_of}
use Rattle.witness_laws.specs.Formats.{HasValue}
use Rattle.witness_laws.specs.Inputs.{Given}
use Rattle.witness_laws.specs.Tables.{tables_format}
use Rattle.witness_types.specs.Parts.{IsInOrder}
use Rattle.witness_types.specs.declared.part.PairPart.{PairPart}
use Rattle.witness_runs.specs.declared.miss.Stop.{Stop}
use Rattle.section_reading.specs.Section.{degrees_of}
use Rattle.read_parts.specs.declared.parts.Parts.{Parts}
use Rattle.read_parts.specs.Values.{parts_value}
use Rattle.witness_reading.specs.Ends.{IfTold, told_of}
use Rattle.witness_reading.specs.Pairs.{IsWhole, StopsWhole}
use Rattle.witness_reading.specs.Reading.{IsRead, IsReadFault}
use Rattle.witness_reading.proofs.Degrees.{cycles_rise}
use Rattle.witness_reading.proofs.Ordering.{between, never_fall}
use Rattle.witness_reading.proofs.PairForm.{PairForm, pair_is_form}
use Rattle.witness_reading.proofs.PairWhole.{are_cycles, whole, meets}
use Rattle.witness_reading.proofs.Ending.{whole_leaves}
use Rattle.witness_reading.proofs.Telling.{told}

module _ (p : ℕ) (G : Given) (none : G.target ≡ None) (bytes : List ℕ) (ts : List (List ℕ)) (e : lines_of bytes ≡ ts) where
  in_order : (part : PairPart p) → IsWhole G bytes part → IsInOrder G.top part
  in_order part w =
      let ds : List ℕ = degrees_of part.cycles.items in
      let n : length ds ≡ length part.cycles.items = length-map part.cycles.items (λ z. z.0) in
      let r = cycles_rise p 0 G.top part.cycles.items
      (are_cycles p G none bytes part.cycles.items part.cocycles.items part.homotopy.items w.rest w.section w.over) in
      record {
        within = λ i l. (between 0 G.top ds r.1 i (omega arith)).1;
        order = λ i j l k. never_fall 0 G.top ds r.1 i j l (omega arith);
        cocycles = w.section.pair.second.run.many ∙ n;
      }

  abbrev parts : PairPart p → Parts p
  parts part = record { domain = part; map = None }

  pub pair_read : (part : PairPart p) → IsWhole G bytes part → IsRead p G ts (parts part)
  pair_read part w = record {
    has = subst (λ (l : List (List ℕ)). HasValue (tables_format p G) l (parts_value G (parts part))) e
        (whole p G none bytes part.cycles.items part.cocycles.items part.homotopy.items w.rest w.section w.over);
    first = meets p G none bytes part.cycles.items part.cocycles.items part.homotopy.items w.rest w.section w.over;
    order = in_order part w;
    range_order = tt;
  }

  pub pair_stops : (stop : Stop) → IfTold (StopsWhole p G bytes) stop → IsReadFault p G ts (told_of bytes stop)
  pair_stops stop s = told p G (PairForm p G) (pair_is_form p G none) bytes ts stop e (whole_leaves p G bytes stop s)
