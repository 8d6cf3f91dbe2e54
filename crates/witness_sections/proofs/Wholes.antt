-- All lines of a pair, and the witness alone that has its section.
use Rattle.std.proofs.Common.{◌≡◌, ℕ, suc, ◌+◌, ap, ◌∙◌, arith, List, ◌++◌, length, length-append}
use Rattle.witness_laws.specs.declared.law.WitnessFault.{WitnessFault}
use Rattle.witness_laws.specs.declared.law.WitnessFault.TheVariants.{At, NoMemory}
use Rattle.witness_laws.specs.Lines.{Line}
use Rattle.witness_laws.specs.Tables.{pair_of, holds}
use Rattle.witness_sections.specs.declared.section.Section.{Section}
use Rattle.witness_sections.specs.Readings.{ArePassedOf, IsFaultOf, cycle_lines, cocycle_lines, homotopy_lines, section_lines}
use Rattle.witness_sections.proofs.Lining.{meet_append, fails_front, fails_behind}
use Rattle.witness_sections.proofs.Telling.{section_holds}

module _ {p : ℕ} (s : Section p) (from : ℕ) where
  module _ (first second third : ℕ) (one : ArePassedOf s cycle_lines (from + 1) first) (two : ArePassedOf s cocycle_lines first second) where
    pub all_passed : ArePassedOf s homotopy_lines second third → ArePassedOf s section_lines from third
    all_passed three G W side w =
        let a = one G W side w in
        let b = two G W side w in
        let c = three G W side w in
        let A : List Line = cycle_lines (pair_of W side) side in
        let B : List Line = cocycle_lines (pair_of W side) side in
        let C : List Line = homotopy_lines (pair_of W side) side in
        let l : length ((A ++ B) ++ C) ≡ length A + length B + length C = length-append (A ++ B) C ∙ ap (λ n. n + length C) (length-append A B) in
        record {
          next = let e = a.next in let f = b.next in let g = c.next in omega (arith, l, e, f, g);
          meet = (section_holds p G W side, meet_append (holds p G W) (A ++ B) C (meet_append (holds p G W) A B a.meet b.meet) c.meet);
        }

    pub third_fault : (fault : WitnessFault) → IsFaultOf s homotopy_lines second fault → IsFaultOf s section_lines from fault
    third_fault (At line law) here G W side w =
        let a = one G W side w in
        let b = two G W side w in
        let c = here G W side w in
        let A : List Line = cycle_lines (pair_of W side) side in
        let B : List Line = cocycle_lines (pair_of W side) side in
        let C : List Line = homotopy_lines (pair_of W side) side in (
          suc (length (A ++ B) + c.0),
          (let e = a.next in let f = b.next in let g = c.1 in let l = length-append A B in omega (arith, l, e, f, g)),
          (section_holds p G W side, fails_behind (holds p G W) (A ++ B) C c.0 law (meet_append (holds p G W) A B a.meet b.meet) c.2),
        )
    third_fault NoMemory here G W side w = tt

  pub second_fault : (first : ℕ) (fault : WitnessFault) → ArePassedOf s cycle_lines (from + 1) first → IsFaultOf s cocycle_lines first fault → IsFaultOf s section_lines from fault
  second_fault first (At line law) one here G W side w =
      let a = one G W side w in
      let c = here G W side w in
      let A : List Line = cycle_lines (pair_of W side) side in
      let B : List Line = cocycle_lines (pair_of W side) side in
      let C : List Line = homotopy_lines (pair_of W side) side in (
        suc (length A + c.0),
        (let e = a.next in let g = c.1 in omega (arith, e, g)),
        (section_holds p G W side, fails_front (holds p G W) (A ++ B) C (length A + c.0) law (fails_behind (holds p G W) A B c.0 law a.meet c.2)),
      )
  second_fault first NoMemory one here G W side w = tt

  pub first_fault : (fault : WitnessFault) → IsFaultOf s cycle_lines (from + 1) fault → IsFaultOf s section_lines from fault
  first_fault (At line law) here G W side w =
      let c = here G W side w in
      let A : List Line = cycle_lines (pair_of W side) side in
      let B : List Line = cocycle_lines (pair_of W side) side in
      let C : List Line = homotopy_lines (pair_of W side) side in (
        suc c.0,
        (let g = c.1 in omega (arith, g)),
        (section_holds p G W side, fails_front (holds p G W) (A ++ B) C c.0 law (fails_front (holds p G W) A B c.0 law c.2)),
      )
  first_fault NoMemory here G W side w = tt
