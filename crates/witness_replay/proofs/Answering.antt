-- From what the two passes answer to what is shown, and to the first fault.
use Rattle.std.proofs.Common.{◌≡◌, ℕ, zero, suc, ◌<◌, ◌≤◌, refl, sym, ap, ◌∙◌, arith, List, length, map, get_or, Bool, true, false}
use Rattle.std.proofs.lemmas.Bool.{false≢true}
use Rattle.std.proofs.lemmas.List.{length-map}
use Rattle.field_mod.specs.Moduli.{IsModulus}
use Rattle.field_mod.proofs.Table.{two_le}
use Rattle.witness_laws.specs.declared.law.Law.{Law}
use Rattle.witness_laws.specs.declared.law.Law.TheVariants as laws
use Rattle.witness_laws.specs.declared.law.WitnessFault.{WitnessFault}
use Rattle.witness_laws.specs.declared.law.WitnessFault.TheVariants.{At, NoMemory}
use Rattle.witness_laws.specs.Formats.{Format, HasValue, MeetsFirst, IsLawFault, IsFirstFault, MeetsLaws}
use Rattle.witness_laws.specs.Inputs.{Given}
use Rattle.witness_laws.specs.Tables.{Tables, tables_format, map_of}
use Rattle.witness_laws.proofs.Showing.{tables_show_bases, tables_show_maps}
use Rattle.witness_types.specs.declared.input.Input.{Input}
use Rattle.witness_types.specs.declared.input.Input.TheVariants as inputs
use Rattle.witness_types.specs.declared.part.Claim.{Claim}
use Rattle.witness_types.specs.Headers.{body_of}
use Rattle.witness_types.specs.Inputs.{given_of, IsWitnessInput}
use Rattle.witness_types.specs.Answers.{IsFault, IsClaimWith, ShowsTables}
use Rattle.witness_reading.specs.Reading.{IsReadFault}
use Rattle.witness_testing.specs.Testing.{FailsAt, IsTestFault}

-- a header has a modulus of at least 1
pub at_least_one : (p : ℕ) → IsModulus p → 1 ≤ p
at_least_one p is = let t = two_le p is in omega arith

-- ---- faults

-- whether the second pass may tell the law
later : Law → Bool
later laws.Text = false
later laws.Cell = false
later law = true

module _ (p : ℕ) (G : Given) where
  abbrev F : Format Tables
  F = tables_format p G

  all_later : (at : ℕ) → at < 9 → later (get_or F.second at laws.Text) ≡ true
  unfolding later
  all_later zero l = refl
  all_later (suc zero) l = refl
  all_later (suc (suc zero)) l = refl
  all_later (suc (suc (suc zero))) l = refl
  all_later (suc (suc (suc (suc zero)))) l = refl
  all_later (suc (suc (suc (suc (suc zero))))) l = refl
  all_later (suc (suc (suc (suc (suc (suc zero)))))) l = refl
  all_later (suc (suc (suc (suc (suc (suc (suc zero))))))) l = refl
  all_later (suc (suc (suc (suc (suc (suc (suc (suc zero)))))))) l = refl
  all_later (suc (suc (suc (suc (suc (suc (suc (suc (suc at))))))))) l = absurd (omega (arith, l))

  module _ (ts : List (List ℕ)) where
    -- such a law is told by the fault of the second pass
    told_later : (k : ℕ) (law : Law) → later law ≡ true → IsLawFault F ts k law → IsFirstFault F ts k law
    unfolding later
    told_later k laws.Text e f = absurd (false≢true e)
    told_later k laws.Cell e f = absurd (false≢true e)
    told_later k laws.Header e f = f
    told_later k laws.Cycle e f = f
    told_later k laws.Dual e f = f
    told_later k laws.Cocycle e f = f
    told_later k laws.Contraction e f = f
    told_later k laws.ValueContraction e f = f
    told_later k laws.Carried e f = f
    told_later k laws.Augmentation e f = f
    told_later k laws.Commutes e f = f
    told_later k laws.Matrix e f = f

    count : (W : Tables) → HasValue F ts W → length (F.lines W) ≡ length ts
    count W has = sym (length-map (F.lines W) (F.text W)) ∙ ap length has.lines

    law_fault : (W : Tables) → HasValue F ts W → MeetsFirst F W → (k : ℕ) (law : Law) → FailsAt F W k law → IsFirstFault F ts k law
    law_fault W has first k law f = told_later k law (ap later f.named ∙ all_later f.at f.inside) (record {
      value = W;
      has = has;
      first = first;
      within = let e = count W has in let l = f.within in omega arith;
      at = f.at;
      inside = f.inside;
      named = f.named;
      before = f.before;
      here = f.here;
    })

-- the fault of the first pass, and that of the second
pub read_fault : (p : ℕ) (G : Given) (bytes : List ℕ) (fault : WitnessFault) → IsReadFault p G (body_of bytes) fault → IsFault (tables_format p G) bytes fault
read_fault p G bytes (At line law) f = (f.1, f.2, f.3)
read_fault p G bytes NoMemory f = tt

pub test_fault : (p : ℕ) (G : Given) (bytes : List ℕ) (W : Tables) → HasValue (tables_format p G) (body_of bytes) W → MeetsFirst (tables_format p G) W
    → (fault : WitnessFault) → IsTestFault (tables_format p G) W fault → IsFault (tables_format p G) bytes fault
test_fault p G bytes W has first (At line law) f = (f.0, f.1, law_fault p G (body_of bytes) W has first f.0 law f.2)
test_fault p G bytes W has first NoMemory f = tt

-- ---- what is shown

pub shown : (p : ℕ) (input : Input) (bytes : List ℕ) (W : Tables) (claim : Claim p) → IsModulus p → IsWitnessInput input
    → HasValue (tables_format p (given_of input)) (body_of bytes) W → MeetsLaws (tables_format p (given_of input)) W
    → IsClaimWith claim (map length W.domain.cycles) (map length (map_of W).range.cycles) (map_of W).matrices
    → ShowsTables input bytes claim
shown p (inputs.Pair x a) bytes W claim is fits has meets claimed =
    let G : Given = given_of (inputs.Pair x a) in
    record {
      tables = W;
      accepted = record { has = has; meets = meets };
      claimed = claimed;
      bases = tables_show_bases p G W (at_least_one p is) has.fits meets;
      carried = tt;
    }
shown p (inputs.Map m x a y b) bytes W claim is fits has meets claimed =
    let G : Given = given_of (inputs.Map m x a y b) in
    record {
      tables = W;
      accepted = record { has = has; meets = meets };
      claimed = claimed;
      bases = tables_show_bases p G W (at_least_one p is) has.fits meets;
      carried = tables_show_maps p G (record { map = m.now.named; y = y.now.cells; b = b.now.cells }) W (at_least_one p is) refl fits.1 has.fits meets;
    }
