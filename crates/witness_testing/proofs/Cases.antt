-- The input and the parts: a pair has no part of a map, and a map has one.
use Rattle.std.proofs.Common.{◌≡◌, ℕ, refl, sym, subst, Some, None}
use Rattle.std.specs.Prelude.{Option}
use Rattle.cube_sets.specs.Sets.{Members}
use Rattle.cube_maps.specs.CubeMaps.{Mapping}
use Rattle.witness_laws.specs.declared.law.WitnessFault.{WitnessFault}
use Rattle.witness_laws.specs.Inputs.{Given, Target}
use Rattle.witness_laws.specs.Tables.{PairTables, IsMapPart, tables_format}
use Rattle.witness_types.specs.Parts.{read}
use Rattle.witness_types.specs.declared.part.Claim.{Claim}
use Rattle.read_parts.specs.declared.parts.ReadMap.{ReadMap}
use Rattle.read_parts.specs.declared.parts.Parts.{Parts}
use Rattle.read_parts.specs.Values.{read_tables, parts_value, AreTestable}
use Rattle.witness_testing.specs.Given.{pair_given, map_given, pair_parts, map_parts}
use Rattle.witness_testing.specs.Testing.{IsTested, IsTestFault}

none_read : {p : ℕ} (G : Given) (S : PairTables) (top : ℕ) (o : Option (ReadMap p)) → IsMapPart p G None S (read (read_tables top) o) → o ≡ None
none_read G S top None h = refl
none_read G S top (Some m) h = absurd h

some_read : {p : ℕ} (G : Given) (T : Target) (S : PairTables) (top : ℕ) (o : Option (ReadMap p)) → IsMapPart p G (Some T) S (read (read_tables top) o) → o ≡ None → ⊥
some_read G T S top None h e = h
some_read {p} G T S top (Some m) h e = subst split e tt
  where
    split : Option (ReadMap p) → Type 0
    split None = ⊥
    split (Some n) = Unit {0}

module _ {p : ℕ} (G : Given) (parts : Parts p) where
  -- ---- a pair

  module _ (x a : Members) (e : G ≡ pair_given x a) where
    pub pair_alone : AreTestable G parts → parts.map ≡ None
    pair_alone t = by_pair (subst (λ (H : Given). AreTestable H parts) e t)
      where
        by_pair : AreTestable (pair_given x a) parts → parts.map ≡ None
        by_pair w = none_read (pair_given x a) (parts_value (pair_given x a) parts).domain (pair_given x a).top parts.map w.fits.map

    module _ (f : parts.map ≡ None) where
      parts_are : parts ≡ pair_parts parts.domain
      parts_are = λ i. record { domain = parts.domain; map = f i }

      pub pair_testable : AreTestable G parts → AreTestable (pair_given x a) (pair_parts parts.domain)
      pair_testable t = subst (AreTestable (pair_given x a)) parts_are (subst (λ (H : Given). AreTestable H parts) e t)

      pub pair_tested_back : (claim : Claim p) → IsTested (pair_given x a) (parts_value (pair_given x a) (pair_parts parts.domain)) claim → IsTested G (parts_value G parts) claim
      pair_tested_back claim h = subst (λ (H : Given). IsTested H (parts_value H parts) claim) (sym e) (subst (λ (q : Parts p). IsTested (pair_given x a) (parts_value (pair_given x a) q) claim) (sym parts_are) h)

      pub pair_fault_back : (fault : WitnessFault) → IsTestFault (tables_format p (pair_given x a)) (parts_value (pair_given x a) (pair_parts parts.domain)) fault → IsTestFault (tables_format p G) (parts_value G parts) fault
      pair_fault_back fault h = subst (λ (H : Given). IsTestFault (tables_format p H) (parts_value H parts) fault) (sym e)
          (subst (λ (q : Parts p). IsTestFault (tables_format p (pair_given x a)) (parts_value (pair_given x a) q) fault) (sym parts_are) h)

  -- ---- a map

  module _ (mp : Mapping) (x a y b : Members) (e : G ≡ map_given mp x a y b) where
    pub map_there : AreTestable G parts → parts.map ≡ None → ⊥
    map_there t f = by_map (subst (λ (H : Given). AreTestable H parts) e t)
      where
        by_map : AreTestable (map_given mp x a y b) parts → ⊥
        by_map w = some_read (map_given mp x a y b) (record { map = mp.named; y = y.cells; b = b.cells }) (parts_value (map_given mp x a y b) parts).domain (map_given mp x a y b).top parts.map w.fits.map f

    module _ (m : ReadMap p) (f : parts.map ≡ Some m) where
      map_parts_are : parts ≡ map_parts parts.domain m
      map_parts_are = λ i. record { domain = parts.domain; map = f i }

      pub map_testable : AreTestable G parts → AreTestable (map_given mp x a y b) (map_parts parts.domain m)
      map_testable t = subst (AreTestable (map_given mp x a y b)) map_parts_are (subst (λ (H : Given). AreTestable H parts) e t)

      pub map_tested_back : (claim : Claim p) → IsTested (map_given mp x a y b) (parts_value (map_given mp x a y b) (map_parts parts.domain m)) claim → IsTested G (parts_value G parts) claim
      map_tested_back claim h = subst (λ (H : Given). IsTested H (parts_value H parts) claim) (sym e) (subst (λ (q : Parts p). IsTested (map_given mp x a y b) (parts_value (map_given mp x a y b) q) claim) (sym map_parts_are) h)

      pub map_fault_back : (fault : WitnessFault) → IsTestFault (tables_format p (map_given mp x a y b)) (parts_value (map_given mp x a y b) (map_parts parts.domain m)) fault → IsTestFault (tables_format p G) (parts_value G parts) fault
      map_fault_back fault h = subst (λ (H : Given). IsTestFault (tables_format p H) (parts_value H parts) fault) (sym e)
          (subst (λ (q : Parts p). IsTestFault (tables_format p (map_given mp x a y b)) (parts_value (map_given mp x a y b) q) fault) (sym map_parts_are) h)
