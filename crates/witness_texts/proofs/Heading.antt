-- The first lines of a text by what stands in front of it.
use Rattle.std.proofs.Common.{◌≡◌, ◌≢◌, ℕ, zero, suc, ◌+◌, ◌<◌, refl, sym, ap, ◌∙◌, arith, List, [], ◌∷◌, ◌++◌, length, get_or, take, subst}
use Rattle.std.specs.Prelude.{codes}
use Rattle.std.specs.List.{flat_map}
use Rattle.field_mod.specs.Moduli.{IsModulus, moduli}
use Rattle.witness_laws.specs.declared.law.Law.TheVariants as laws
use Rattle.witness_laws.specs.declared.law.WitnessFault.{WitnessFault}
use Rattle.witness_laws.specs.declared.law.WitnessFault.TheVariants.{At}
use Rattle.witness_laws.specs.Lines.{numeral, lines_of, IsOneLine}
use Rattle.witness_laws.proofs.Texts.{texts_have_their_lines, feed_append, feed_numeral}
use Rattle.witness_types.specs.declared.heading.ClaimKind.{ClaimKind}
use Rattle.witness_types.specs.declared.heading.ClaimKind.TheVariants.{Pair, Map}
use Rattle.witness_types.specs.Headers.{version_line, modulus_line, kind_line, IsHeader, MayHead, IsFirstHeading, IsHeaderFault}
use Rattle.witness_texts.specs.Fronts.{BeginsWith, BeginsOtherwise, NamesNone, ClaimsNothing}

version_is : IsOneLine (version_line 1)
version_is = record { before = codes "chomp witness " ++ numeral 1; none = refl; ends = refl }

modulus_is : (p : ℕ) → IsOneLine (modulus_line p)
modulus_is p = record { before = codes "mod " ++ numeral p; none = feed_append (codes "mod ") (numeral p) refl (feed_numeral p); ends = refl }

kind_is : (kind : ClaimKind) → IsOneLine (kind_line kind)
kind_is Pair = record { before = codes "claim pair"; none = refl; ends = refl }
kind_is Map = record { before = codes "claim map"; none = refl; ends = refl }

not_empty : (n : ℕ) (t : List ℕ) → n ∷ t ≢ []
not_empty n t e = let q : suc (length t) ≡ 0 = ap length e in omega (arith, q)

some_bytes : (kind : ClaimKind) → kind_line kind ≢ []
some_bytes Pair = not_empty 99 (codes "laim pair\n")
some_bytes Map = not_empty 99 (codes "laim map\n")

-- a first line stands in front
in_front : (bytes t : List ℕ) → t ≢ [] → get_or (lines_of bytes) 0 [] ≡ t → BeginsWith bytes t
in_front bytes t f e = by (lines_of bytes) refl e
  where
    by : (ts : List (List ℕ)) → lines_of bytes ≡ ts → get_or ts 0 [] ≡ t → BeginsWith bytes t
    by [] g h = absurd (f (sym h))
    by (x ∷ xs) g h =
        let rest : List ℕ = flat_map (λ y. y) xs in
        (rest, sym (texts_have_their_lines.joined bytes) ∙ ap (flat_map (λ y. y)) g ∙ ap (λ y. y ++ rest) h)

not_first : (bytes t : List ℕ) → t ≢ [] → BeginsOtherwise bytes t → get_or (lines_of bytes) 0 [] ≡ t → ⊥
not_first bytes t f n e = let w = in_front bytes t f e in n w.0 w.1

-- the lines of these bytes
module _ (bytes : List ℕ) where
  pub no_version : BeginsOtherwise bytes (version_line 1) → IsFirstHeading (lines_of bytes) 0
  no_version n = record {
    head = omega arith;
    before = λ i l. absurd (omega arith);
    here = λ m. not_first bytes (version_line 1) (λ e. let q : 99 ≡ 0 = ap (λ t. get_or t 0 0) e in omega arith) n (m.2 ∙ ap version_line m.1);
  }

  module _ (rest : List ℕ) (e : bytes ≡ version_line 1 ++ rest) where
    first : lines_of bytes ≡ version_line 1 ∷ lines_of rest
    first = ap lines_of e ∙ texts_have_their_lines.first (version_line 1) rest version_is

    first_may : MayHead 0 (get_or (lines_of bytes) 0 [])
    first_may = (1, refl, ap (λ ts. get_or ts 0 []) first)

    pub no_modulus : NamesNone rest moduli → IsFirstHeading (lines_of bytes) 1
    no_modulus n = record {
      head = omega arith;
      before = early;
      here = λ m. not_first rest (modulus_line m.0) (λ e. let q : 109 ≡ 0 = ap (λ t. get_or t 0 0) e in omega arith) (n m.0 m.1) (sym (ap (λ ts. get_or ts 1 []) first) ∙ m.2);
    }
      where
        early : (i : ℕ) → i < 1 → MayHead i (get_or (lines_of bytes) i [])
        early zero l = first_may
        early (suc i) l = absurd (omega arith)

    module _ (p : ℕ) (known : IsModulus p) (later : List ℕ) (d : rest ≡ modulus_line p ++ later) where
      second : lines_of bytes ≡ version_line 1 ∷ modulus_line p ∷ lines_of later
      second = first ∙ ap (λ ts. version_line 1 ∷ ts) (ap lines_of d ∙ texts_have_their_lines.first (modulus_line p) later (modulus_is p))

      pub no_kind : ClaimsNothing later → IsFirstHeading (lines_of bytes) 2
      no_kind n = record {
        head = omega arith;
        before = early;
        here = λ m. not_first later (kind_line m.0) (some_bytes m.0) (n m.0) (sym (ap (λ ts. get_or ts 2 []) second) ∙ m.1);
      }
        where
          early : (i : ℕ) → i < 2 → MayHead i (get_or (lines_of bytes) i [])
          early zero l = first_may
          early (suc zero) l = (p, known, ap (λ ts. get_or ts 1 []) second)
          early (suc (suc i)) l = absurd (omega arith)

      pub is_header : (kind : ClaimKind) → BeginsWith later (kind_line kind) → IsHeader bytes (record { version = 1; modulus = p; kind = kind })
      is_header kind w = record {
        lines = ap (take 3) (second ∙ ap (λ ts. version_line 1 ∷ modulus_line p ∷ ts) (ap lines_of w.1 ∙ texts_have_their_lines.first (kind_line kind) w.0 (kind_is kind)));
        version = refl;
        modulus = known;
      }

-- ---- the fault that a line of the three tells

at_line : (bytes : List ℕ) (fault : WitnessFault) (k : ℕ) → fault ≡ At (k + 1) laws.Header → IsFirstHeading (lines_of bytes) k → IsHeaderFault bytes fault
at_line bytes fault k e f = subst (IsHeaderFault bytes) (sym e) (k, refl, refl, f)

pub fault_version : (bytes : List ℕ) (fault : WitnessFault) → fault ≡ At 1 laws.Header → BeginsOtherwise bytes (version_line 1) → IsHeaderFault bytes fault
fault_version bytes fault e n = at_line bytes fault 0 e (no_version bytes n)

pub fault_modulus : (bytes rest : List ℕ) (fault : WitnessFault) → bytes ≡ version_line 1 ++ rest → fault ≡ At 2 laws.Header → NamesNone rest moduli → IsHeaderFault bytes fault
fault_modulus bytes rest fault v e n = at_line bytes fault 1 e (no_modulus bytes rest v n)

pub fault_kind : (bytes rest later : List ℕ) (p : ℕ) (fault : WitnessFault) → bytes ≡ version_line 1 ++ rest → IsModulus p → rest ≡ modulus_line p ++ later → fault ≡ At 3 laws.Header → ClaimsNothing later
    → IsHeaderFault bytes fault
fault_kind bytes rest later p fault v known m e n = at_line bytes fault 2 e (no_kind bytes rest v p known later m n)

-- what the first three lines show
pub ruleset headings = (fault_version, fault_modulus, fault_kind, is_header)
