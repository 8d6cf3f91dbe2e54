-- The header of a witness file is read in one way.
use Rattle.std.proofs.Common.{◌≡◌, ◌≢◌, ◌⊎◌, inl, inr, ⊎_elim, ℕ, zero, suc, ◌+◌, ◌<◌, refl, sym, ap, ◌∙◌, arith, List, [], ◌∷◌, ◌++◌, length, get_or, take, subst, Bool, true, false, eqb, eqb-true, eq-eqb, ◌||◌, Result, Ok, Err}
use Rattle.std.proofs.lemmas.Bool.{cases_Bool, cases_lt, false≢true, or_cases}
use Rattle.std.proofs.lemmas.List.{append-nil}
use Rattle.std.proofs.lemmas.Slice.Eq.{bytes_eq-Decides}
use Rattle.std.specs.Prelude.{codes}
use Rattle.std.specs.List.{list_any}
use Rattle.std.specs.Str.{bytes_eq}
use Rattle.field_mod.specs.Moduli.{moduli}
use Rattle.faults.specs.declared.fault.Fault.{Fault}
use Rattle.faults.specs.declared.fault.Fault.TheVariants.{LawFails, OutOfMemory}
use Rattle.faults.specs.declared.law.Law.TheVariants as told
use Rattle.witness_laws.specs.declared.law.Law.{Law as WitnessLaw}
use Rattle.witness_laws.specs.declared.law.WitnessFault.{WitnessFault}
use Rattle.witness_laws.specs.declared.law.WitnessFault.TheVariants.{At}
use Rattle.witness_laws.specs.Lines.{numeral, lines_of}
use Rattle.witness_laws.proofs.Telling.{lines_tell_their_parts}
use Rattle.witness_types.specs.declared.heading.ClaimKind.{ClaimKind}
use Rattle.witness_types.specs.declared.heading.ClaimKind.TheVariants.{Pair, Map}
use Rattle.witness_types.specs.declared.heading.Header.{Header}
use Rattle.witness_types.specs.Headers.{version_line, modulus_line, kind_line, MayHead, IsHeaderOf, IsHeader, IsHeaderFault, IsFirstHeading}
use Rattle.loading.proofs.OfFiles.{IsPlain, IsMade}
use Rattle.replay_tool.specs.Inputs.{Headed, header_of, IsBadHead, IsHeadOf}

-- ---- lines of the three kinds

-- two texts are one, or two
alike_or_not : (s t : List ℕ) → (s ≡ t) ⊎ (s ≢ t)
alike_or_not s t = ⊎_elim
    (λ e. inl ((bytes_eq-Decides s t).0 e))
    (λ e. inr (λ f. false≢true (sym e ∙ (bytes_eq-Decides s t).1 f)))
    (cases_Bool (bytes_eq s t))

kinds_differ : kind_line Pair ≢ kind_line Map
kinds_differ e = let q : 112 ≡ 109 = ap (λ t. get_or t 6 0) e in omega (arith, q)

one_kind : (k l : ClaimKind) → kind_line k ≡ kind_line l → k ≡ l
one_kind Pair Pair e = refl
one_kind Pair Map e = absurd (kinds_differ e)
one_kind Map Pair e = absurd (kinds_differ (sym e))
one_kind Map Map e = refl

pub same_kind : (k l : ClaimKind) → (k ≡ l) ⊎ (k ≢ l)
same_kind Pair Pair = inl refl
same_kind Pair Map = inr (λ e. kinds_differ (ap kind_line e))
same_kind Map Pair = inr (λ e. kinds_differ (sym (ap kind_line e)))
same_kind Map Map = inl refl

as_numbers : (p : ℕ) → codes "mod " ++ ((numeral p ++ []) ++ codes "\n") ≡ modulus_line p
as_numbers p = ap (λ x. codes "mod " ++ (x ++ codes "\n")) (append-nil (numeral p))

one_modulus : (p q : ℕ) → modulus_line p ≡ modulus_line q → p ≡ q
one_modulus p q e = ap (λ ns. get_or ns 0 0) (lines_tell_their_parts.numbers (codes "mod") (p ∷ []) (q ∷ []) (as_numbers p ∙ e ∙ sym (as_numbers q)))

-- the modulus of the line, among these
abbrev NamesOne : List ℕ → List ℕ → Type 0
NamesOne ps t = (p : ℕ) × (list_any (λ q. eqb q p) ps ≡ true) × (t ≡ modulus_line p)

or_first : (a b : Bool) → a ≡ true → (a || b) ≡ true
or_first a b e = ap (λ x. x || b) e

or_second : (a b : Bool) → b ≡ true → (a || b) ≡ true
or_second true b e = refl
or_second false b e = e

names_or_not : (ps t : List ℕ) → NamesOne ps t ⊎ (NamesOne ps t → ⊥)
names_or_not [] t = inr (λ w. false≢true w.1)
names_or_not (p ∷ ps) t = ⊎_elim
    (λ e. inl (p, or_first (eqb p p) (list_any (λ q. eqb q p) ps) (eq-eqb p p refl), e))
    (λ f. ⊎_elim
    (λ w. inl (w.0, or_second (eqb p w.0) (list_any (λ q. eqb q w.0) ps) w.1, w.2))
    (λ n. inr (λ w. ⊎_elim
    (λ e. f (w.2 ∙ ap modulus_line (sym (eqb-true p w.0 e))))
    (λ e. n (w.0, e, w.2))
    (or_cases (eqb p w.0) (list_any (λ q. eqb q w.0) ps) w.1)))
    (names_or_not ps t))
    (alike_or_not t (modulus_line p))

-- ---- the three lines

module _ (ts : List (List ℕ)) where
  abbrev line : ℕ → List ℕ
  line k = get_or ts k []

  abbrev May : ℕ → Type 0
  May k = MayHead k (line k)

  version_or_not : May 0 ⊎ (May 0 → ⊥)
  version_or_not = ⊎_elim
      (λ e. inl (1, refl, e))
      (λ f. inr (λ w. f (w.2 ∙ ap version_line w.1)))
      (alike_or_not (line 0) (version_line 1))

  modulus_or_not : May 1 ⊎ (May 1 → ⊥)
  modulus_or_not = names_or_not moduli (line 1)

  kind_or_not : May 2 ⊎ (May 2 → ⊥)
  kind_or_not = ⊎_elim
      (λ e. inl (Pair, e))
      (λ f. ⊎_elim (λ e. inl (Map, e)) (λ g. inr (none f g)) (alike_or_not (line 2) (kind_line Map)))
      (alike_or_not (line 2) (kind_line Pair))
    where
      by : line 2 ≢ kind_line Pair → line 2 ≢ kind_line Map → (kind : ClaimKind) → line 2 ≡ kind_line kind → ⊥
      by f g Pair e = f e
      by f g Map e = g e

      none : line 2 ≢ kind_line Pair → line 2 ≢ kind_line Map → May 2 → ⊥
      none f g w = by f g w.0 w.1

-- the first three of the lines, where none is empty
three : (ts : List (List ℕ)) (a b c : List ℕ) → a ≢ [] → b ≢ [] → c ≢ [] → get_or ts 0 [] ≡ a → get_or ts 1 [] ≡ b → get_or ts 2 [] ≡ c → take 3 ts ≡ a ∷ b ∷ c ∷ []
three [] a b c f g h d e i = absurd (f (sym d))
three (x ∷ []) a b c f g h d e i = absurd (g (sym e))
three (x ∷ y ∷ []) a b c f g h d e i = absurd (h (sym i))
three (x ∷ y ∷ z ∷ ts) a b c f g h d e i = ap (λ v. v ∷ y ∷ z ∷ []) d ∙ ap (λ v. a ∷ v ∷ z ∷ []) e ∙ ap (λ v. a ∷ b ∷ v ∷ []) i

first_of : (ts : List (List ℕ)) → get_or (take 3 ts) 0 [] ≡ get_or ts 0 []
first_of [] = refl
first_of (x ∷ ts) = refl

second_of : (ts : List (List ℕ)) → get_or (take 3 ts) 1 [] ≡ get_or ts 1 []
second_of [] = refl
second_of (x ∷ []) = refl
second_of (x ∷ y ∷ ts) = refl

third_of : (ts : List (List ℕ)) → get_or (take 3 ts) 2 [] ≡ get_or ts 2 []
third_of [] = refl
third_of (x ∷ []) = refl
third_of (x ∷ y ∷ []) = refl
third_of (x ∷ y ∷ z ∷ ts) = refl

not_empty : (n : ℕ) (t : List ℕ) → n ∷ t ≢ []
not_empty n t e = let q : suc (length t) ≡ 0 = ap length e in omega (arith, q)

some_kind : (kind : ClaimKind) → kind_line kind ≢ []
some_kind Pair = not_empty 99 (codes "laim pair\n")
some_kind Map = not_empty 99 (codes "laim map\n")

module _ (ts : List (List ℕ)) where
  from_lines : May ts 0 → (m : May ts 1) (k : May ts 2) → IsHeaderOf ts (header_of k.0 m.0)
  from_lines v m k = record {
    lines = three ts (version_line 1) (modulus_line m.0) (kind_line k.0)
        (not_empty 99 (codes "homp witness 1\n")) (not_empty 109 (codes "od " ++ (numeral m.0 ++ codes "\n"))) (some_kind k.0)
        (v.2 ∙ ap version_line v.1) m.2 k.1;
    version = refl;
    modulus = m.1;
  }

  module _ (h : Header) (is : IsHeaderOf ts h) where
    pub at_modulus : get_or ts 1 [] ≡ modulus_line h.modulus
    at_modulus = sym (second_of ts) ∙ ap (λ us. get_or us 1 []) is.lines

    pub at_kind : get_or ts 2 [] ≡ kind_line h.kind
    at_kind = sym (third_of ts) ∙ ap (λ us. get_or us 2 []) is.lines

    may_head : (k : ℕ) → k < 3 → MayHead k (get_or ts k [])
    may_head zero l = (h.version, is.version, sym (first_of ts) ∙ ap (λ us. get_or us 0 []) is.lines)
    may_head (suc zero) l = (h.modulus, is.modulus, at_modulus)
    may_head (suc (suc zero)) l = (h.kind, at_kind)
    may_head (suc (suc (suc k))) l = absurd (omega (arith, l))

    pub headed_not_refused : (k : ℕ) → IsFirstHeading ts k → ⊥
    headed_not_refused k f = f.here (may_head k f.head)

  pub one_heading : (k l : ℕ) → IsFirstHeading ts k → IsFirstHeading ts l → k ≡ l
  one_heading k l f g = ⊎_elim
      (λ q. absurd (f.here (g.before k q)))
      (λ q. ⊎_elim (λ r. absurd (g.here (f.before l r))) (λ r. omega (arith, q, r)) (cases_lt l k))
      (cases_lt k l)

  early : (j : ℕ) → May ts 0 → (1 < j → May ts 1) → j < 3 → (i : ℕ) → i < j → MayHead i (get_or ts i [])
  early j v m small zero l = v
  early j v m small (suc zero) l = m (omega (arith, l))
  early j v m small (suc (suc i)) l = absurd (omega (arith, l, small))

  pub header_or_fault : ((h : Header) × IsHeaderOf ts h) ⊎ ((k : ℕ) × IsFirstHeading ts k)
  header_or_fault = ⊎_elim
      (λ v. ⊎_elim
      (λ m. ⊎_elim
      (λ k. inl (header_of k.0 m.0, from_lines v m k))
      (λ n. inr (2, record { head = omega arith; before = early 2 v (λ l. m) (omega arith); here = n }))
      (kind_or_not ts))
      (λ n. inr (1, record { head = omega arith; before = early 1 v (λ l. absurd (omega (arith, l))) (omega arith); here = n }))
      (modulus_or_not ts))
      (λ n. inr (0, record { head = omega arith; before = λ i l. absurd (omega (arith, l)); here = n }))
      (version_or_not ts)

-- ---- the outcome of a file

module _ (name : List ℕ) (kind : ClaimKind) (bytes : List ℕ) where
  abbrev ls : List (List ℕ)
  ls = lines_of bytes

  bad : (k : ℕ) → IsFirstHeading ls k → IsHeadOf name kind bytes (Err (LawFails name (k + 1) told.Header))
  bad k f = inl (record { line = k + 1; fails = (k, refl, refl, f); is = refl })

  good : (h : Header) → IsHeader bytes h → IsHeader bytes (header_of h.kind h.modulus)
  good h is = record { lines = subst (λ (v : ℕ). take 3 ls ≡ version_line v ∷ modulus_line h.modulus ∷ kind_line h.kind ∷ []) is.version is.lines; version = refl; modulus = is.modulus }

  pub fitting : (h : Header) → IsHeader bytes h → h.kind ≡ kind → IsHeader bytes (header_of kind h.modulus)
  fitting h is e = subst (λ (k : ClaimKind). IsHeader bytes (header_of k h.modulus)) e (good h is)

  some : (o : Result Headed Fault) × IsHeadOf name kind bytes o
  some = ⊎_elim
      (λ w. ⊎_elim
      (λ e. (Ok (record { bytes = bytes; modulus = w.0.modulus }), (refl, fitting w.0 w.1 e)))
      (λ f. (Err (LawFails name 3 told.Header), inr (record { header = w.0; heads = w.1; other = f; is = refl })))
      (same_kind w.0.kind kind))
      (λ w. (Err (LawFails name (w.0 + 1) told.Header), bad w.0 w.1))
      (header_or_fault ls)

  one_of_moduli : (p q : ℕ) → IsHeader bytes (header_of kind p) → IsHeader bytes (header_of kind q) → p ≡ q
  one_of_moduli p q h k = one_modulus p q (sym (at_modulus ls (header_of kind p) h) ∙ at_modulus ls (header_of kind q) k)

  one_of_kinds : (h : Header) (p : ℕ) → IsHeader bytes h → IsHeader bytes (header_of kind p) → h.kind ≡ kind
  one_of_kinds h p is k = one_kind h.kind kind (sym (at_kind ls h is) ∙ at_kind ls (header_of kind p) k)

  never : (h : Headed) (fault : Fault) → IsHeader bytes (header_of kind h.modulus) → IsHeadOf name kind bytes (Err fault) → ⊥
  never h fault is (inl b) = headed_not_refused ls (header_of kind h.modulus) is b.fails.0 b.fails.3
  never h fault is (inr o) = o.other (one_of_kinds o.header h.modulus o.heads is)

  line_of : (b c : Fault) (h : IsBadHead name bytes b) (k : IsBadHead name bytes c) → h.line ≡ k.line
  line_of b c h k = h.fails.1 ∙ ap (λ n. n + 1) (one_heading ls h.fails.0 k.fails.0 h.fails.3 k.fails.3) ∙ sym k.fails.1

  one_fault : (b c : Fault) → IsHeadOf name kind bytes (Err b) → IsHeadOf name kind bytes (Err c) → b ≡ c
  one_fault b c (inl h) (inl k) = h.is ∙ ap (λ n. LawFails name n told.Header) (line_of b c h k) ∙ sym k.is
  one_fault b c (inl h) (inr k) = absurd (headed_not_refused ls k.header k.heads h.fails.0 h.fails.3)
  one_fault b c (inr h) (inl k) = absurd (headed_not_refused ls h.header h.heads k.fails.0 k.fails.3)
  one_fault b c (inr h) (inr k) = h.is ∙ sym k.is

  abbrev made_of : List ℕ → ℕ → Headed
  made_of b p = record { bytes = b; modulus = p }

  one : (o r : Result Headed Fault) → IsHeadOf name kind bytes o → IsHeadOf name kind bytes r → o ≡ r
  one (Ok x) (Ok y) h k = ap (λ b. Ok (made_of b x.modulus)) (h.0 ∙ sym k.0) ∙ ap (λ p. Ok (made_of y.bytes p)) (one_of_moduli x.modulus y.modulus h.1 k.1)
  one (Ok x) (Err c) h k = absurd (never x c h.1 k)
  one (Err b) (Ok y) h k = absurd (never y b k.1 h)
  one (Err b) (Err c) h k = ap (λ f. Err f) (one_fault b c h k)

  pub head_plain : (fault : Fault) → IsHeadOf name kind bytes (Err fault) → IsPlain fault
  head_plain fault (inl h) = subst IsPlain (sym h.is) tt
  head_plain fault (inr h) = subst IsPlain (sym h.is) tt

  pub head_made : IsMade (IsHeadOf name kind bytes)
  head_made = record { one = record { outcome = some.0; holds = some.1; one = one }; plain = head_plain }

  -- a line of the header that may not stand there is told, or memory ran out
  pub bad_head : (found : WitnessFault) (line : ℕ) (law : WitnessLaw) (fault : Fault) → found ≡ At line law → IsHeaderFault bytes found
      → (fault ≡ LawFails name line told.Header) ⊎ (fault ≡ OutOfMemory) → IsHeadOf name kind bytes (Err fault) ⊎ (fault ≡ OutOfMemory)
  bad_head found line law fault e f (inr m) = inr m
  bad_head found line law fault e f (inl is) =
      let h : IsHeaderFault bytes (At line law) = subst (IsHeaderFault bytes) e f in
      inl (inl (record { line = line; fails = (h.0, h.1, refl, h.3); is = is }))

  -- so is another claim
  pub other_head : (h : Header) (fault : Fault) → IsHeader bytes h → h.kind ≢ kind → (fault ≡ LawFails name 3 told.Header) ⊎ (fault ≡ OutOfMemory)
      → IsHeadOf name kind bytes (Err fault) ⊎ (fault ≡ OutOfMemory)
  other_head h fault is other (inr m) = inr m
  other_head h fault is other (inl e) = inl (inr (record { header = h; heads = is; other = other; is = e }))
