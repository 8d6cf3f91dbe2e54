-- What stands in front of a text, and does not.
use Rattle.std.proofs.Common.{◌≡◌, ℕ, zero, suc, ◌+◌, ◌<◌, ◌≤◌, ◌^◌, refl, sym, ap, ◌∙◌, arith, ⊎_elim, List, [], ◌∷◌, ◌++◌, length, get_or, drop, append_assoc, subst, Bool, true, false, ◌||◌, eqb, eq-eqb, eqb-true, Bor}
use Rattle.std.proofs.lemmas.Bool.{false≢true, or_cases}
use Rattle.std.specs.List.{list_any}
use Rattle.std.proofs.lemmas.List.{append_cancel_left, drop_all}
use Rattle.std.specs.Prelude.{Option, Some, None, MatchOption, codes, decimal}
use Rattle.witness_laws.specs.Lines.{numeral}
use Rattle.witness_laws.proofs.Numerals.{printed}
use Rattle.witness_types.specs.Headers.{modulus_line}
use Rattle.witness_texts.specs.Fronts.{BeginsOtherwise, NamesNone}

-- in front, and more behind it
pub goes_on : (bytes a b rest later : List ℕ) → bytes ≡ a ++ rest → rest ≡ b ++ later → bytes ≡ (a ++ b) ++ later
goes_on bytes a b rest later e f = e ∙ ap (λ x. a ++ x) f ∙ sym (append_assoc a b later)

-- not in front, and so not with more behind it
pub begins_otherwise : (bytes a b : List ℕ) → BeginsOtherwise bytes a → BeginsOtherwise bytes (a ++ b)
begins_otherwise bytes a b n = λ r e. n (b ++ r) (e ∙ append_assoc a b r)

-- in front, and another text behind it
pub goes_on_otherwise : (bytes a b rest : List ℕ) → bytes ≡ a ++ rest → BeginsOtherwise rest b → BeginsOtherwise bytes (a ++ b)
goes_on_otherwise bytes a b rest e n = λ r f. n r (append_cancel_left a rest (b ++ r) (sym e ∙ f ∙ append_assoc a b r))

-- in front, and then the other, or not
pub both : (bytes a b rest : List ℕ) (r : Option (Bor (List ℕ))) → bytes ≡ a ++ rest → MatchOption r (BeginsOtherwise rest b) (λ x. rest ≡ b ++ x.now)
    → MatchOption r (BeginsOtherwise bytes (a ++ b)) (λ x. bytes ≡ (a ++ b) ++ x.now)
both bytes a b rest None e m = goes_on_otherwise bytes a b rest e m
both bytes a b rest (Some x) e m = goes_on bytes a b rest x.now e m

-- the same behind what is printed of a number
pub both_printed : (bytes digits rest : List ℕ) (n : ℕ) (r : Option (Bor (List ℕ))) → n < 2 ^ 64 → digits ≡ decimal n → bytes ≡ digits ++ rest
    → MatchOption r (BeginsOtherwise rest (codes "\n")) (λ x. rest ≡ codes "\n" ++ x.now)
    → MatchOption r (BeginsOtherwise bytes (numeral n ++ codes "\n")) (λ x. bytes ≡ (numeral n ++ codes "\n") ++ x.now)
both_printed bytes digits rest n r small is e m = both bytes (numeral n) (codes "\n") rest r (e ∙ ap (λ d. d ++ rest) (is ∙ printed n small)) m

pub none_printed : (bytes digits : List ℕ) (n : ℕ) → n < 2 ^ 64 → digits ≡ decimal n → BeginsOtherwise bytes digits → BeginsOtherwise bytes (numeral n ++ codes "\n")
none_printed bytes digits n small is f = begins_otherwise bytes (numeral n) (codes "\n") (subst (BeginsOtherwise bytes) (is ∙ printed n small) f)

-- ---- the moduli one after the other

or_second : (a b : Bool) → b ≡ true → (a || b) ≡ true
or_second true b e = refl
or_second false b e = e

listed : (ps : List ℕ) (i : ℕ) → i < length ps → list_any (λ q. eqb q (get_or ps i 0)) ps ≡ true
listed [] i l = absurd (omega arith)
listed (p ∷ ps) zero l = ap (λ b. b || list_any (λ q. eqb q p) ps) (eq-eqb p p refl)
listed (p ∷ ps) (suc i) l = or_second (eqb p (get_or ps i 0)) (list_any (λ q. eqb q (get_or ps i 0)) ps) (listed ps i (omega arith))

pub listed_at : (ps : List ℕ) (i p : ℕ) → i < length ps → p ≡ get_or ps i 0 → list_any (λ q. eqb q p) ps ≡ true
listed_at ps i p l e = subst (λ (k : ℕ). list_any (λ q. eqb q k) ps ≡ true) (sym e) (listed ps i l)

at_drop : (ps : List ℕ) (i : ℕ) → i < length ps → drop i ps ≡ get_or ps i 0 ∷ drop (suc i) ps
at_drop [] i l = absurd (omega arith)
at_drop (p ∷ ps) zero l = refl
at_drop (p ∷ ps) (suc i) l = at_drop ps i (omega arith)

one_less : (bytes : List ℕ) (p : ℕ) (ps : List ℕ) → BeginsOtherwise bytes (modulus_line p) → NamesNone bytes ps → NamesNone bytes (p ∷ ps)
one_less bytes p ps n m q h = ⊎_elim
    (λ e. subst (λ (k : ℕ). BeginsOtherwise bytes (modulus_line k)) (eqb-true p q e) n)
    (λ e. m q e)
    (or_cases (eqb p q) (list_any (λ k. eqb k q) ps) h)

pub less : (bytes ps : List ℕ) (i p : ℕ) → i < length ps → p ≡ get_or ps i 0 → BeginsOtherwise bytes (modulus_line p) → (NamesNone bytes (drop i ps) → NamesNone bytes ps)
    → NamesNone bytes (drop (i + 1) ps) → NamesNone bytes ps
less bytes ps i p l e n w m =
    let s : i + 1 ≡ suc i = omega arith in
    w (subst (NamesNone bytes) (sym (at_drop ps i l)) (one_less bytes (get_or ps i 0) (drop (suc i) ps) (subst (λ (k : ℕ). BeginsOtherwise bytes (modulus_line k)) e n)
    (subst (λ (k : ℕ). NamesNone bytes (drop k ps)) s m)))

pub none_left : (bytes ps : List ℕ) (i : ℕ) → length ps ≤ i → (NamesNone bytes (drop i ps) → NamesNone bytes ps) → NamesNone bytes ps
none_left bytes ps i l w = w (subst (NamesNone bytes) (sym (drop_all i ps l)) (λ p h. absurd (false≢true h)))
