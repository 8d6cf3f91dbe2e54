-- What stands in front of a text, part by part.
use Rattle.std.proofs.Common.{◌≡◌, ℕ, zero, suc, ◌<◌, refl, sym, ap, ◌∙◌, arith, List, [], ◌∷◌, ◌++◌, length, get_or, drop, take, append_assoc, Option, Some, None, Bor}
use Rattle.std.proofs.lemmas.List.{append_cancel_left}
use Rattle.std.specs.Prelude.{codes, MatchOption}
use Rattle.witness_laws.specs.Lines.{numeral, numbers_text}
use Rattle.witness_scanning.specs.Fronts.{BeginsOtherwise}

split_numbers : (ns : List ℕ) (i : ℕ) → i < length ns → numbers_text ns ≡ numbers_text (take i ns) ++ ((codes " " ++ numeral (get_or ns i 0)) ++ numbers_text (drop (suc i) ns))
split_numbers [] i l = absurd (omega arith)
split_numbers (n ∷ ns) zero l = refl
split_numbers (n ∷ ns) (suc i) l =
    let a : List ℕ = codes " " ++ numeral n in
    ap (λ t. a ++ t) (split_numbers ns i (omega arith))
    ∙ sym (append_assoc a (numbers_text (take i ns)) ((codes " " ++ numeral (get_or ns i 0)) ++ numbers_text (drop (suc i) ns)))

pub numbers_none : (bytes ns : List ℕ) (i : ℕ) (r u : List ℕ) → i < length ns → bytes ≡ numbers_text (take i ns) ++ r → BeginsOtherwise r (codes " " ++ numeral (get_or ns i 0))
    → bytes ≡ numbers_text ns ++ u → ⊥
numbers_none bytes ns i r u l e f d =
    let a : List ℕ = numbers_text (take i ns) in
    let b : List ℕ = codes " " ++ numeral (get_or ns i 0) in
    let t : List ℕ = numbers_text (drop (suc i) ns) in
    let x : a ++ r ≡ a ++ (b ++ (t ++ u)) =
    sym e ∙ d ∙ ap (λ z. z ++ u) (split_numbers ns i l) ∙ append_assoc a (b ++ t) u ∙ ap (λ z. a ++ z) (append_assoc b t u) in
    f (t ++ u) (append_cancel_left a r (b ++ (t ++ u)) x)

-- a front behind a word that stands there
pub behind_word : (bytes word f behind : List ℕ) (r : Option (Bor (List ℕ))) → bytes ≡ word ++ behind → MatchOption r (BeginsOtherwise behind f) (λ rest. behind ≡ f ++ rest.now)
    → MatchOption r (BeginsOtherwise bytes (word ++ f)) (λ rest. bytes ≡ (word ++ f) ++ rest.now)
behind_word bytes word f behind None e h = λ rest d. h rest (append_cancel_left word behind (f ++ rest) (sym e ∙ d ∙ append_assoc word f rest))
behind_word bytes word f behind (Some x) e h = e ∙ ap (λ l. word ++ l) h ∙ sym (append_assoc word f x.now)
