-- Texts of the first terms of a chain and of the first entries of a row, as they grow.
use Rattle.std.proofs.Common.{◌≡◌, ℕ, zero, suc, ◌+◌, ◌<◌, sym, ap, ◌∙◌, arith, List, [], ◌∷◌, ◌++◌, length, get_or, take, append_assoc}
use Rattle.std.proofs.lemmas.List.{append-nil}
use Rattle.std.specs.Prelude.{codes}
use Rattle.witness_laws.specs.Lines.{each, numeral, numbers_text, chain_text}

abbrev term_text : ℕ × ℕ → List ℕ
term_text t = codes " " ++ numeral t.1 ++ codes "*" ++ numeral t.0

chain_more : (ts : List (ℕ × ℕ)) (i : ℕ) → i < length ts → chain_text (take (suc i) ts) ≡ chain_text (take i ts) ++ term_text (get_or ts i (0, 0))
chain_more [] i l = absurd (omega arith)
chain_more (t ∷ ts) zero l = append-nil (term_text t)
chain_more (t ∷ ts) (suc i) l =
    ap (λ x. term_text t ++ x) (chain_more ts i (omega arith)) ∙ sym (append_assoc (term_text t) (chain_text (take i ts)) (term_text (get_or ts i (0, 0))))

-- one more term
pub term_added : (ts : List (ℕ × ℕ)) (i : ℕ) (number coefficient : ℕ) (start before after : List ℕ) → i < length ts → ◌≡◌ {A = ℕ × ℕ} (number, coefficient) (get_or ts i (0, 0))
    → after ≡ before ++ term_text (number, coefficient) → before ≡ start ++ chain_text (take i ts) → after ≡ start ++ chain_text (take (i + 1) ts)
term_added ts i number coefficient start before after l e a b =
    let s : i + 1 ≡ suc i = omega arith in
    let t : List ℕ = term_text (get_or ts i (0, 0)) in
    a ∙ ap (λ (q : ℕ × ℕ). before ++ term_text q) e ∙ ap (λ x. x ++ t) b ∙ append_assoc start (chain_text (take i ts)) t
    ∙ ap (λ x. start ++ x) (sym (chain_more ts i l)) ∙ ap (λ (k : ℕ). start ++ chain_text (take k ts)) (sym s)

numbers_more : (n : ℕ) (f : ℕ → ℕ) → numbers_text (each (suc n) (λ i. f i ∷ [])) ≡ numbers_text (each n (λ i. f i ∷ [])) ++ (codes " " ++ numeral (f n))
numbers_more zero f = append-nil (codes " " ++ numeral (f 0))
numbers_more (suc n) f =
    let one : List ℕ = codes " " ++ numeral (f 0) in
    ap (λ x. one ++ x) (numbers_more n (λ i. f (suc i)))
    ∙ sym (append_assoc one (numbers_text (each n (λ i. f (suc i) ∷ []))) (codes " " ++ numeral (f (suc n))))

-- one more entry
pub entry_added : (n value : ℕ) (f : ℕ → ℕ) (start before after : List ℕ) → value ≡ f n → after ≡ before ++ (codes " " ++ numeral value)
    → before ≡ start ++ numbers_text (each n (λ i. f i ∷ [])) → after ≡ start ++ numbers_text (each (n + 1) (λ i. f i ∷ []))
entry_added n value f start before after e a b =
    let s : n + 1 ≡ suc n = omega arith in
    let t : List ℕ = codes " " ++ numeral (f n) in
    a ∙ ap (λ (k : ℕ). before ++ (codes " " ++ numeral k)) e ∙ ap (λ x. x ++ t) b ∙ append_assoc start (numbers_text (each n (λ i. f i ∷ []))) t
    ∙ ap (λ x. start ++ x) (sym (numbers_more n f)) ∙ ap (λ (k : ℕ). start ++ numbers_text (each k (λ i. f i ∷ []))) (sym s)
