-- Products of lists of terms as sums over all generators.
use Rattle.std.proofs.Common.{◌≡◌, ℕ, ◌+◌, ◌*◌, ◌<◌, ◌≤◌, ◌^◌, sym, ap, ◌∙◌, arith, ⊎_elim, List, [], ◌∷◌, length, cond, eqb}
use Rattle.std.proofs.lemmas.Bool.{cases_lt, cases_eq, le-ltb}
use Rattle.field_mod.specs.Sums.{total}
use Rattle.field_mod.specs.Modular.{Same}
use Rattle.field_mod.proofs.Sums.{total-same, total-zero, total-add, total-single, total-beside}
use Rattle.chains.specs.Terms.{coefficient, product, nth_chain, IsNormal}
use Rattle.chains.specs.Homology.{IsChain}
use Rattle.chains.specs.ChainComplex.{ChainComplex, IsComplex, system}
use Rattle.chains.proofs.TermLists.{coefficient-lt}
use Rattle.algebraic_reduction.proofs.Residues.{same_zero}

-- where the second has no term from n on
pub product_total : (n : ℕ) (ts us : List (ℕ × ℕ)) → ((g : ℕ) → n ≤ g → coefficient us g ≡ 0) → product ts us ≡ total n (λ h. coefficient ts h * coefficient us h)
product_total n [] us none = sym (total-same n (λ h. 0 * coefficient us h) (λ h. 0) (λ h l. omega arith) ∙ zeros n)
  where
    zeros : (m : ℕ) → total m (λ h. 0) ≡ 0
    zeros m = total-zero m
product_total n (t ∷ ts) us none =
    let f : ℕ → ℕ = coefficient us in
    let rest = product_total n ts us none in
    let head : total n (λ h. cond (eqb t.0 h) t.1 0 * f h) ≡ t.1 * f t.0 = ⊎_elim
    (λ l. total-single n t.0 t.1 f l)
    (λ l. total-beside n t.0 t.1 f l ∙ (let e : t.1 * 0 ≡ t.1 * f t.0 = ap (λ v. t.1 * v) (sym (none t.0 l)) in let q : 0 ≡ t.1 * 0 = omega arith in q ∙ e))
    (cases_lt t.0 n) in
    let split : total n (λ h. (cond (eqb t.0 h) t.1 0 + coefficient ts h) * f h) ≡ total n (λ h. cond (eqb t.0 h) t.1 0 * f h) + total n (λ h. coefficient ts h * f h) =
    total-same n (λ h. (cond (eqb t.0 h) t.1 0 + coefficient ts h) * f h) (λ h. cond (eqb t.0 h) t.1 0 * f h + coefficient ts h * f h) (λ h l. omega arith)
    ∙ total-add n (λ h. cond (eqb t.0 h) t.1 0 * f h) (λ h. coefficient ts h * f h) in
    omega (arith, rest, head, split)

-- a chain of the complex in normal form has no term past its generators
pub none_past : (p k : ℕ) (K : ChainComplex) (ts : List (ℕ × ℕ)) → 1 ≤ p → IsNormal p ts → IsChain p (system K) k (coefficient ts) → (g : ℕ) → length K.boundaries ≤ g → coefficient ts g ≡ 0
none_past p k K ts one normal chain g l =
    let small = coefficient-lt p 0 (2 ^ 32) ts g (omega (arith, one)) normal in
    let s : Same p (coefficient ts g) 0 = chain.on g (le-ltb g (length K.boundaries) l) in
    same_zero p (coefficient ts g) small s

-- nor has the boundary of a generator
pub bounded : (p : ℕ) (K : ChainComplex) → IsComplex p K → (h : ℕ) → h < length K.boundaries → (g : ℕ) → length K.boundaries ≤ g → nth_chain K.boundaries h g ≡ 0
bounded p K cx h l g m = ⊎_elim
    (λ e. e)
    (λ n. absurd (cx.lowers h g (record { generator = l; misplaced = record { named = n; degree = λ d. let s = cx.sizes in let q = d.0 in absurd (omega (arith, s, q, m)) } })))
    (cases_eq (nth_chain K.boundaries h g) 0)
