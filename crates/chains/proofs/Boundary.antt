-- The boundary of a list of terms, term by term
use Rattle.std.proofs.Common.{◌≡◌, ℕ, ◌+◌, ◌*◌, ◌/◌, ◌%◌, ◌<◌, ◌≤◌, sym, ap, ◌∙◌, arith, ⊎_elim, List, [], ◌∷◌, ◌++◌, length, get_or, take, true, false, cond, eqb, add-zero, subst}
use native.Mathlib.Nat.{zero-mul, mul-zero}
use Rattle.std.proofs.lemmas.Bool.{cases_lt}
use Rattle.std.proofs.lemmas.List.{get_or_past, take_more, take_all, get_or_default}
use Rattle.field_mod.specs.Sums.{total}
use Rattle.field_mod.specs.Modular.{Same}
use Rattle.chains.specs.Terms.{coefficient, product, IsNormalWithin}
use Rattle.chains.specs.ChainComplex.{incidence, boundary}
use Rattle.field_mod.proofs.Sums.{total-same, total-zero, total-add, total-single, total-beside}
use Rattle.field_mod.proofs.Modular.{same_by, same_refl, same_trans, same-add}
use Rattle.chains.proofs.TermLists.{coefficient-append, low-le-high}

boundary-append : (bs : List (List (ℕ × ℕ))) (ts us : List (ℕ × ℕ)) (g : ℕ) → boundary bs (coefficient (ts ++ us)) g ≡ boundary bs (coefficient ts) g + boundary bs (coefficient us) g
boundary-append bs ts us g =
    total-same (length bs) (λ h. coefficient (ts ++ us) h * incidence bs h g) (λ h. coefficient ts h * incidence bs h g + coefficient us h * incidence bs h g) (λ h l. let e = ap (λ n. n * incidence bs h g) (coefficient-append ts us h) in omega arith)
    ∙ total-add (length bs) (λ h. coefficient ts h * incidence bs h g) (λ h. coefficient us h * incidence bs h g)

boundary-one : (bs : List (List (ℕ × ℕ))) (t : ℕ × ℕ) (g : ℕ) → boundary bs (coefficient (t ∷ [])) g ≡ t.1 * incidence bs t.0 g
boundary-one bs t g =
    let e : boundary bs (coefficient (t ∷ [])) g ≡ total (length bs) (λ h. cond (eqb t.0 h) t.1 0 * incidence bs h g) = total-same (length bs) (λ h. (cond (eqb t.0 h) t.1 0 + 0) * incidence bs h g) (λ h. cond (eqb t.0 h) t.1 0 * incidence bs h g) (λ h l. ap (λ n. n * incidence bs h g) (add-zero _)) in
    ⊎_elim
    (λ l. e ∙ total-single (length bs) t.0 t.1 (λ h. incidence bs h g) l)
    (λ l. let z : incidence bs t.0 g ≡ 0 = ap (λ ts. coefficient ts g) (get_or_past bs t.0 [] l) in
    e ∙ total-beside (length bs) t.0 t.1 (λ h. incidence bs h g) l ∙ sym (ap (λ n. t.1 * n) z ∙ mul-zero t.1))
    (cases_lt t.0 (length bs))

-- ---- the products of a chain's terms with the terms of their boundaries, collected term by term

pub products_none : (p : ℕ) (bs : List (List (ℕ × ℕ))) (ts us : List (ℕ × ℕ)) (g : ℕ) → us ≡ [] → Same p (coefficient us g) (boundary bs (coefficient (take 0 ts)) g)
products_none p bs ts us g e = rw e (same_by p 0 0 _ _ (omega (arith, total-same (length bs) (λ h. 0 * incidence bs h g) (λ h. 0) (λ h l. zero-mul _), total-zero (length bs))))

products_more : (p : ℕ) (bs : List (List (ℕ × ℕ))) (ts : List (ℕ × ℕ)) (i g s n : ℕ) → i < length ts → Same p s (boundary bs (coefficient (take i ts)) g) → Same p n (s + (get_or ts i (0, 0)).1 * incidence bs (get_or ts i (0, 0)).0 g) → Same p n (boundary bs (coefficient (take (i + 1) ts)) g)
products_more p bs ts i g s n l es en =
    let e = ap (λ xs. boundary bs (coefficient xs) g) (take_more ts i (0, 0) l) ∙ boundary-append bs (take i ts) (get_or ts i (0, 0) ∷ []) g ∙ ap (λ v. boundary bs (coefficient (take i ts)) g + v) (boundary-one bs (get_or ts i (0, 0)) g) in
    same_trans en (same_trans (same-add es (same_refl p ((get_or ts i (0, 0)).1 * incidence bs (get_or ts i (0, 0)).0 g))) (same_by p 0 0 _ _ (ap (λ v. v + p * 0) (sym e))))

-- the term t at i names the generator of the boundary b
pub products_next : (p : ℕ) (bs : List (List (ℕ × ℕ))) (ts b : List (ℕ × ℕ)) (t : ℕ × ℕ) (i g s n : ℕ) → i < length ts → t ≡ get_or ts i (0, 0) → t.0 < length bs → b ≡ get_or bs t.0 b → Same p s (boundary bs (coefficient (take i ts)) g) → Same p n (s + t.1 * coefficient b g) → Same p n (boundary bs (coefficient (take (i + 1) ts)) g)
products_next p bs ts b t i g s n l et inside eb es en =
    let q : b ≡ get_or bs t.0 [] = eb ∙ get_or_default bs t.0 b [] inside in
    let sum : Same p n (s + t.1 * incidence bs t.0 g) = subst (λ (c : List (ℕ × ℕ)). Same p n (s + t.1 * coefficient c g)) q en in
    products_more p bs ts i g s n l es (subst (λ (u : ℕ × ℕ). Same p n (s + u.1 * incidence bs u.0 g)) et sum)

-- the term t at i names no generator
pub products_skip : (p : ℕ) (bs : List (List (ℕ × ℕ))) (ts : List (ℕ × ℕ)) (t : ℕ × ℕ) (i g s n : ℕ) → i < length ts → t ≡ get_or ts i (0, 0) → length bs ≤ t.0 → Same p s (boundary bs (coefficient (take i ts)) g) → n ≡ s → Same p n (boundary bs (coefficient (take (i + 1) ts)) g)
products_skip p bs ts t i g s n l et past es en =
    let z : incidence bs t.0 g ≡ 0 = ap (λ us. coefficient us g) (get_or_past bs t.0 [] past) in
    let m = ap (λ v. t.1 * v) z ∙ mul-zero t.1 in
    let sum : Same p n (s + t.1 * incidence bs t.0 g) = same_by p 0 0 _ _ (omega arith) in
    products_more p bs ts i g s n l es (subst (λ (u : ℕ × ℕ). Same p n (s + u.1 * incidence bs u.0 g)) et sum)

-- n is the sum s of all products modulo p
pub products_end : (p : ℕ) (bs : List (List (ℕ × ℕ))) (ts : List (ℕ × ℕ)) (i g n s : ℕ) → length ts ≤ i → Same p s (boundary bs (coefficient (take i ts)) g) → n ≡ s % p → n ≡ boundary bs (coefficient ts) g % p
products_end p bs ts i g n s l h en = en ∙ h.same ∙ ap (λ xs. boundary bs (coefficient xs) g % p) (take_all i ts l)

-- ---- a multiple of a chain, term by term

pub scaled_none : (p scale h : ℕ) (old ts : List (ℕ × ℕ)) → Same p (coefficient old h) (coefficient old h + scale * coefficient (take 0 ts) h)
scaled_none p scale h old ts = same_by p 0 0 _ _ (omega arith)

pub scaled_more : (p scale i n h : ℕ) (t : ℕ × ℕ) (old now new ts : List (ℕ × ℕ)) → i < length ts → t ≡ get_or ts i (0, 0) → new ≡ now ++ (t.0, n) ∷ [] → n ≡ (scale * t.1) % p → Same p (coefficient now h) (coefficient old h + scale * coefficient (take i ts) h) → Same p (coefficient new h) (coefficient old h + scale * coefficient (take (i + 1) ts) h)
scaled_more p scale i n h t old now new ts l et e en s =
    let a : coefficient new h ≡ coefficient now h + (cond (eqb t.0 h) n 0 + 0) = ap (λ us. coefficient us h) e ∙ coefficient-append now ((t.0, n) ∷ []) h in
    let b : coefficient (take (i + 1) ts) h ≡ coefficient (take i ts) h + (cond (eqb t.0 h) t.1 0 + 0) = ap (λ us. coefficient us h) (take_more ts i (0, 0) l ∙ ap (λ (u : ℕ × ℕ). take i ts ++ u ∷ []) (sym et)) ∙ coefficient-append (take i ts) (t ∷ []) h in
    let c : Same p (cond (eqb t.0 h) n 0 + 0) (scale * (cond (eqb t.0 h) t.1 0 + 0)) = elim (eqb t.0 h) as (λ v. Same p (cond v n 0 + 0) (scale * (cond v t.1 0 + 0))) [ true ↦ same_by p ((scale * t.1) / p) 0 _ _ (omega arith) | false ↦ same_by p 0 0 _ _ (omega arith) ] in
    let d = ap (λ v. scale * v) b in
    same_trans (same_by p 0 0 _ _ (ap (λ v. v + p * 0) a)) (same_trans (same-add s c) (same_by p 0 0 _ _ (omega arith)))

pub scaled_end : (p scale i n h : ℕ) (old ts : List (ℕ × ℕ)) → length ts ≤ i → Same p n (coefficient old h + scale * coefficient (take i ts) h) → Same p n (coefficient old h + scale * coefficient ts h)
scaled_end p scale i n h old ts l s = subst (λ (xs : List (ℕ × ℕ)). Same p n (coefficient old h + scale * coefficient xs h)) (take_all i ts l) s

-- the product of two chains, as a sum over generators
pub product-total : (p low n : ℕ) (ts us : List (ℕ × ℕ)) → IsNormalWithin p low n ts → product ts us ≡ total n (λ h. coefficient ts h * coefficient us h)
product-total p low n [] us r = sym (total-same n (λ h. 0 * coefficient us h) (λ h. 0) (λ h l. zero-mul _) ∙ total-zero n)
product-total p low n (t ∷ ts) us r =
    let e = product-total p (t.0 + 1) n ts us r.3 in
    let s = total-single n t.0 t.1 (λ h. coefficient us h) (omega (arith, low-le-high p (t.0 + 1) n ts r.3)) in
    let a = total-add n (λ h. cond (eqb t.0 h) t.1 0 * coefficient us h) (λ h. coefficient ts h * coefficient us h) in
    let b = total-same n (λ h. (cond (eqb t.0 h) t.1 0 + coefficient ts h) * coefficient us h) (λ h. cond (eqb t.0 h) t.1 0 * coefficient us h + coefficient ts h * coefficient us h) (λ h l. omega arith) in
    omega arith
