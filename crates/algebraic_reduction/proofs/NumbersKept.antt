-- Numbers at places, as entries with ascending keys: what is found at a place is the coefficient there.
use Rattle.std.proofs.Common.{◌≡◌, ◌≢◌, ℕ, ◌+◌, ◌*◌, ◌%◌, ◌<◌, ◌≤◌, refl, sym, ap, ◌∙◌, arith, ⊎_elim, List, [], ◌∷◌, ◌++◌, length, get_or, take, cond, eqb, eq-eqb, ne_eqb, subst, Option, Some, None, Less, true, false}
use Rattle.std.specs.Prelude.{unwrap_or, IfSome, IfNone}
use Rattle.std.specs.List.{AllByRecursion}
use Rattle.std.specs.List.Sorted.{IsStrictlySortedBy}
use Rattle.std.specs.Map.{lookup, keys_of}
use Rattle.std.specs.Ordering.{nat_cmp}
use Rattle.std.specs.BTreeMap.{BTreeMap, is_at, get, Updates, IsOrdered}
use Rattle.std.proofs.lemmas.Bool.{cases_eq, cases_lt}
use Rattle.std.proofs.lemmas.Bool.Decides.{nat_tests}
use Rattle.std.proofs.lemmas.List.{take_more}
use Rattle.field_mod.specs.Modular.{Same}
use Rattle.field_mod.proofs.Modular.{same_by, same_refl, same_trans, same-add, same-scale}
use Rattle.chains.specs.Terms.{coefficient, product}
use Rattle.algebraic_reduction.proofs.DueSteps.{at_same, at_other}
use Rattle.chains.proofs.TermLists.{coefficient-append}
use Rattle.algebraic_reduction.proofs.OneStep.{eqb_sym}
use Rattle.algebraic_reduction.proofs.NamedRows.{coefficient_more}
use Rattle.algebraic_reduction.proofs.Residues.{reduced}

above : (x y : ℕ) → nat_cmp x y ≡ Less → x < y
above x y e = grind (arith, nat_tests)

-- no entry with a later key is at g
later_none : (g k : ℕ) (es : List (ℕ × ℕ)) → g ≤ k → AllByRecursion (λ y. nat_cmp k y ≡ Less) (keys_of es) → coefficient es g ≡ 0
later_none g k [] l a = refl
later_none g k (e ∷ es) l a =
    let m = above k e.0 a.0 in
    let b : cond (eqb e.0 g) e.1 0 ≡ 0 = ap (λ v. cond v e.1 0) (ne_eqb e.0 g (omega arith)) in
    let r = later_none g k es l a.1 in
    omega arith

pub found : (es : List (ℕ × ℕ)) (g : ℕ) → IsStrictlySortedBy nat_cmp (keys_of es) → coefficient es g ≡ unwrap_or (lookup (is_at (nat_cmp g)) es) 0
unfolding IsStrictlySortedBy
found [] g s = refl
found (e ∷ es) g s = ⊎_elim
    (λ q.
    let here : is_at (nat_cmp g) e.0 ≡ true = ap (λ (x : ℕ). is_at (nat_cmp g) x) q ∙ at_same g in
    let none = later_none g e.0 es (omega arith) s.0 in
    let sum : e.1 + coefficient es g ≡ e.1 = omega arith in
    ap (λ v. cond v e.1 0 + coefficient es g) (eq-eqb e.0 g q) ∙ sum ∙ sym (ap (λ v. unwrap_or (cond v (Some e.1) (lookup (is_at (nat_cmp g)) es)) 0) here))
    (λ f.
    let b : cond (eqb e.0 g) e.1 0 ≡ 0 = ap (λ v. cond v e.1 0) (ne_eqb e.0 g f) in
    let sum : cond (eqb e.0 g) e.1 0 + coefficient es g ≡ coefficient es g = omega arith in
    sum ∙ found es g s.1 ∙ sym (ap (λ v. unwrap_or (cond v (Some e.1) (lookup (is_at (nat_cmp g)) es)) 0) (at_other g e.0 (λ q. f (sym q)))))
    (cases_eq e.0 g)

-- ---- one number is changed

pub read : (m : BTreeMap ℕ ℕ) (k n : ℕ) (r : Option ℕ) → IsOrdered nat_cmp m → n ≡ unwrap_or r 0 → r ≡ get nat_cmp m k → n ≡ coefficient m.entries k
read m k n r o en er = en ∙ ap (λ (v : Option ℕ). unwrap_or v 0) er ∙ sym (found m.entries k o)

pub read_below : (p : ℕ) (m : BTreeMap ℕ ℕ) (k : ℕ) → 0 < p → IsOrdered nat_cmp m → ((j x : ℕ) → get nat_cmp m j ≡ Some x → (0 < x) × (x < p)) → coefficient m.entries k < p
read_below p m k pos o h = subst (λ (v : ℕ). v < p) (sym (found m.entries k o)) (elim (get nat_cmp m k) as (λ r. get nat_cmp m k ≡ r → unwrap_or r 0 < p) [ None ↦ λ e. pos | Some x ↦ λ e. (h k x e).1 ] refl)

pub changed_here : (old new : BTreeMap ℕ ℕ) (k : ℕ) (w : Option ℕ) → IsOrdered nat_cmp new → Updates nat_cmp old new k w → coefficient new.entries k ≡ unwrap_or w 0
changed_here old new k w o u = found new.entries k o ∙ ap (λ (r : Option ℕ). unwrap_or r 0) (u.0 k) ∙ ap (λ v. unwrap_or (cond v w (get nat_cmp old k)) 0) (at_same k)

pub changed_other : (old new : BTreeMap ℕ ℕ) (k j : ℕ) (w : Option ℕ) → IsOrdered nat_cmp old → IsOrdered nat_cmp new → Updates nat_cmp old new k w → j ≢ k → coefficient new.entries j ≡ coefficient old.entries j
changed_other old new k j w o o' u f = found new.entries j o' ∙ ap (λ (r : Option ℕ). unwrap_or r 0) (u.0 j) ∙ ap (λ v. unwrap_or (cond v w (get nat_cmp old j)) 0) (at_other k j (λ q. f (sym q))) ∙ sym (found old.entries j o)

-- the numbers that are kept keep their range
pub changed_numbers : (p : ℕ) (old new : BTreeMap ℕ ℕ) (k : ℕ) (w : Option ℕ) → Updates nat_cmp old new k w → ((x : ℕ) → w ≡ Some x → (0 < x) × (x < p)) → ((j x : ℕ) → get nat_cmp old j ≡ Some x → (0 < x) × (x < p)) → (j x : ℕ) → get nat_cmp new j ≡ Some x → (0 < x) × (x < p)
changed_numbers p old new k w u hw h j x e = ⊎_elim
    (λ q. hw x (sym (u.0 j ∙ ap (λ v. cond v w (get nat_cmp old j)) (ap (λ (i : ℕ). is_at (nat_cmp k) i) q ∙ at_same k)) ∙ e))
    (λ f. h j x (sym (u.0 j ∙ ap (λ v. cond v w (get nat_cmp old j)) (at_other k j (λ q. f (sym q)))) ∙ e))
    (cases_eq j k)

pub no_number : (p x : ℕ) → None ≡ Some x → (0 < x) × (x < p)
no_number p x e = absurd (clash e)
  where
    clash : None ≡ Some x → ⊥
    clash q = cc

pub one_number : (p n x : ℕ) → 0 < n → n < p → Some n ≡ Some x → (0 < x) × (x < p)
one_number p n x pos l e = let q : n ≡ x = ap (λ (r : Option ℕ). unwrap_or r 0) e in ((omega arith), (omega arith))

-- a number is added to that at k
pub added : (p k n w : ℕ) (old new : List (ℕ × ℕ)) → w ≡ (coefficient old k + n) % p → coefficient new k ≡ w → ((j : ℕ) → j ≢ k → coefficient new j ≡ coefficient old j) → (j : ℕ) → Same p (coefficient new j) (coefficient old j + cond (eqb j k) n 0)
added p k n w old new ew here others j = ⊎_elim
    (λ q. rw (eq-eqb j k q) (subst (λ (x : ℕ). Same p (coefficient new x) (coefficient old x + n)) (sym q) (reduced p _ _ (here ∙ ew))))
    (λ f. rw (ne_eqb j k f) (same_by p 0 0 _ _ (let c = others j f in omega arith)))
    (cases_eq j k)

-- ---- the first is taken out

pub some_weaker : {T : Type 0} (r : Option T) (A B : T → Type 0) → ((t : T) → A t → B t) → IfSome r A → IfSome r B
some_weaker r A B f h = elim r as (λ o. IfSome o A → IfSome o B) [ None ↦ λ u. u | Some t ↦ λ u. f t u ] h

first_split : (new : List (ℕ × ℕ)) (t : ℕ × ℕ) → IsStrictlySortedBy nat_cmp (keys_of (t ∷ new)) → (t.1 ≡ coefficient (t ∷ new) t.0) × ((j : ℕ) → j ≢ t.0 → coefficient new j ≡ coefficient (t ∷ new) j) × ((j : ℕ) → coefficient new j ≢ 0 → t.0 < j)
unfolding IsStrictlySortedBy
first_split new t s = (
  (let none = later_none t.0 t.0 new (omega arith) s.0 in rw (eq-eqb t.0 t.0 refl) (omega arith)),
  (λ j f. let b : cond (eqb t.0 j) t.1 0 ≡ 0 = ap (λ v. cond v t.1 0) (ne_eqb t.0 j (λ q. f (sym q))) in omega arith),
  (λ j z. ⊎_elim (λ l. l) (λ l. absurd (z (later_none j t.0 new l s.0))) (cases_lt t.0 j)),
)

pub first_taken : (old new : List (ℕ × ℕ)) (t : ℕ × ℕ) → IsStrictlySortedBy nat_cmp (keys_of old) → old ≡ t ∷ new → (t.1 ≡ coefficient old t.0) × ((j : ℕ) → j ≢ t.0 → coefficient new j ≡ coefficient old j) × ((j : ℕ) → coefficient new j ≢ 0 → t.0 < j)
first_taken old new t s e = subst (λ (es : List (ℕ × ℕ)). (t.1 ≡ coefficient es t.0) × ((j : ℕ) → j ≢ t.0 → coefficient new j ≡ coefficient es j) × ((j : ℕ) → coefficient new j ≢ 0 → t.0 < j)) (sym e) (first_split new t (subst (λ (es : List (ℕ × ℕ)). IsStrictlySortedBy nat_cmp (keys_of es)) e s))

-- the numbers that are left keep their range
pub popped_numbers : (p : ℕ) (r : Option (ℕ × ℕ)) (old new : BTreeMap ℕ ℕ) → IfSome r (λ t. Updates nat_cmp old new t.0 None) → IfNone r (new.entries ≡ old.entries) → ((j x : ℕ) → get nat_cmp old j ≡ Some x → (0 < x) × (x < p)) → (j x : ℕ) → get nat_cmp new j ≡ Some x → (0 < x) × (x < p)
popped_numbers p r old new u n h = elim r as (λ o. IfSome o (λ t. Updates nat_cmp old new t.0 None) → IfNone o (new.entries ≡ old.entries) → (j x : ℕ) → get nat_cmp new j ≡ Some x → (0 < x) × (x < p)) [
  | None ↦ λ a b j x e. h j x (ap (λ (es : List (ℕ × ℕ)). lookup (is_at (nat_cmp j)) es) (sym b) ∙ e)
  | Some t ↦ λ a b. changed_numbers p old new t.0 None a (λ x e. no_number p x e) h
] u n

-- one more first is taken out of the rest and appended
pub taken_more : (p : ℕ) (terms terms' rest rest' : List (ℕ × ℕ)) (t : ℕ × ℕ) (x : ℕ → ℕ) → t.1 ≡ coefficient rest t.0 → ((j : ℕ) → j ≢ t.0 → coefficient rest' j ≡ coefficient rest j) → ((j : ℕ) → coefficient rest' j ≢ 0 → t.0 < j) → terms' ≡ terms ++ t ∷ [] → ((j : ℕ) → Same p (coefficient terms j + coefficient rest j) (x j)) → (j : ℕ) → Same p (coefficient terms' j + coefficient rest' j) (x j)
taken_more p terms terms' rest rest' t x en eo el et h j =
    let a : coefficient terms' j ≡ coefficient terms j + (cond (eqb t.0 j) t.1 0 + 0) = ap (λ (es : List (ℕ × ℕ)). coefficient es j) et ∙ coefficient-append terms (t ∷ []) j in
    let s : coefficient terms' j + coefficient rest' j ≡ coefficient terms j + coefficient rest j = ⊎_elim
    (λ e.
    let b : cond (eqb t.0 j) t.1 0 ≡ t.1 = ap (λ v. cond v t.1 0) (eq-eqb t.0 j (sym e)) in
    let z : coefficient rest' j ≡ 0 = ⊎_elim (λ q. q) (λ nz. absurd (let l = el j nz in omega arith)) (cases_eq (coefficient rest' j) 0) in
    let q : coefficient rest j ≡ coefficient rest t.0 = ap (λ (i : ℕ). coefficient rest i) e in
    omega arith)
    (λ f.
    let b : cond (eqb t.0 j) t.1 0 ≡ 0 = ap (λ v. cond v t.1 0) (ne_eqb t.0 j (λ q. f (sym q))) in
    let q = eo j f in
    omega arith)
    (cases_eq j t.0) in
    same_trans (same_by p 0 0 _ _ (ap (λ v. v + p * 0) s)) (h j)

-- ---- the terms of a chain, one by one

pub filled_more : (p : ℕ) (ts old new : List (ℕ × ℕ)) (k : ℕ) (t : ℕ × ℕ) → k < length ts → t ≡ get_or ts k (0, 0) → ((j : ℕ) → Same p (coefficient old j) (coefficient (take k ts) j)) → ((j : ℕ) → Same p (coefficient new j) (coefficient old j + cond (eqb j t.0) t.1 0)) → (j : ℕ) → Same p (coefficient new j) (coefficient (take (k + 1) ts) j)
filled_more p ts old new k t l et h n j =
    let u = get_or ts k (0, 0) in
    let m = subst (λ (v : ℕ × ℕ). Same p (coefficient new j) (coefficient old j + cond (eqb j v.0) v.1 0)) et (n j) in
    let e = coefficient_more ts k j l in
    let q : cond (eqb j u.0) u.1 0 ≡ cond (eqb u.0 j) u.1 0 = ap (λ v. cond v u.1 0) (eqb_sym j u.0) in
    same_trans m (same_trans (same-add (h j) (same_refl p (cond (eqb j u.0) u.1 0))) (same_by p 0 0 _ _ (omega arith)))

-- ---- the product with a chain

product-append : (ts us : List (ℕ × ℕ)) (t : ℕ × ℕ) → product (ts ++ t ∷ []) us ≡ product ts us + t.1 * coefficient us t.0
product-append [] us t = omega arith
product-append (s ∷ ts) us t = let e = product-append ts us t in omega arith

pub product_more : (p sum sum' m n k : ℕ) (ts us : List (ℕ × ℕ)) (t : ℕ × ℕ) → k < length ts → t ≡ get_or ts k (0, 0) → n ≡ coefficient us t.0 → m ≡ (t.1 * n) % p → sum' ≡ (sum + m) % p → Same p sum (product (take k ts) us) → Same p sum' (product (take (k + 1) ts) us)
product_more p sum sum' m n k ts us t l et en em es h =
    let u = get_or ts k (0, 0) in
    let e = ap (λ (xs : List (ℕ × ℕ)). product xs us) (take_more ts k (0, 0) l) ∙ product-append (take k ts) us u in
    let m1 : Same p m (t.1 * coefficient us t.0) = same_trans (reduced p _ _ em) (same-scale t.1 (same_by p 0 0 n (coefficient us t.0) (ap (λ v. v + p * 0) en))) in
    let m2 = subst (λ (v : ℕ × ℕ). Same p m (v.1 * coefficient us v.0)) et m1 in
    same_trans (reduced p _ _ es) (same_trans (same-add h m2) (same_by p 0 0 _ _ (ap (λ v. v + p * 0) (sym e))))

-- ---- the same, going over the numbers

product-none : (ts : List (ℕ × ℕ)) → product ts [] ≡ 0
product-none [] = refl
product-none (t ∷ ts) = let e = product-none ts in omega arith

product-more : (us ts : List (ℕ × ℕ)) (t : ℕ × ℕ) → product us (t ∷ ts) ≡ t.1 * coefficient us t.0 + product us ts
product-more [] ts t = omega arith
product-more (u ∷ us) ts t =
    let e = product-more us ts t in
    let b : u.1 * cond (eqb t.0 u.0) t.1 0 ≡ t.1 * cond (eqb u.0 t.0) u.1 0 = ap (λ v. u.1 * cond v t.1 0) (eqb_sym t.0 u.0) ∙ elim (eqb u.0 t.0) as (λ v. u.1 * cond v t.1 0 ≡ t.1 * cond v u.1 0) [ true ↦ omega arith | false ↦ omega arith ] in
    omega arith

-- the product of two chains, the other way round
pub product-turned : (ts us : List (ℕ × ℕ)) → product ts us ≡ product us ts
product-turned [] us = sym (product-none us)
product-turned (t ∷ ts) us = let e = product-turned ts us in let m = product-more us ts t in omega arith

pub left_more : (p sum sum' m n : ℕ) (rest rest' us all : List (ℕ × ℕ)) (t : ℕ × ℕ) → rest ≡ t ∷ rest' → n ≡ coefficient us t.0 → m ≡ (n * t.1) % p → sum' ≡ (sum + m) % p → Same p (sum + product rest us) (product all us) → Same p (sum' + product rest' us) (product all us)
left_more p sum sum' m n rest rest' us all t er en em es h =
    let e : product rest us ≡ t.1 * coefficient us t.0 + product rest' us = ap (λ (xs : List (ℕ × ℕ)). product xs us) er in
    let q : n * t.1 ≡ coefficient us t.0 * t.1 = ap (λ v. v * t.1) en in
    let s1 : Same p sum' (sum + n * t.1) = same_trans (reduced p _ _ es) (same-add (same_refl p sum) (reduced p _ _ em)) in
    same_trans (same-add s1 (same_refl p (product rest' us))) (same_trans (same_by p 0 0 _ _ (omega arith)) h)

pub left_none : (p sum : ℕ) (rest us all : List (ℕ × ℕ)) → rest ≡ [] → Same p (sum + product rest us) (product all us) → Same p sum (product us all)
left_none p sum rest us all er h =
    let e : product rest us ≡ 0 = ap (λ (xs : List (ℕ × ℕ)). product xs us) er in
    same_trans (same_by p 0 0 _ _ (omega arith)) (same_trans h (same_by p 0 0 _ _ (ap (λ v. v + p * 0) (product-turned all us))))
