-- Sorted lists of terms
use Rattle.std.proofs.Common.{◌≡◌, ℕ, zero, suc, ◌+◌, ◌^◌, ◌<◌, ◌≤◌, ◌⊎◌, inl, inr, refl, sym, ap, ◌∙◌, arith, ⊎_elim, List, [], ◌∷◌, ◌++◌, length, get_or, true, false, cond, eqb, eq-eqb, ne_eqb, eqb-true, drop, take, subst}
use Rattle.std.proofs.lemmas.List.{drop_more, take_more}
use native.Mathlib.Nat.{zero-add}
use Rattle.chains.specs.Terms.{coefficient, IsNormalWithin, IsNormal, push_term}

pub coefficient-append : (ts us : List (ℕ × ℕ)) (g : ℕ) → coefficient (ts ++ us) g ≡ coefficient ts g + coefficient us g
coefficient-append [] us g = omega arith
coefficient-append (t ∷ ts) us g = omega (arith, coefficient-append ts us g)

pub low-le-high : (p low high : ℕ) (ts : List (ℕ × ℕ)) → IsNormalWithin p low high ts → low ≤ high
low-le-high p low high [] h = h
low-le-high p low high (t ∷ ts) h = omega (arith, low-le-high p (t.0 + 1) high ts h.3, h.0)

pub lowered : (p low m high : ℕ) (ts : List (ℕ × ℕ)) → IsNormalWithin p low high ts → m ≤ low → IsNormalWithin p m high ts
lowered p low m high [] h l = omega arith
lowered p low m high (t ∷ ts) h l = ((omega (arith, h.0)), h.1, h.2, h.3)

pub raised : (p low m high : ℕ) (t : ℕ × ℕ) (ts : List (ℕ × ℕ)) → IsNormalWithin p low high (t ∷ ts) → m ≤ t.0 → IsNormalWithin p m high (t ∷ ts)
raised p low m high t ts h l = (l, h.1, h.2, h.3)

pub widened : (p low high more : ℕ) (ts : List (ℕ × ℕ)) → IsNormalWithin p low high ts → high ≤ more → IsNormalWithin p low more ts
widened p low high more [] h l = omega arith
widened p low high more (t ∷ ts) h l = (h.0, h.1, h.2, widened p (t.0 + 1) high more ts h.3 l)

pub IsNormalWithin_push : (p low high g a : ℕ) (ts : List (ℕ × ℕ)) → IsNormalWithin p low high ts → high ≤ g → 0 < a → a < p → IsNormalWithin p low (g + 1) (ts ++ (g, a) ∷ [])
IsNormalWithin_push p low high g a [] h l pos below = ((omega arith), pos, below, (omega arith))
IsNormalWithin_push p low high g a (t ∷ ts) h l pos below = (h.0, h.1, h.2, IsNormalWithin_push p (t.0 + 1) high g a ts h.3 l pos below)

-- one more term of a list that ascends so far
pub normal_more : (p i low : ℕ) (ts : List (ℕ × ℕ)) → i < length ts → low ≤ (get_or ts i (0, 0)).0
    → 0 < (get_or ts i (0, 0)).1 → (get_or ts i (0, 0)).1 < p → IsNormalWithin p 0 low (take i ts)
    → IsNormalWithin p 0 ((get_or ts i (0, 0)).0 + 1) (take (i + 1) ts)
normal_more p i low ts inside above some below h =
    let t : ℕ × ℕ = get_or ts i (0, 0) in
    subst (λ (us : List (ℕ × ℕ)). IsNormalWithin p 0 (t.0 + 1) us) (sym (take_more ts i (0, 0) inside))
    (IsNormalWithin_push p 0 low t.0 t.1 (take i ts) h above some below)

-- no term stands below the lowest place
pub coefficient-below : (p low high : ℕ) (ts : List (ℕ × ℕ)) (g : ℕ) → IsNormalWithin p low high ts → g < low → coefficient ts g ≡ 0
coefficient-below p low high [] g h l = refl
coefficient-below p low high (t ∷ ts) g h l =
    let r = coefficient-below p (t.0 + 1) high ts g h.3 (omega (arith, h.0)) in
    let n : t.0 ≡ g → ⊥ = omega (arith, h.0) in
    rw (ne_eqb t.0 g n) (omega arith)

pub coefficient-above : (p low high : ℕ) (ts : List (ℕ × ℕ)) (g : ℕ) → IsNormalWithin p low high ts → high ≤ g → coefficient ts g ≡ 0
coefficient-above p low high [] g h l = refl
coefficient-above p low high (t ∷ ts) g h l =
    let r = coefficient-above p (t.0 + 1) high ts g h.3 l in
    let n : t.0 ≡ g → ⊥ = omega (arith, low-le-high p (t.0 + 1) high ts h.3) in
    rw (ne_eqb t.0 g n) (omega arith)

pub eqb_cases : (a b : ℕ) → (a ≡ b) ⊎ (eqb a b ≡ false)
eqb_cases a b = elim (eqb a b) as (λ v. eqb a b ≡ v → (a ≡ b) ⊎ (eqb a b ≡ false)) [ true ↦ λ e. inl (eqb-true a b e) | false ↦ λ e. inr e ] refl

-- each coefficient is below p
pub coefficient-lt : (p low high : ℕ) (ts : List (ℕ × ℕ)) (g : ℕ) → 0 < p → IsNormalWithin p low high ts → coefficient ts g < p
coefficient-lt p low high [] g pos h = pos
coefficient-lt p low high (t ∷ ts) g pos h =
    ⊎_elim
    (λ e. rw (eq-eqb t.0 g e) (omega (arith, coefficient-below p (t.0 + 1) high ts g h.3 (omega arith), h.2)))
    (λ n. rw n (omega (arith, coefficient-lt p (t.0 + 1) high ts g pos h.3)))
    (eqb_cases t.0 g)

coefficient-head : (t : ℕ × ℕ) (ts : List (ℕ × ℕ)) → coefficient (t ∷ ts) t.0 ≡ t.1 + coefficient ts t.0
coefficient-head t ts = rw (eq-eqb t.0 t.0 refl)

-- two reduced lists with the same coefficients are one
pub one_list : (p low high : ℕ) (ts us : List (ℕ × ℕ)) → IsNormalWithin p low high ts → IsNormalWithin p low high us → ((g : ℕ) → coefficient ts g ≡ coefficient us g) → ts ≡ us
one_list p low high [] [] h k same = refl
one_list p low high [] (u ∷ us) h k same = let e = same u.0 in absurd (omega (arith, k.1, simp (eq-eqb u.0 u.0 refl) at e))
one_list p low high (t ∷ ts) [] h k same = let e = same t.0 in absurd (omega (arith, h.1, simp (eq-eqb t.0 t.0 refl) at e))
one_list p low high (t ∷ ts) (u ∷ us) h k same =
    let at_t = coefficient-head t ts in
    let at_u = coefficient-head u us in
    let tt_zero = coefficient-below p (t.0 + 1) high ts t.0 h.3 (omega arith) in
    let uu_zero = coefficient-below p (u.0 + 1) high us u.0 k.3 (omega arith) in
    let st = same t.0 in
    let su = same u.0 in
    let not_lt : t.0 < u.0 → ⊥ = λ l. let z = coefficient-below p u.0 high (u ∷ us) t.0 (raised p low u.0 high u us k (omega arith)) l in omega (arith, h.1) in
    let not_gt : u.0 < t.0 → ⊥ = λ l. let z = coefficient-below p t.0 high (t ∷ ts) u.0 (raised p low t.0 high t ts h (omega arith)) l in omega (arith, k.1) in
    let e0 : t.0 ≡ u.0 = by_order t.0 u.0 not_lt not_gt in
    let e1 : t.1 ≡ u.1 = ones t.0 u.0 t.1 u.1 ts us e0 at_t at_u tt_zero uu_zero st in
    let rest = one_list p (t.0 + 1) high ts us h.3 (rw e0 k.3) (λ g. later t u ts us g e0 e1 (same g)) in
    let head : t ≡ u = λ i. (e0 i, e1 i) in
    λ i. head i ∷ rest i
  where
    by_order : (a b : ℕ) → (a < b → ⊥) → (b < a → ⊥) → a ≡ b
    by_order a b h k = grind arith

    ones : (g m a b : ℕ) (ts us : List (ℕ × ℕ)) → g ≡ m → coefficient ((g, a) ∷ ts) g ≡ a + coefficient ts g → coefficient ((m, b) ∷ us) m ≡ b + coefficient us m → coefficient ts g ≡ 0 → coefficient us m ≡ 0 → coefficient ((g, a) ∷ ts) g ≡ coefficient ((m, b) ∷ us) g → a ≡ b
    ones g m a b ts us e x y z w s = let v = ap (λ n. coefficient ((m, b) ∷ us) n) e in omega arith

    later : (t u : ℕ × ℕ) (ts us : List (ℕ × ℕ)) (g : ℕ) → t.0 ≡ u.0 → t.1 ≡ u.1 → coefficient (t ∷ ts) g ≡ coefficient (u ∷ us) g → coefficient ts g ≡ coefficient us g
    later t u ts us g e f s = let v : cond (eqb t.0 g) t.1 0 ≡ cond (eqb u.0 g) u.1 0 = rw (e, f) in omega arith

-- ---- one more term at the end

pub coefficient-push_term : (out : List (ℕ × ℕ)) (g n h : ℕ) → coefficient (push_term out g n) h ≡ coefficient out h + cond (eqb g h) n 0
coefficient-push_term out g zero h = elim (eqb g h) as (λ v. coefficient out h ≡ coefficient out h + cond v 0 0) [ true ↦ omega arith | false ↦ omega arith ]
coefficient-push_term out g (suc n) h = omega (arith, coefficient-append out ((g, suc n) ∷ []) h)

pub IsNormalWithin-push_term : (p low g n : ℕ) (out : List (ℕ × ℕ)) → IsNormalWithin p 0 low out → low ≤ g → n < p → IsNormalWithin p 0 (g + 1) (push_term out g n)
IsNormalWithin-push_term p low g zero out h l below = widened p 0 low (g + 1) out h (omega arith)
IsNormalWithin-push_term p low g (suc n) out h l below = IsNormalWithin_push p 0 low g (suc n) out h l (omega arith) below

-- ---- a look-up: the generator is not among the terms passed

pub record Seeking (p g : ℕ) (ts rest : List (ℕ × ℕ)) : Type 0 where
  pub low : ℕ
  pub reduced : IsNormalWithin p low (2 ^ 32) rest
  pub same : coefficient ts g ≡ coefficient rest g

pub seek_start : (p g : ℕ) (ts : List (ℕ × ℕ)) → IsNormal p ts → Seeking p g ts ts
seek_start p g ts h = record { low = 0; reduced = h; same = refl }

pub seek_next : (p g : ℕ) (ts : List (ℕ × ℕ)) (t : ℕ × ℕ) (rest : List (ℕ × ℕ)) → Seeking p g ts (t ∷ rest) → (t.0 ≡ g → ⊥) → Seeking p g ts rest
seek_next p g ts t rest s n = record { low = t.0 + 1; reduced = (s.reduced).3; same = s.same ∙ rw (ne_eqb t.0 g n) (omega arith) }

pub seek_next_at : (p g : ℕ) (ts : List (ℕ × ℕ)) (i : ℕ) → i < length ts → Seeking p g ts (drop i ts) → ((get_or ts i (0, 0)).0 ≡ g → ⊥) → Seeking p g ts (drop (i + 1) ts)
seek_next_at p g ts i l s n = seek_next p g ts (get_or ts i (0, 0)) (drop (i + 1) ts) (rw (drop_more ts i (0, 0) l) at s) n

-- ---- the term at a place

pub number_at : (p low high : ℕ) (ts : List (ℕ × ℕ)) (i : ℕ) → IsNormalWithin p low high ts → i < length ts → (get_or ts i (0, 0)).1 < p
number_at p low high [] i h l = absurd (omega arith)
number_at p low high (t ∷ ts) zero h l = h.2
number_at p low high (t ∷ ts) (suc i) h l = number_at p (t.0 + 1) high ts i h.3 (omega arith)

-- a generator that a term names has that term's number
pub named_at : (p low high : ℕ) (ts : List (ℕ × ℕ)) (i : ℕ) → IsNormalWithin p low high ts → i < length ts → (low ≤ (get_or ts i (0, 0)).0) × (0 < (get_or ts i (0, 0)).1) × (coefficient ts (get_or ts i (0, 0)).0 ≡ (get_or ts i (0, 0)).1)
named_at p low high [] i h l = absurd (omega arith)
named_at p low high (t ∷ ts) zero h l = (h.0, h.1, (omega (arith, coefficient-head t ts, coefficient-below p (t.0 + 1) high ts t.0 h.3 (omega arith))))
named_at p low high (t ∷ ts) (suc i) h l =
    let r = named_at p (t.0 + 1) high ts i h.3 (omega arith) in
    ((omega (arith, h.0, r.0)), r.1, (rw (ne_eqb t.0 (get_or ts i (0, 0)).0 (omega (arith, r.0))) (zero-add _ ∙ r.2)))

-- a term that was read from a list ts of the terms us: its number is 1 .. p - 1, and the coefficient of its generator
-- the term t at i of the list us, which is kept as ts
pub term_is : (p : ℕ) (ts us : List (ℕ × ℕ)) (i : ℕ) (t : ℕ × ℕ) → ts ≡ us → IsNormal p ts → i < length us → t ≡ get_or ts i (0, 0) → (0 < t.1) × (t.1 < p) × (coefficient us t.0 ≡ t.1)
term_is p ts us i t same h l e =
    let inside : i < length ts = subst (λ (vs : List (ℕ × ℕ)). i < length vs) (sym same) l in
    let n = named_at p 0 (2 ^ 32) ts i h inside in
    let at : (0 < (get_or ts i (0, 0)).1) × ((get_or ts i (0, 0)).1 < p) × (coefficient us (get_or ts i (0, 0)).0 ≡ (get_or ts i (0, 0)).1) = subst (λ (vs : List (ℕ × ℕ)). (0 < (get_or ts i (0, 0)).1) × ((get_or ts i (0, 0)).1 < p) × (coefficient vs (get_or ts i (0, 0)).0 ≡ (get_or ts i (0, 0)).1)) same (n.1, number_at p 0 (2 ^ 32) ts i h inside, n.2) in
    subst (λ (u : ℕ × ℕ). (0 < u.1) × (u.1 < p) × (coefficient us u.0 ≡ u.1)) (sym e) at
