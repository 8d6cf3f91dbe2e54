-- A merge: the left terms, and c times the right ones
use Rattle.std.proofs.Common.{◌≡◌, ℕ, suc, ◌+◌, ◌*◌, ◌/◌, ◌%◌, ◌^◌, ◌<◌, ◌≤◌, refl, sym, ap, ◌∙◌, arith, List, [], ◌∷◌, length, get_or, true, false, cond, eqb, mod-eq_of_lt, mod-lt, drop, length-drop}
use Rattle.std.proofs.lemmas.List.{drop_more, drop_all}
use Rattle.field_mod.specs.Modular.{Same}
use Rattle.chains.proofs.TermLists.{low-le-high, raised, widened, coefficient-lt, coefficient-push_term, IsNormalWithin-push_term}
use Rattle.chains.specs.Terms.{coefficient, IsNormalWithin, IsNormal, push_term}
use Rattle.field_mod.proofs.Modular.{same_by, same_trans}

-- what stands in out, and what is left of two lists
pub record Merging (p c : ℕ) (a b out xs ys : List (ℕ × ℕ)) : Type 0 where
  pub low : ℕ
  pub done : IsNormalWithin p 0 low out
  pub left : IsNormalWithin p low (2 ^ 32) xs
  pub right : IsNormalWithin p low (2 ^ 32) ys
  pub sums : (g : ℕ) → Same p (coefficient out g + (coefficient xs g + c * coefficient ys g)) (coefficient a g + c * coefficient b g)

pub merge_start : (p c : ℕ) (a b : List (ℕ × ℕ)) → IsNormal p a → IsNormal p b → Merging p c a b [] a b
merge_start p c a b ha hb = record { low = 0; done = omega arith; left = ha; right = hb; sums = λ g. same_by p 0 0 _ _ (omega arith) }

-- rest has no generator up to g
after : (p low g : ℕ) (ts : List (ℕ × ℕ)) → IsNormalWithin p low (2 ^ 32) ts → g < 2 ^ 32 → ((u : ℕ × ℕ) (us : List (ℕ × ℕ)) → ts ≡ u ∷ us → g < u.0) → IsNormalWithin p (g + 1) (2 ^ 32) ts
after p low g [] h l f = omega arith
after p low g (t ∷ ts) h l f = raised p low (g + 1) (2 ^ 32) t ts h (omega (arith, f t ts refl))

pub merge_left : (p c : ℕ) (a b out : List (ℕ × ℕ)) (t : ℕ × ℕ) (xs ys : List (ℕ × ℕ)) → Merging p c a b out (t ∷ xs) ys → ((u : ℕ × ℕ) (us : List (ℕ × ℕ)) → ys ≡ u ∷ us → t.0 < u.0) → Merging p c a b (push_term out t.0 t.1) xs ys
merge_left p c a b out t xs ys m f =
    let h = m.left in
    let top = low-le-high p (t.0 + 1) (2 ^ 32) xs h.3 in
    record {
      low = t.0 + 1;
      done = IsNormalWithin-push_term p m.low t.0 t.1 out m.done h.0 h.2;
      left = h.3;
      right = after p m.low t.0 ys m.right (omega arith) f;
      sums = λ g. same_trans (same_by p 0 0 _ _ (omega (arith, coefficient-push_term out t.0 t.1 g))) (m.sums g);
    }

pub merge_right : (p c n : ℕ) (a b out : List (ℕ × ℕ)) (u : ℕ × ℕ) (xs ys : List (ℕ × ℕ)) → 0 < p → n ≡ (c * u.1) % p → Merging p c a b out xs (u ∷ ys) → ((t : ℕ × ℕ) (ts : List (ℕ × ℕ)) → xs ≡ t ∷ ts → u.0 < t.0) → Merging p c a b (push_term out u.0 n) xs ys
merge_right p c n a b out u xs ys pos e m f =
    let h = m.right in
    let top = low-le-high p (u.0 + 1) (2 ^ 32) ys h.3 in
    record {
      low = u.0 + 1;
      done = IsNormalWithin-push_term p m.low u.0 n out m.done h.0 (rw e (mod-lt (c * u.1) pos));
      left = after p m.low u.0 xs m.left (omega arith) f;
      right = h.3;
      sums = λ g. same_trans (moved p c n out u xs ys g e) (m.sums g);
    }
  where
    moved : (p c n : ℕ) (out : List (ℕ × ℕ)) (u : ℕ × ℕ) (xs ys : List (ℕ × ℕ)) (g : ℕ) → n ≡ (c * u.1) % p → Same p (coefficient (push_term out u.0 n) g + (coefficient xs g + c * coefficient ys g)) (coefficient out g + (coefficient xs g + c * coefficient (u ∷ ys) g))
    moved p c n out u xs ys g e =
        let q = coefficient-push_term out u.0 n g in
        elim (eqb u.0 g) as (λ v. coefficient (push_term out u.0 n) g ≡ coefficient out g + cond v n 0 → Same p (coefficient (push_term out u.0 n) g + (coefficient xs g + c * coefficient ys g)) (coefficient out g + (coefficient xs g + c * (cond v u.1 0 + coefficient ys g)))) [
          | true ↦ λ q. same_by p ((c * u.1) / p) 0 _ _ (omega arith)
          | false ↦ λ q. same_by p 0 0 _ _ (omega arith)
        ] q

pub merge_both : (p c n : ℕ) (a b out : List (ℕ × ℕ)) (t u : ℕ × ℕ) (xs ys : List (ℕ × ℕ)) → 0 < p → t.0 ≡ u.0 → n ≡ (t.1 + (c * u.1) % p) % p → Merging p c a b out (t ∷ xs) (u ∷ ys) → Merging p c a b (push_term out t.0 n) xs ys
merge_both p c n a b out t u xs ys pos same e m =
    let h = m.left in
    let k = m.right in
    record {
      low = t.0 + 1;
      done = IsNormalWithin-push_term p m.low t.0 n out m.done h.0 (rw e (mod-lt _ pos));
      left = h.3;
      right = rw same k.3;
      sums = λ g. same_trans (moved p c n out t u xs ys g e same) (m.sums g);
    }
  where
    moved : (p c n : ℕ) (out : List (ℕ × ℕ)) (t u : ℕ × ℕ) (xs ys : List (ℕ × ℕ)) (g : ℕ) → n ≡ (t.1 + (c * u.1) % p) % p → t.0 ≡ u.0 → Same p (coefficient (push_term out t.0 n) g + (coefficient xs g + c * coefficient ys g)) (coefficient out g + (coefficient (t ∷ xs) g + c * coefficient (u ∷ ys) g))
    moved p c n out t u xs ys g e same =
        rw (← same) (elim (eqb t.0 g) as (λ v. coefficient (push_term out t.0 n) g ≡ coefficient out g + cond v n 0 → Same p (coefficient (push_term out t.0 n) g + (coefficient xs g + c * coefficient ys g)) (coefficient out g + (cond v t.1 0 + coefficient xs g + c * (cond v u.1 0 + coefficient ys g)))) [
          | true ↦ λ q. same_by p ((c * u.1) / p + (t.1 + (c * u.1) % p) / p) 0 _ _ (omega arith)
          | false ↦ λ q. same_by p 0 0 _ _ (omega arith)
        ] (coefficient-push_term out t.0 n g))

pub merge_end : (p c : ℕ) (a b out : List (ℕ × ℕ)) → 0 < p → Merging p c a b out [] [] → IsNormal p out × ((g : ℕ) → coefficient out g ≡ (coefficient a g + c * coefficient b g) % p)
merge_end p c a b out pos m =
    let low = low-le-high p m.low (2 ^ 32) [] m.left in
    (widened p 0 m.low (2 ^ 32) out m.done low, (λ g. sym (mod-eq_of_lt (coefficient-lt p 0 m.low out g pos m.done)) ∙ (same_trans (same_by p 0 0 (coefficient out g) (coefficient out g + (0 + c * 0)) (omega arith)) (m.sums g)).same))

-- ---- the same steps by index

head_lt : (g : ℕ) (b : List (ℕ × ℕ)) (j : ℕ) → (j < length b → g < (get_or b j (0, 0)).0) → (u : ℕ × ℕ) (us : List (ℕ × ℕ)) → drop j b ≡ u ∷ us → g < u.0
head_lt g b j f u us e =
    let l : length (drop j b) ≡ suc (length us) = ap length e in
    let k : j < length b = omega (arith, length-drop j b) in
    let d = sym (drop_more b j (0, 0) k) ∙ e in
    let h : (get_or b j (0, 0)).0 ≡ u.0 = cc in
    omega (arith, f k)

pub merge_left_at : (p c : ℕ) (a b out new : List (ℕ × ℕ)) (i j : ℕ) → Merging p c a b out (drop i a) (drop j b) → i < length a → (j < length b → (get_or a i (0, 0)).0 < (get_or b j (0, 0)).0) → new ≡ push_term out (get_or a i (0, 0)).0 (get_or a i (0, 0)).1 → Merging p c a b new (drop (i + 1) a) (drop j b)
merge_left_at p c a b out new i j m l f e = rw e (merge_left p c a b out (get_or a i (0, 0)) (drop (i + 1) a) (drop j b) (rw (drop_more a i (0, 0) l) at m) (head_lt _ b j f))

pub merge_right_at : (p c n : ℕ) (a b out new : List (ℕ × ℕ)) (i j : ℕ) → 0 < p → Merging p c a b out (drop i a) (drop j b) → j < length b → (i < length a → (get_or b j (0, 0)).0 < (get_or a i (0, 0)).0) → n ≡ (c * (get_or b j (0, 0)).1) % p → new ≡ push_term out (get_or b j (0, 0)).0 n → Merging p c a b new (drop i a) (drop (j + 1) b)
merge_right_at p c n a b out new i j pos m l f k e = rw e (merge_right p c n a b out (get_or b j (0, 0)) (drop i a) (drop (j + 1) b) pos k (rw (drop_more b j (0, 0) l) at m) (head_lt _ a i f))

pub merge_both_at : (p c n q : ℕ) (a b out new : List (ℕ × ℕ)) (i j : ℕ) → 0 < p → Merging p c a b out (drop i a) (drop j b) → i < length a → j < length b → (get_or a i (0, 0)).0 ≡ (get_or b j (0, 0)).0 → q ≡ (c * (get_or b j (0, 0)).1) % p → n ≡ ((get_or a i (0, 0)).1 + q) % p → new ≡ push_term out (get_or a i (0, 0)).0 n → Merging p c a b new (drop (i + 1) a) (drop (j + 1) b)
merge_both_at p c n q a b out new i j pos m l k s r h e = rw e (merge_both p c n a b out (get_or a i (0, 0)) (get_or b j (0, 0)) (drop (i + 1) a) (drop (j + 1) b) pos s (h ∙ ap (λ v. ((get_or a i (0, 0)).1 + v) % p) r) (rw (drop_more b j (0, 0) k) at (rw (drop_more a i (0, 0) l) at m)))

pub merge_end_at : (p c : ℕ) (a b out : List (ℕ × ℕ)) (i j : ℕ) → 0 < p → Merging p c a b out (drop i a) (drop j b) → length a ≤ i → length b ≤ j → IsNormal p out × ((g : ℕ) → coefficient out g ≡ (coefficient a g + c * coefficient b g) % p)
merge_end_at p c a b out i j pos m l k = merge_end p c a b out pos (rw (drop_all j b k) at (rw (drop_all i a l) at m))

-- the number of the next term is reduced
