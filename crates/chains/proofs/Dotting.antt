-- The product of two chains, by a merge of their terms
use Rattle.std.proofs.Common.{◌≡◌, ℕ, ◌+◌, ◌*◌, ◌/◌, ◌%◌, ◌^◌, ◌<◌, ◌≤◌, refl, sym, ap, ◌∙◌, arith, List, [], ◌∷◌, length, get_or, drop, eq-eqb, ne_eqb, mod-eq_of_lt}
use Rattle.std.proofs.lemmas.List.{drop_more, drop_all}
use native.Mathlib.Nat.{mul-zero}
use Rattle.field_mod.specs.Modular.{Same}
use Rattle.field_mod.proofs.Modular.{same_by, same_trans}
use Rattle.chains.specs.Terms.{coefficient, product, IsNormal, IsNormalWithin}
use Rattle.chains.proofs.TermLists.{coefficient-below, raised}

-- the sum so far, and what is left of the two lists
pub record Dotting (p s : ℕ) (a b xs ys : List (ℕ × ℕ)) : Type 0 where
  pub low : ℕ
  pub left : IsNormalWithin p low (2 ^ 32) xs
  pub right : IsNormalWithin p low (2 ^ 32) ys
  pub below : s < p
  pub sums : Same p (s + product xs ys) (product a b)

product-none : (ts : List (ℕ × ℕ)) → product ts [] ≡ 0
product-none [] = refl
product-none (t ∷ ts) = omega (arith, product-none ts)

-- a term below all generators of the other list adds nothing
product-skip : (p low high : ℕ) (u : ℕ × ℕ) (ts us : List (ℕ × ℕ)) → IsNormalWithin p low high ts → u.0 < low → product ts (u ∷ us) ≡ product ts us
product-skip p low high u [] us h l = refl
product-skip p low high u (t ∷ ts) us h l =
    let n : u.0 ≡ t.0 → ⊥ = omega (arith, h.0) in
    let e : coefficient (u ∷ us) t.0 ≡ coefficient us t.0 = rw (ne_eqb u.0 t.0 n) (omega arith) in
    let r = product-skip p (t.0 + 1) high u ts us h.3 (omega (arith, h.0)) in
    let m = ap (λ v. t.1 * v) e in
    omega arith

pub dot_start : (p s : ℕ) (a b : List (ℕ × ℕ)) → IsNormal p a → IsNormal p b → s ≡ 0 → 0 < p → Dotting p s a b (drop 0 a) (drop 0 b)
dot_start p s a b ha hb e pos = record { low = 0; left = ha; right = hb; below = omega arith; sums = same_by p 0 0 _ _ (omega arith) }

pub dot_left : (p s : ℕ) (a b : List (ℕ × ℕ)) (t u : ℕ × ℕ) (xs ys : List (ℕ × ℕ)) → Dotting p s a b (t ∷ xs) (u ∷ ys) → t.0 < u.0 → Dotting p s a b xs (u ∷ ys)
dot_left p s a b t u xs ys d l =
    let r = raised p d.low (t.0 + 1) (2 ^ 32) u ys d.right (omega arith) in
    let z = coefficient-below p (t.0 + 1) (2 ^ 32) (u ∷ ys) t.0 r (omega arith) in
    let m = ap (λ v. t.1 * v) z ∙ mul-zero t.1 in
    record { low = t.0 + 1; left = (d.left).3; right = r; below = d.below; sums = same_trans (same_by p 0 0 _ _ (omega arith)) d.sums }

pub dot_right : (p s : ℕ) (a b : List (ℕ × ℕ)) (t u : ℕ × ℕ) (xs ys : List (ℕ × ℕ)) → Dotting p s a b (t ∷ xs) (u ∷ ys) → u.0 < t.0 → Dotting p s a b (t ∷ xs) ys
dot_right p s a b t u xs ys d l =
    let r = raised p d.low (u.0 + 1) (2 ^ 32) t xs d.left (omega arith) in
    let e = product-skip p (u.0 + 1) (2 ^ 32) u (t ∷ xs) ys r (omega arith) in
    record { low = u.0 + 1; left = r; right = (d.right).3; below = d.below; sums = same_trans (same_by p 0 0 _ _ (ap (λ v. s + v + p * 0) (sym e))) d.sums }

pub dot_both : (p s m n : ℕ) (a b : List (ℕ × ℕ)) (t u : ℕ × ℕ) (xs ys : List (ℕ × ℕ)) → Dotting p s a b (t ∷ xs) (u ∷ ys) → t.0 ≡ u.0 → m ≡ (t.1 * u.1) % p → n ≡ (s + m) % p → n < p → Dotting p n a b xs ys
dot_both p s m n a b t u xs ys d e em en below =
    let right : IsNormalWithin p (t.0 + 1) (2 ^ 32) ys = rw e (d.right).3 in
    let z = coefficient-below p (t.0 + 1) (2 ^ 32) ys t.0 right (omega arith) in
    let here : coefficient (u ∷ ys) t.0 ≡ u.1 + coefficient ys t.0 = rw (eq-eqb u.0 t.0 (sym e)) (omega arith) in
    let times : t.1 * coefficient (u ∷ ys) t.0 ≡ t.1 * u.1 = ap (λ v. t.1 * v) (omega arith) in
    let skip = product-skip p (t.0 + 1) (2 ^ 32) u xs ys (d.left).3 (omega arith) in
    record {
      low = t.0 + 1;
      left = (d.left).3;
      right = right;
      below = below;
      sums = same_trans (same_by p ((t.1 * u.1) / p + (s + m) / p) 0 _ _ (omega arith)) d.sums;
    }

pub dot_end_left : (p s : ℕ) (a b xs ys : List (ℕ × ℕ)) → Dotting p s a b xs ys → xs ≡ [] → s ≡ product a b % p
dot_end_left p s a b xs ys d e = sym (mod-eq_of_lt d.below) ∙ (same_trans (same_by p 0 0 s (s + product xs ys) (rw e (omega arith))) d.sums).same

pub dot_end_right : (p s : ℕ) (a b xs ys : List (ℕ × ℕ)) → Dotting p s a b xs ys → ys ≡ [] → s ≡ product a b % p
dot_end_right p s a b xs ys d e = sym (mod-eq_of_lt d.below) ∙ (same_trans (same_by p 0 0 s (s + product xs ys) (rw e (let z = product-none xs in omega arith))) d.sums).same

-- ---- the same steps by place

pub dot_left_at : (p s : ℕ) (a b : List (ℕ × ℕ)) (i j : ℕ) → Dotting p s a b (drop i a) (drop j b) → i < length a → j < length b → (get_or a i (0, 0)).0 < (get_or b j (0, 0)).0 → Dotting p s a b (drop (i + 1) a) (drop j b)
dot_left_at p s a b i j d l k f = rw (drop_more b j (0, 0) k) (dot_left p s a b (get_or a i (0, 0)) (get_or b j (0, 0)) (drop (i + 1) a) (drop (j + 1) b) (rw (drop_more b j (0, 0) k) at (rw (drop_more a i (0, 0) l) at d)) f)

pub dot_right_at : (p s : ℕ) (a b : List (ℕ × ℕ)) (i j : ℕ) → Dotting p s a b (drop i a) (drop j b) → i < length a → j < length b → (get_or b j (0, 0)).0 < (get_or a i (0, 0)).0 → Dotting p s a b (drop i a) (drop (j + 1) b)
dot_right_at p s a b i j d l k f = rw (drop_more a i (0, 0) l) (dot_right p s a b (get_or a i (0, 0)) (get_or b j (0, 0)) (drop (i + 1) a) (drop (j + 1) b) (rw (drop_more b j (0, 0) k) at (rw (drop_more a i (0, 0) l) at d)) f)

pub dot_both_at : (p s m n : ℕ) (a b : List (ℕ × ℕ)) (i j : ℕ) → Dotting p s a b (drop i a) (drop j b) → i < length a → j < length b → (get_or a i (0, 0)).0 ≡ (get_or b j (0, 0)).0 → m ≡ ((get_or a i (0, 0)).1 * (get_or b j (0, 0)).1) % p → n ≡ (s + m) % p → n < p → Dotting p n a b (drop (i + 1) a) (drop (j + 1) b)
dot_both_at p s m n a b i j d l k e em en below = dot_both p s m n a b (get_or a i (0, 0)) (get_or b j (0, 0)) (drop (i + 1) a) (drop (j + 1) b) (rw (drop_more b j (0, 0) k) at (rw (drop_more a i (0, 0) l) at d)) e em en below

pub dot_ended : (p s : ℕ) (a b : List (ℕ × ℕ)) (i j : ℕ) → Dotting p s a b (drop i a) (drop j b) → length a ≤ i → s ≡ product a b % p
dot_ended p s a b i j d l = dot_end_left p s a b (drop i a) (drop j b) d (drop_all i a l)

pub dot_ended_right : (p s : ℕ) (a b : List (ℕ × ℕ)) (i j : ℕ) → Dotting p s a b (drop i a) (drop j b) → length b ≤ j → s ≡ product a b % p
dot_ended_right p s a b i j d l = dot_end_right p s a b (drop i a) (drop j b) d (drop_all j b l)

-- the numbers of the next terms are below p
pub dot_left_number : (p s : ℕ) (a b : List (ℕ × ℕ)) (i j : ℕ) → Dotting p s a b (drop i a) (drop j b) → i < length a → (get_or a i (0, 0)).1 < p
dot_left_number p s a b i j d l = (rw (drop_more a i (0, 0) l) at d).left.2

pub dot_right_number : (p s : ℕ) (a b : List (ℕ × ℕ)) (i j : ℕ) → Dotting p s a b (drop i a) (drop j b) → j < length b → (get_or b j (0, 0)).1 < p
dot_right_number p s a b i j d l = (rw (drop_more b j (0, 0) l) at d).right.2
