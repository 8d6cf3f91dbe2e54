-- The cofaces of the cell of a slot: along each axis one at its corner and one a step down
use Rattle.std.proofs.Common.{◌≡◌, ◌≢◌, ℕ, zero, suc, ◌+◌, ◌/◌, ◌%◌, ◌^◌, ◌<◌, ◌⊎◌, inl, inr, refl, sym, ap, ◌∙◌, arith, ⊎_elim, List, [], ◌∷◌, length, get_or, cond, eqb, subst}
use Rattle.std.specs.Prelude.{ℤ, pos, negsuc, ◌+ℤ◌}
use Rattle.std.proofs.lemmas.Bool.{cases_eq}
use Rattle.std.proofs.lemmas.Int.{ints}
use Rattle.std.proofs.lemmas.List.{get_or-set_same}
use Rattle.std.proofs.lemmas.Nat.{shr-shr}
use Rattle.std.proofs.Math.Nat.{pow-succ'}
use Rattle.elem_cubes.specs.Cells.{Factor, point, interval, cell_of}
use Rattle.elem_cubes.specs.Faces.{IsFacet}
use Rattle.elem_cubes.proofs.FaceLemmas.{face_refl}
use Rattle.elem_cubes.proofs.Signs.{face_equal}
use Rattle.cell_complex.specs.FreePairs.{differing_axis}
use Rattle.word_sweeps.specs.FreeSlots.{below_corner, IsPointAlong}

-- ---- the first factor by the lowest bit

even : (l : ℤ) (ls : List ℤ) (a b : ℕ) → a % 2 ≡ 0 → a / 2 ≡ b → cell_of (l ∷ ls) a ≡ point l ∷ cell_of ls b
even l ls a b e h = λ i. cond (eqb (e i) 1) (interval l) (point l) ∷ cell_of ls (h i)

odd : (l : ℤ) (ls : List ℤ) (a b : ℕ) → a % 2 ≡ 1 → a / 2 ≡ b → cell_of (l ∷ ls) a ≡ interval l ∷ cell_of ls b
odd l ls a b e h = λ i. cond (eqb (e i) 1) (interval l) (point l) ∷ cell_of ls (h i)

pub further : (a k : ℕ) → a / 2 ^ suc k ≡ a / 2 / 2 ^ k
further a k = let e : suc k ≡ 1 + k = omega arith in ap (λ n. a / 2 ^ n) e ∙ sym (shr-shr a 1 k)

next_bit : (a k : ℕ) → (a + 2 ^ suc k) / 2 ≡ a / 2 + 2 ^ k
next_bit a k = let p = pow-succ' 2 k in omega arith

same_bit : (a k : ℕ) → (a + 2 ^ suc k) % 2 ≡ a % 2
same_bit a k = let p = pow-succ' 2 k in omega arith

-- ---- each coface is one of these

abbrev pub IsBeside : List ℤ → ℕ → List Factor → Type 0
IsBeside corner slot c =
    (k : ℕ) × (k < length corner) × IsPointAlong slot k
    × ((c ≡ cell_of corner (slot + 2 ^ k)) ⊎ (c ≡ cell_of (below_corner corner k) (slot + 2 ^ k)))

module _ (l : ℤ) (ls : List ℤ) (slot : ℕ) (qs : List Factor) where
  -- a coface along a further axis, where the first factors are alike
  behind : (f : Factor) → ((m : ℤ) (ms : List ℤ) (k : ℕ) → m ≡ l → cell_of (m ∷ ms) (slot + 2 ^ suc k) ≡ f ∷ cell_of ms (slot / 2 + 2 ^ k))
      → IsBeside ls (slot / 2) qs → IsBeside (l ∷ ls) slot (f ∷ qs)
  behind f first h = (
    suc h.0,
    (let x = h.1 in omega arith),
    ap (λ n. n % 2) (further slot h.0) ∙ h.2,
    ⊎_elim
        (λ (e : qs ≡ cell_of ls (slot / 2 + 2 ^ h.0)). inl (ap (λ (rs : List Factor). f ∷ rs) e ∙ sym (first l ls h.0 refl)))
        (λ (e : qs ≡ cell_of (below_corner ls h.0) (slot / 2 + 2 ^ h.0)). inr (ap (λ (rs : List Factor). f ∷ rs) e ∙ sym (first l (below_corner ls h.0) h.0 refl)))
        h.3,
  )

  first_even : slot % 2 ≡ 0 → (m : ℤ) (ms : List ℤ) (k : ℕ) → m ≡ l → cell_of (m ∷ ms) (slot + 2 ^ suc k) ≡ point l ∷ cell_of ms (slot / 2 + 2 ^ k)
  first_even e m ms k q = even m ms (slot + 2 ^ suc k) (slot / 2 + 2 ^ k) (same_bit slot k ∙ e) (next_bit slot k) ∙ ap (λ (x : ℤ). point x ∷ cell_of ms (slot / 2 + 2 ^ k)) q

  first_odd : slot % 2 ≡ 1 → (m : ℤ) (ms : List ℤ) (k : ℕ) → m ≡ l → cell_of (m ∷ ms) (slot + 2 ^ suc k) ≡ interval l ∷ cell_of ms (slot / 2 + 2 ^ k)
  first_odd e m ms k q = odd m ms (slot + 2 ^ suc k) (slot / 2 + 2 ^ k) (same_bit slot k ∙ e) (next_bit slot k) ∙ ap (λ (x : ℤ). interval x ∷ cell_of ms (slot / 2 + 2 ^ k)) q

  step_even : (q : Factor) → slot % 2 ≡ 0 → (IsFacet qs (cell_of ls (slot / 2)) → IsBeside ls (slot / 2) qs) → IsFacet (q ∷ qs) (point l ∷ cell_of ls (slot / 2)) → IsBeside (l ∷ ls) slot (q ∷ qs)
  step_even (point m) e rec g =
      let same : l ≡ m = g.0.0 in
      subst (λ (x : ℤ). IsBeside (l ∷ ls) slot (point x ∷ qs)) same (behind (point l) (first_even e) (rec (g.0.1, g.1)))
  step_even (interval m) e rec g =
      let rest : qs ≡ cell_of ls (slot / 2) = face_equal qs (cell_of ls (slot / 2)) g.0.1 (let d = g.1 in omega arith) in
      let one : (slot + 1) % 2 ≡ 1 = omega arith in
      let half : (slot + 1) / 2 ≡ slot / 2 = omega arith in (
        0,
        omega arith,
        omega arith,
        ⊎_elim
            (λ (x : l ≡ m). inl ((λ i. interval (sym x i) ∷ rest i) ∙ sym (odd l ls (slot + 1) (slot / 2) one half)))
            (λ (x : l ≡ m +ℤ pos 1).
            let y : m ≡ l +ℤ negsuc 0 = omega (arith, ints, x) in
            inr ((λ i. interval (y i) ∷ rest i) ∙ sym (odd (l +ℤ negsuc 0) ls (slot + 1) (slot / 2) one half)))
            g.0.0,
      )

  step_odd : (q : Factor) → slot % 2 ≡ 1 → (IsFacet qs (cell_of ls (slot / 2)) → IsBeside ls (slot / 2) qs) → IsFacet (q ∷ qs) (interval l ∷ cell_of ls (slot / 2)) → IsBeside (l ∷ ls) slot (q ∷ qs)
  step_odd (point m) e rec g = absurd g.0.0
  step_odd (interval m) e rec g =
      let same : l ≡ m = g.0.0 in
      subst (λ (x : ℤ). IsBeside (l ∷ ls) slot (interval x ∷ qs)) same (behind (interval l) (first_odd e) (rec (g.0.1, (let d = g.1 in omega arith))))

pub coface_beside : (corner : List ℤ) (slot : ℕ) (c : List Factor) → IsFacet c (cell_of corner slot) → IsBeside corner slot c
coface_beside [] slot [] f = absurd (omega (arith, f.1))
coface_beside [] slot (q ∷ qs) f = absurd f.0
coface_beside (l ∷ ls) slot [] f = absurd f.0
coface_beside (l ∷ ls) slot (q ∷ qs) f = ⊎_elim
    (λ (e : slot % 2 ≡ 0). step_even l ls slot qs q e (coface_beside ls (slot / 2) qs) (subst (IsFacet (q ∷ qs)) (even l ls slot (slot / 2) e refl) f))
    (λ n. let e : slot % 2 ≡ 1 = omega arith in step_odd l ls slot qs q e (coface_beside ls (slot / 2) qs) (subst (IsFacet (q ∷ qs)) (odd l ls slot (slot / 2) e refl) f))
    (cases_eq (slot % 2) 0)

-- ---- and these are cofaces

pub record IsCofaceAlong (a b : List Factor) (k : ℕ) : Type 0 where
  pub facet : IsFacet b a
  pub axis : differing_axis a b ≡ 1 + k

behind_point : (l : ℤ) (a b : List Factor) (k : ℕ) → IsCofaceAlong a b k → IsCofaceAlong (point l ∷ a) (point l ∷ b) (suc k)
behind_point l a b k h = record { facet = ((refl, h.facet.0), h.facet.1); axis = (let x = h.axis in omega arith) }

behind_interval : (l : ℤ) (a b : List Factor) (k : ℕ) → IsCofaceAlong a b k → IsCofaceAlong (interval l ∷ a) (interval l ∷ b) (suc k)
behind_interval l a b k h = record { facet = ((refl, h.facet.0), (let x = h.facet.1 in omega arith)); axis = (let x = h.axis in omega arith) }

pair_of : (a b c d : List Factor) (k : ℕ) → a ≡ c → b ≡ d → IsCofaceAlong c d k → IsCofaceAlong a b k
pair_of a b c d k e f h = subst (λ (x : List Factor). IsCofaceAlong x b k) (sym e) (subst (λ (y : List Factor). IsCofaceAlong c y k) (sym f) h)

pub up_coface : (corner : List ℤ) (slot k : ℕ) → k < length corner → IsPointAlong slot k → IsCofaceAlong (cell_of corner slot) (cell_of corner (slot + 2 ^ k)) k
up_coface [] slot k l p = absurd (omega arith)
up_coface (x ∷ xs) slot zero l p =
    let r = cell_of xs (slot / 2) in
    pair_of (cell_of (x ∷ xs) slot) (cell_of (x ∷ xs) (slot + 1)) (point x ∷ r) (interval x ∷ r) 0
    (even x xs slot (slot / 2) (omega arith) refl) (odd x xs (slot + 1) (slot / 2) (omega arith) (omega arith))
    (record { facet = ((inl refl, face_refl r), refl); axis = refl })
up_coface (x ∷ xs) slot (suc k) l p =
    let h = up_coface xs (slot / 2) k (omega arith) (sym (ap (λ n. n % 2) (further slot k)) ∙ p) in
    ⊎_elim
    (λ (e : slot % 2 ≡ 0). pair_of (cell_of (x ∷ xs) slot) (cell_of (x ∷ xs) (slot + 2 ^ suc k)) (point x ∷ cell_of xs (slot / 2)) (point x ∷ cell_of xs (slot / 2 + 2 ^ k)) (suc k)
    (even x xs slot (slot / 2) e refl) (even x xs (slot + 2 ^ suc k) (slot / 2 + 2 ^ k) (same_bit slot k ∙ e) (next_bit slot k))
    (behind_point x (cell_of xs (slot / 2)) (cell_of xs (slot / 2 + 2 ^ k)) k h))
    (λ n. let e : slot % 2 ≡ 1 = omega arith in
    pair_of (cell_of (x ∷ xs) slot) (cell_of (x ∷ xs) (slot + 2 ^ suc k)) (interval x ∷ cell_of xs (slot / 2)) (interval x ∷ cell_of xs (slot / 2 + 2 ^ k)) (suc k)
    (odd x xs slot (slot / 2) e refl) (odd x xs (slot + 2 ^ suc k) (slot / 2 + 2 ^ k) (same_bit slot k ∙ e) (next_bit slot k))
    (behind_interval x (cell_of xs (slot / 2)) (cell_of xs (slot / 2 + 2 ^ k)) k h))
    (cases_eq (slot % 2) 0)

pub down_coface : (corner : List ℤ) (slot k : ℕ) → k < length corner → IsPointAlong slot k → IsCofaceAlong (cell_of corner slot) (cell_of (below_corner corner k) (slot + 2 ^ k)) k
down_coface [] slot k l p = absurd (omega arith)
down_coface (x ∷ xs) slot zero l p =
    let r = cell_of xs (slot / 2) in
    let y : x ≡ (x +ℤ negsuc 0) +ℤ pos 1 = omega (arith, ints) in
    pair_of (cell_of (x ∷ xs) slot) (cell_of ((x +ℤ negsuc 0) ∷ xs) (slot + 1)) (point x ∷ r) (interval (x +ℤ negsuc 0) ∷ r) 0
    (even x xs slot (slot / 2) (omega arith) refl) (odd (x +ℤ negsuc 0) xs (slot + 1) (slot / 2) (omega arith) (omega arith))
    (record { facet = ((inr y, face_refl r), refl); axis = refl })
down_coface (x ∷ xs) slot (suc k) l p =
    let h = down_coface xs (slot / 2) k (omega arith) (sym (ap (λ n. n % 2) (further slot k)) ∙ p) in
    let ys = below_corner xs k in
    ⊎_elim
    (λ (e : slot % 2 ≡ 0). pair_of (cell_of (x ∷ xs) slot) (cell_of (x ∷ ys) (slot + 2 ^ suc k)) (point x ∷ cell_of xs (slot / 2)) (point x ∷ cell_of ys (slot / 2 + 2 ^ k)) (suc k)
    (even x xs slot (slot / 2) e refl) (even x ys (slot + 2 ^ suc k) (slot / 2 + 2 ^ k) (same_bit slot k ∙ e) (next_bit slot k))
    (behind_point x (cell_of xs (slot / 2)) (cell_of ys (slot / 2 + 2 ^ k)) k h))
    (λ n. let e : slot % 2 ≡ 1 = omega arith in
    pair_of (cell_of (x ∷ xs) slot) (cell_of (x ∷ ys) (slot + 2 ^ suc k)) (interval x ∷ cell_of xs (slot / 2)) (interval x ∷ cell_of ys (slot / 2 + 2 ^ k)) (suc k)
    (odd x xs slot (slot / 2) e refl) (odd x ys (slot + 2 ^ suc k) (slot / 2 + 2 ^ k) (same_bit slot k ∙ e) (next_bit slot k))
    (behind_interval x (cell_of xs (slot / 2)) (cell_of ys (slot / 2 + 2 ^ k)) k h))
    (cases_eq (slot % 2) 0)

-- ---- a corner is not one step down from itself

pub not_below : (corner : List ℤ) (k : ℕ) → k < length corner → below_corner corner k ≢ corner
not_below corner k l e =
    let x = get_or corner k (pos 0) in
    let h : x +ℤ negsuc 0 ≡ x = sym (get_or-set_same corner k (x +ℤ negsuc 0) (pos 0) l) ∙ ap (λ (ys : List ℤ). get_or ys k (pos 0)) e in
    omega (arith, ints, h)
