-- Sums over what a test tells, and the tallies of cofaces.
use Rattle.std.proofs.Common.{◌≡◌, ◌≢◌, ℕ, zero, suc, ◌+◌, ◌-◌, ◌*◌, ◌%◌, ◌^◌, ◌<◌, ◌≤◌, refl, sym, ap, ◌∙◌, arith, ⊎_elim, List, [], ◌∷◌, ◌++◌, length, get_or, take, cond, eqb, eq-eqb, ne_eqb, Bool, true, false, ◌&&◌, subst, true≢false}
use Rattle.std.specs.Prelude.{not}
use Rattle.std.proofs.lemmas.Bool.{cases_eq, false_from_ne_true}
use Rattle.field_mod.specs.Sums.{total}
use Rattle.field_mod.specs.Modular.{Same}
use Rattle.field_mod.proofs.Modular.{same_trans, same-add, same_refl}
use Rattle.field_mod.proofs.Sums.{total-same, total-zero, total-add, total-single}
use Rattle.chains.specs.Terms.{coefficient}
use Rattle.chains.specs.ChainComplex.{ChainComplex}
use Rattle.algebraic_reduction.specs.Reduction.{Step, IsUnpaired}
use Rattle.algebraic_reduction.specs.LogWords.{IsOneMore}
use Rattle.algebraic_reduction.proofs.NamedRows.{coefficient_more, coefficient_other}
use Rattle.excision.specs.Left.{is_unpaired}
use Rattle.excision.proofs.Leaving.{test_unpaired}
use Rattle.face_reduction.specs.Cofaces.{stands_in, is_coface, weighed, count_at, sum_at, AreTallies, AddsAt, CountCofaces}

-- ---- sums over what a test tells

total-last : (m : ℕ) (f : ℕ → ℕ) → total (suc m) f ≡ total m f + f m
total-last zero f = omega arith
total-last (suc m) f = omega (arith, total-last m (λ i. f (suc i)))

none_told : (m : ℕ) (t : ℕ → Bool) (w : ℕ → ℕ) → ((j : ℕ) → j < m → t j ≡ false) → weighed m t w ≡ 0
none_told m t w h = total-same m (λ j. cond (t j) (w j) 0) (λ j. 0) (λ j l. ap (λ b. cond b (w j) 0) (h j l)) ∙ total-zero m

not_told : (b : Bool) → ◌≡◌ {A = ℕ} (cond b 1 0) 0 → b ≡ false
not_told true e = absurd (omega arith)
not_told false e = refl

told_small : (b : Bool) → cond {A = ℕ} b 1 0 ≤ 1
told_small true = omega arith
told_small false = omega arith

all_false : (m : ℕ) (t : ℕ → Bool) → weighed m t (λ j. 1) ≡ 0 → (j : ℕ) → j < m → t j ≡ false
all_false zero t e j l = absurd (omega arith)
all_false (suc m) t e zero l = not_told (t 0) (omega arith)
all_false (suc m) t e (suc j) l = all_false m (λ i. t (suc i)) (omega arith) j (omega arith)

pub weighed_within : (m : ℕ) (t : ℕ → Bool) → weighed m t (λ j. 1) ≤ m
weighed_within zero t = omega arith
weighed_within (suc m) t = omega (arith, told_small (t 0), weighed_within m (λ i. t (suc i)))

-- one number alone is told
pub record OneTold (m : ℕ) (t : ℕ → Bool) : Type 0 where
  pub at : ℕ
  pub inside : at < m
  pub told : t at ≡ true
  pub only : (j : ℕ) → j < m → t j ≡ true → j ≡ at
  pub weight : (w : ℕ → ℕ) → weighed m t w ≡ w at

first_told : (m : ℕ) (t : ℕ → Bool) → t 0 ≡ true → weighed m (λ j. t (suc j)) (λ j. 1) ≡ 0 → OneTold (suc m) t
first_told m t e z = record {
  at = 0;
  inside = omega arith;
  told = e;
  only = only;
  weight = λ w.
      let here : cond (t 0) (w 0) 0 ≡ w 0 = ap (λ b. cond b (w 0) 0) e in
      omega (arith, here, none_told m (λ j. t (suc j)) (λ j. w (suc j)) (all_false m (λ j. t (suc j)) z));
}
  where
    only : (j : ℕ) → j < suc m → t j ≡ true → j ≡ 0
    only zero l q = refl
    only (suc j) l q = absurd (true≢false (sym q ∙ all_false m (λ i. t (suc i)) z j (omega arith)))

later_told : (m : ℕ) (t : ℕ → Bool) → t 0 ≡ false → OneTold m (λ j. t (suc j)) → OneTold (suc m) t
later_told m t e o = record {
  at = suc o.at;
  inside = omega (arith, o.inside);
  told = o.told;
  only = only;
  weight = λ w.
      let here : cond (t 0) (w 0) 0 ≡ 0 = ap (λ b. cond b (w 0) 0) e in
      omega (arith, here, o.weight (λ j. w (suc j)));
}
  where
    only : (j : ℕ) → j < suc m → t j ≡ true → j ≡ suc o.at
    only zero l q = absurd (true≢false (sym q ∙ e))
    only (suc j) l q = ap suc (o.only j (omega arith) q)

pub one_told : (m : ℕ) (t : ℕ → Bool) → weighed m t (λ j. 1) ≡ 1 → OneTold m t
one_told zero t e = absurd (omega arith)
one_told (suc m) t e = elim (t 0) as (λ b. t 0 ≡ b → OneTold (suc m) t) [
  | true ↦ λ q. first_told m t q (let here : ◌≡◌ {A = ℕ} (cond (t 0) 1 0) 1 = ap (λ b. cond b 1 0) q in omega arith)
  | false ↦ λ q. later_told m t q (one_told m (λ j. t (suc j)) (let here : ◌≡◌ {A = ℕ} (cond (t 0) 1 0) 0 = ap (λ b. cond b 1 0) q in omega arith))
] refl

pub told_once : (m : ℕ) (t : ℕ → Bool) (k : ℕ) → k < m → t k ≡ true → ((j : ℕ) → j < m → t j ≡ true → j ≡ k) → weighed m t (λ j. 1) ≡ 1
told_once m t k l told only = total-same m (λ j. cond {A = ℕ} (t j) 1 0) (λ j. cond {A = ℕ} (eqb k j) 1 0 * 1) point ∙ total-single m k 1 (λ h. 1) l
  where
    point : (j : ℕ) → j < m → ◌≡◌ {A = ℕ} (cond (t j) 1 0) (cond (eqb k j) 1 0 * 1)
    point j q = ⊎_elim
        (λ e. let u : ◌≡◌ {A = ℕ} (cond (t j) 1 0) 1 = ap (λ b. cond b 1 0) (ap t (sym e) ∙ told) in let v : ◌≡◌ {A = ℕ} (cond (eqb k j) 1 0) 1 = ap (λ b. cond b 1 0) (eq-eqb k j e) in omega arith)
        (λ f. let u : ◌≡◌ {A = ℕ} (cond (t j) 1 0) 0 = ap (λ b. cond b 1 0) (false_from_ne_true (t j) (λ x. f (sym (only j q x)))) in let v : ◌≡◌ {A = ℕ} (cond (eqb k j) 1 0) 0 = ap (λ b. cond b 1 0) (ne_eqb k j f) in omega arith)
        (cases_eq k j)

and_false : (b : Bool) → (b && false) ≡ false
and_false true = refl
and_false false = refl

and_true : (b : Bool) → (b && true) ≡ b
and_true true = refl
and_true false = refl

-- one number less is told
weighed_less : (m : ℕ) (t t' : ℕ → Bool) (w : ℕ → ℕ) (k : ℕ) → k < m → ((j : ℕ) → t' j ≡ (t j && not (eqb j k))) → weighed m t w ≡ weighed m t' w + cond (t k) (w k) 0
weighed_less m t t' w k l h = total-same m f (λ j. f' j + cond (eqb k j) 1 0 * f j) point ∙ total-add m f' (λ j. cond (eqb k j) 1 0 * f j) ∙ ap (λ s. total m f' + s) (total-single m k 1 f l ∙ one (f k))
  where
    f : ℕ → ℕ
    f j = cond (t j) (w j) 0

    f' : ℕ → ℕ
    f' j = cond (t' j) (w j) 0

    one : (x : ℕ) → 1 * x ≡ x
    one x = omega arith

    none : (x : ℕ) → 0 * x ≡ 0
    none x = omega arith

    plus_none : (x : ℕ) → 0 + x ≡ x
    plus_none x = omega arith

    point : (j : ℕ) → j < m → f j ≡ f' j + cond (eqb k j) 1 0 * f j
    point j q = ⊎_elim
        (λ e.
        let u : f' j ≡ 0 = ap (λ b. cond b (w j) 0) (h j ∙ ap (λ b. t j && not b) (eq-eqb j k (sym e)) ∙ and_false (t j)) in
        let v : cond (eqb k j) 1 0 * f j ≡ f j = ap (λ b. cond b 1 0 * f j) (eq-eqb k j e) ∙ one (f j) in
        sym (ap (λ x. x + cond (eqb k j) 1 0 * f j) u ∙ (let z : 0 + cond (eqb k j) 1 0 * f j ≡ cond (eqb k j) 1 0 * f j = plus_none (cond (eqb k j) 1 0 * f j) in z) ∙ v))
        (λ n.
        let u : f' j ≡ f j = ap (λ b. cond b (w j) 0) (h j ∙ ap (λ b. t j && not b) (ne_eqb j k (λ e. n (sym e))) ∙ and_true (t j)) in
        let v : cond (eqb k j) 1 0 * f j ≡ 0 = ap (λ b. cond b 1 0 * f j) (ne_eqb k j n) ∙ none (f j) in
        sym (ap (λ x. f' j + x) v ∙ (let z : f' j + 0 ≡ f' j = omega arith in z) ∙ u))
        (cases_eq k j)

-- ---- one of the two numbers of a tally

same_as : (x y : ℕ) → x ≡ y → Same (2 ^ 32) x y
same_as x y e = record { same = ap (λ v. v % 2 ^ 32) e }

-- the next number is looked at
column_more : (m : ℕ) (t : ℕ → Bool) (w : ℕ → ℕ) (s : Bool) (old new : ℕ) → t m ≡ s → Same (2 ^ 32) old (weighed m t w) → Same (2 ^ 32) new (old + cond s (w m) 0) → Same (2 ^ 32) new (weighed (suc m) t w)
column_more m t w s old new e o n = same_trans n (same_trans (same-add o (same_refl (2 ^ 32) (cond s (w m) 0))) (same_as _ _ (ap (λ b. weighed m t w + cond b (w m) 0) (sym e) ∙ sym (total-last m (λ j. cond (t j) (w j) 0)))))

column_skip : (m : ℕ) (t : ℕ → Bool) (w : ℕ → ℕ) (old : ℕ) → t m ≡ false → Same (2 ^ 32) old (weighed m t w) → Same (2 ^ 32) old (weighed (suc m) t w)
column_skip m t w old e o = same_trans o (same_as _ _ (sym (total-last m (λ j. cond (t j) (w j) 0) ∙ ap (λ b. weighed m t w + cond b (w m) 0) e ∙ (let z : weighed m t w + 0 ≡ weighed m t w = omega arith in z))))

-- one number less is told
column_less : (m : ℕ) (t t' : ℕ → Bool) (w : ℕ → ℕ) (k : ℕ) (s : Bool) (back old new : ℕ) → k < m → ((j : ℕ) → t' j ≡ (t j && not (eqb j k))) → t k ≡ s → (w k + back) % 2 ^ 32 ≡ 0 → Same (2 ^ 32) old (weighed m t w) → Same (2 ^ 32) new (old + cond s back 0) → Same (2 ^ 32) new (weighed m t' w)
column_less m t t' w k s back old new l h e z o n = same_trans n (same_trans (same-add (same_trans o (same_as _ _ less)) (same_refl (2 ^ 32) (cond s back 0))) (off s (weighed m t' w)))
  where
    less : weighed m t w ≡ weighed m t' w + cond s (w k) 0
    less = weighed_less m t t' w k l h ∙ ap (λ b. weighed m t' w + cond b (w k) 0) e

    off : (b : Bool) (x : ℕ) → Same (2 ^ 32) (x + cond b (w k) 0 + cond b back 0) x
    off true x = record { same = omega arith }
    off false x = record { same = omega arith }

-- ---- the tallies

pub tallies_none : (m : ℕ) (test : ℕ → ℕ → Bool) (tallies : List (ℕ × ℕ)) → ((n : ℕ) → (count_at tallies n ≡ 0) × (sum_at tallies n ≡ 0)) → AreTallies 0 test tallies
tallies_none m test tallies z = record { counts = λ n l. same_as _ _ (z n).0; sums = λ n l. same_as _ _ (z n).1 }

module _ (K : ChainComplex) (ss : List Step) (m : ℕ) (old : List (ℕ × ℕ)) where
  pub tallies_more : (new : List (ℕ × ℕ)) (c : List (ℕ × ℕ)) → IsUnpaired ss m → c ≡ get_or K.boundaries m [] → AddsAt c 1 m old new → AreTallies m (is_coface K ss) old → AreTallies (m + 1) (is_coface K ss) new
  tallies_more new c u e a t = subst (λ (k : ℕ). AreTallies k (is_coface K ss) new) next (record {
    counts = λ n l. let q : n < length old = omega (arith, a.size) in column_more m (is_coface K ss n) (λ j. 1) (stands_in c n) (count_at old n) (count_at new n) (told n) (t.counts n q) (a.counts n q);
    sums = λ n l. let q : n < length old = omega (arith, a.size) in column_more m (is_coface K ss n) (λ j. j) (stands_in c n) (sum_at old n) (sum_at new n) (told n) (t.sums n q) (a.sums n q);
  })
    where
      next : suc m ≡ m + 1
      next = omega arith

      told : (n : ℕ) → is_coface K ss n m ≡ stands_in c n
      told n = ap (λ b. b && stands_in (get_or K.boundaries m []) n) (test_unpaired ss m u) ∙ ap (λ (ts : List (ℕ × ℕ)). stands_in ts n) (sym e)

  pub tallies_skip : is_unpaired ss m ≡ false → AreTallies m (is_coface K ss) old → AreTallies (m + 1) (is_coface K ss) old
  tallies_skip u t = subst (λ (k : ℕ). AreTallies k (is_coface K ss) old) next (record {
    counts = λ n l. column_skip m (is_coface K ss n) (λ j. 1) (count_at old n) (told n) (t.counts n l);
    sums = λ n l. column_skip m (is_coface K ss n) (λ j. j) (sum_at old n) (told n) (t.sums n l);
  })
    where
      next : suc m ≡ m + 1
      next = omega arith

      told : (n : ℕ) → is_coface K ss n m ≡ false
      told n = ap (λ b. b && stands_in (get_or K.boundaries m []) n) u

tallies_less : (m : ℕ) (t t' : ℕ → ℕ → Bool) (c : List (ℕ × ℕ)) (k : ℕ) (old new : List (ℕ × ℕ)) → k < m → m < 2 ^ 32 → ((n j : ℕ) → t' n j ≡ (t n j && not (eqb j k))) → ((n : ℕ) → t n k ≡ stands_in c n) → AddsAt c (2 ^ 32 - 1) ((2 ^ 32 - k) % 2 ^ 32) old new → AreTallies m t old → AreTallies m t' new
tallies_less m t t' c k old new l short h e a s = record {
  counts = λ n i. let q : n < length old = omega (arith, a.size) in column_less m (t n) (t' n) (λ j. 1) k (stands_in c n) (2 ^ 32 - 1) (count_at old n) (count_at new n) l (h n) (e n) refl (s.counts n q) (a.counts n q);
  sums = λ n i. let q : n < length old = omega (arith, a.size) in column_less m (t n) (t' n) (λ j. j) k (stands_in c n) ((2 ^ 32 - k) % 2 ^ 32) (sum_at old n) (sum_at new n) l (h n) (e n) (omega arith) (s.sums n q) (a.sums n q);
}

-- ---- one pair less

and_last : (u v : Bool) → (u && (v && true)) ≡ (u && v)
and_last true true = refl
and_last true false = refl
and_last false v = refl

and_deep : (u v r x y : Bool) → (u && (v && ((r && x) && y))) ≡ (((u && (v && r)) && x) && y)
and_deep true true r x y = refl
and_deep true false r x y = refl
and_deep false v r x y = refl

and_turned : (u x y s : Bool) → (((u && x) && y) && s) ≡ (((u && s) && x) && y)
and_turned false x y s = refl
and_turned true true true true = refl
and_turned true true true false = refl
and_turned true true false true = refl
and_turned true true false false = refl
and_turned true false y true = refl
and_turned true false y false = refl

unpaired_more : (ss : List Step) (s : Step) (j : ℕ) → is_unpaired (ss ++ s ∷ []) j ≡ ((is_unpaired ss j && not (eqb j s.a)) && not (eqb j s.b))
unpaired_more [] s j = and_last (not (eqb j s.a)) (not (eqb j s.b))
unpaired_more (t ∷ ss) s j = ap (λ r. not (eqb j t.a) && (not (eqb j t.b) && r)) (unpaired_more ss s j) ∙ and_deep (not (eqb j t.a)) (not (eqb j t.b)) (is_unpaired ss j) (not (eqb j s.a)) (not (eqb j s.b))

pub tallies_pair : (K : ChainComplex) (ss new : List Step) (a b : ℕ) (ca cb : List (ℕ × ℕ)) (first second third : List (ℕ × ℕ))
    → length K.boundaries < 2 ^ 32 → IsOneMore ss new a b → a < length K.boundaries → b < length K.boundaries → IsUnpaired ss a → IsUnpaired ss b → b ≢ a
    → ca ≡ get_or K.boundaries a [] → cb ≡ get_or K.boundaries b []
    → AddsAt ca (2 ^ 32 - 1) ((2 ^ 32 - a) % 2 ^ 32) first second → AddsAt cb (2 ^ 32 - 1) ((2 ^ 32 - b) % 2 ^ 32) second third
    → CountCofaces K ss first → CountCofaces K new third
tallies_pair K ss new a b ca cb first second third short o la lb ua ub d ea eb x y s = record {
  size = y.size ∙ x.size ∙ s.size;
  told = tallies_less (length K.boundaries) without_a (is_coface K new) cb b second third lb short left at_b y
      (tallies_less (length K.boundaries) (is_coface K ss) without_a ca a first second la short (λ n j. refl) at_a x s.told);
}
  where
    without_a : ℕ → ℕ → Bool
    without_a n j = is_coface K ss n j && not (eqb j a)

    at_a : (n : ℕ) → is_coface K ss n a ≡ stands_in ca n
    at_a n = ap (λ v. v && stands_in (get_or K.boundaries a []) n) (test_unpaired ss a ua) ∙ ap (λ (ts : List (ℕ × ℕ)). stands_in ts n) (sym ea)

    at_b : (n : ℕ) → without_a n b ≡ stands_in cb n
    at_b n = ap (λ v. is_coface K ss n b && not v) (ne_eqb b a d) ∙ and_true (is_coface K ss n b) ∙ ap (λ v. v && stands_in (get_or K.boundaries b []) n) (test_unpaired ss b ub) ∙ ap (λ (ts : List (ℕ × ℕ)). stands_in ts n) (sym eb)

    left : (n j : ℕ) → is_coface K new n j ≡ (without_a n j && not (eqb j b))
    left n j = ap (λ (us : List Step). is_unpaired us j && stands_in (get_or K.boundaries j []) n) o.steps
        ∙ ap (λ v. v && stands_in (get_or K.boundaries j []) n) (unpaired_more ss (record { a = a; b = b; inverse = o.inverse }) j)
        ∙ and_turned (is_unpaired ss j) (not (eqb j a)) (not (eqb j b)) (stands_in (get_or K.boundaries j []) n)

-- ---- the generators of one chain

-- each term stands for a generator of its own
at_least : (c : List (ℕ × ℕ)) (i : ℕ) → i < length c → (get_or c i (0, 0)).1 ≤ coefficient c (get_or c i (0, 0)).0
at_least [] i l = absurd (omega arith)
at_least (t ∷ c) zero l = let e : cond (eqb t.0 t.0) t.1 0 ≡ t.1 = ap (λ b. cond b t.1 0) (eq-eqb t.0 t.0 refl) in omega arith
at_least (t ∷ c) (suc i) l = let e = at_least c i (omega arith) in omega arith

taken_none : (c : List (ℕ × ℕ)) (i : ℕ) → i < length c → coefficient c (get_or c i (0, 0)).0 ≡ (get_or c i (0, 0)).1 → coefficient (take i c) (get_or c i (0, 0)).0 ≡ 0
taken_none [] i l e = absurd (omega arith)
taken_none (t ∷ c) zero l e = refl
taken_none (t ∷ c) (suc i) l e =
    let m = at_least c i (omega arith) in
    let r = taken_none c i (omega arith) (omega arith) in
    omega arith

module _ (c : List (ℕ × ℕ)) (i : ℕ) (l : i < length c) (alone : coefficient c (get_or c i (0, 0)).0 ≡ (get_or c i (0, 0)).1) (some : 0 < (get_or c i (0, 0)).1) where
  before_is : stands_in (take i c) (get_or c i (0, 0)).0 ≡ false
  before_is = ap not (eq-eqb (coefficient (take i c) (get_or c i (0, 0)).0) 0 (taken_none c i l alone))

  here_is : stands_in (take (i + 1) c) (get_or c i (0, 0)).0 ≡ true
  here_is = ap not (ne_eqb (coefficient (take (i + 1) c) (get_or c i (0, 0)).0) 0 (λ z.
      let e : cond (eqb (get_or c i (0, 0)).0 (get_or c i (0, 0)).0) (get_or c i (0, 0)).1 0 ≡ (get_or c i (0, 0)).1 = ap (λ b. cond b (get_or c i (0, 0)).1 0) (eq-eqb (get_or c i (0, 0)).0 (get_or c i (0, 0)).0 refl) in
      absurd (omega (arith, coefficient_more c i (get_or c i (0, 0)).0 l, e))))

  column_step : (x n old now new : ℕ) → Same (2 ^ 32) now (old + cond (stands_in (take i c) n) x 0) → (n ≡ (get_or c i (0, 0)).0 → Same (2 ^ 32) new (now + x)) → (n ≢ (get_or c i (0, 0)).0 → new ≡ now) → Same (2 ^ 32) new (old + cond (stands_in (take (i + 1) c) n) x 0)
  column_step x n old now new s here other = ⊎_elim
      (λ e.
      let u : old + cond (stands_in (take i c) n) x 0 ≡ old = ap (λ (k : ℕ). old + cond (stands_in (take i c) k) x 0) e ∙ ap (λ b. old + cond b x 0) before_is ∙ (let z : old + 0 ≡ old = omega arith in z) in
      let v : old + cond (stands_in (take (i + 1) c) n) x 0 ≡ old + x = ap (λ (k : ℕ). old + cond (stands_in (take (i + 1) c) k) x 0) e ∙ ap (λ b. old + cond b x 0) here_is in
      same_trans (here e) (same_trans (same-add (same_trans s (same_as _ _ u)) (same_refl (2 ^ 32) x)) (same_as _ _ (sym v))))
      (λ f. same_trans (same_as _ _ (other f)) (same_trans s (same_as _ _ (ap (λ v. old + cond (not (eqb v 0)) x 0) (sym (coefficient_other c i n l (λ e. f (sym e))))))))
      (cases_eq n (get_or c i (0, 0)).0)

pub adds_none : (one number : ℕ) (old : List (ℕ × ℕ)) → AddsAt [] one number old old
adds_none one number old = record { size = refl; counts = λ n l. same_as _ _ (plus (count_at old n)); sums = λ n l. same_as _ _ (plus (sum_at old n)) }
  where
    plus : (x : ℕ) → x ≡ x + 0
    plus x = omega arith

pub adds_more : (c : List (ℕ × ℕ)) (one number : ℕ) (old now new : List (ℕ × ℕ)) (i face x : ℕ) → i < length c → face ≡ (get_or c i (0, 0)).0 → x ≡ (get_or c i (0, 0)).1 → coefficient c face ≡ x → 0 < x
    → AddsAt (take i c) one number old now
    → length new ≡ length now
    → (face < length now → Same (2 ^ 32) (count_at new face) (count_at now face + one)) → (face < length now → Same (2 ^ 32) (sum_at new face) (sum_at now face + number))
    → ((n : ℕ) → n ≢ face → count_at new n ≡ count_at now n) → ((n : ℕ) → n ≢ face → sum_at new n ≡ sum_at now n)
    → AddsAt (take (i + 1) c) one number old new
adds_more c one number old now new i face x l ef ex alone some a size count sum counts sums = record {
  size = size ∙ a.size;
  counts = λ n q. column_step c i l single positive one n (count_at old n) (count_at now n) (count_at new n) (a.counts n q)
      (λ e. let h : n ≡ face = e ∙ sym ef in subst (λ (k : ℕ). Same (2 ^ 32) (count_at new k) (count_at now k + one)) (sym h) (count (omega (arith, a.size, h, q))))
      (λ f. counts n (λ e. f (e ∙ ef)));
  sums = λ n q. column_step c i l single positive number n (sum_at old n) (sum_at now n) (sum_at new n) (a.sums n q)
      (λ e. let h : n ≡ face = e ∙ sym ef in subst (λ (k : ℕ). Same (2 ^ 32) (sum_at new k) (sum_at now k + number)) (sym h) (sum (omega (arith, a.size, h, q))))
      (λ f. sums n (λ e. f (e ∙ ef)));
}
  where
    single : coefficient c (get_or c i (0, 0)).0 ≡ (get_or c i (0, 0)).1
    single = ap (coefficient c) (sym ef) ∙ alone ∙ ex

    positive : 0 < (get_or c i (0, 0)).1
    positive = subst (λ (v : ℕ). 0 < v) ex some
