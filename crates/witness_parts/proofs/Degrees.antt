-- Lists of chains degree by degree.
use Rattle.std.proofs.Common.{◌≡◌, ℕ, zero, suc, ◌+◌, ◌<◌, refl, sym, ap, ◌∙◌, arith, ⊎_elim, List, [], ◌∷◌, ◌++◌, length, map, cond, eqb, eq-eqb, ne_eqb, append_assoc, subst}
use Rattle.std.proofs.lemmas.Bool.{cases_lt}
use Rattle.std.proofs.lemmas.List.{map-append, append-nil}
use Rattle.elem_cubes.specs.Cells.{Factor}
use Rattle.witness_laws.specs.Lines.{each}
use Rattle.witness_laws.specs.Parts.{nth}
use Rattle.witness_parts.specs.Filed.{IsFiled, AreFiled, AddsCycles, AddsChains, HasCycles, HasChains}

-- ---- one more

pub each_more : {A : Type 0} (n : ℕ) (f : ℕ → List A) → each (suc n) f ≡ each n f ++ f n
each_more zero f = append-nil (f 0)
each_more (suc n) f = ap (λ l. f 0 ++ l) (each_more n (λ i. f (suc i))) ∙ sym (append_assoc (f 0) (each n (λ i. f (suc i))) (f (suc n)))

pub each_below : {A : Type 0} (n : ℕ) (f g : ℕ → List A) → ((i : ℕ) → i < n → f i ≡ g i) → each n f ≡ each n g
each_below zero f g e = refl
each_below (suc n) f g e =
    ap (λ l. l ++ each n (λ i. f (suc i))) (e 0 (omega arith)) ∙ ap (λ l. g 0 ++ l) (each_below n (λ i. f (suc i)) (λ i. g (suc i)) (λ i l. e (suc i) (omega arith)))

-- one more chain of those of a degree
pub filed_none : (p : ℕ) (all : List (List Factor)) (cs : ℕ → List Factor → ℕ) → AreFiled p all 0 cs []
filed_none p all cs = record { count = refl; at = λ i l. absurd (omega arith) }

nth_front : (zs : List (List (ℕ × ℕ))) (z : List (ℕ × ℕ)) (i : ℕ) → i < length zs → nth (zs ++ z ∷ []) i ≡ nth zs i
nth_front [] z i l = absurd (omega arith)
nth_front (y ∷ zs) z zero l = refl
nth_front (y ∷ zs) z (suc i) l = nth_front zs z i (omega arith)

nth_last : (zs : List (List (ℕ × ℕ))) (z : List (ℕ × ℕ)) (i : ℕ) → i ≡ length zs → nth (zs ++ z ∷ []) i ≡ z
nth_last [] z zero e = refl
nth_last [] z (suc i) e = absurd (omega arith)
nth_last (y ∷ zs) z zero e = absurd (omega arith)
nth_last (y ∷ zs) z (suc i) e = nth_last zs z i (omega arith)

length_more : {A : Type 0} (zs : List A) (z : A) → length (zs ++ z ∷ []) ≡ length zs + 1
length_more [] z = refl
length_more (y ∷ zs) z = let e = length_more zs z in omega (arith, e)

pub filed_more : (p : ℕ) (all : List (List Factor)) (n : ℕ) (cs : ℕ → List Factor → ℕ) (zs : List (List (ℕ × ℕ))) (z : List (ℕ × ℕ)) → AreFiled p all n cs zs → IsFiled p all (cs n) z → AreFiled p all (n + 1) cs (zs ++ z ∷ [])
filed_more p all n cs zs z w f = record {
  count = length_more zs z ∙ ap (λ (k : ℕ). k + 1) w.count;
  at = λ i l. ⊎_elim
      (λ m. subst (IsFiled p all (cs i)) (sym (nth_front zs z i (let e = w.count in omega (arith, e, m)))) (w.at i m))
      (λ m. let e : i ≡ n = omega (arith, l, m) in
      subst (λ (j : ℕ). IsFiled p all (cs j) (nth (zs ++ z ∷ []) j)) (sym e) (subst (IsFiled p all (cs n)) (sym (nth_last zs z n (sym w.count))) f))
      (cases_lt i n);
}

pub cycles_none : (p : ℕ) (all : List (List Factor)) (k : ℕ) (cs : ℕ → List Factor → ℕ) (old : List (ℕ × List (ℕ × ℕ))) → AddsCycles p all k 0 cs old old
cycles_none p all k cs old = record { chains = []; added = sym (append-nil old); filed = filed_none p all cs }

pub cycles_more : (p : ℕ) (all : List (List Factor)) (k n : ℕ) (cs : ℕ → List Factor → ℕ) (old now new : List (ℕ × List (ℕ × ℕ))) (z : List (ℕ × ℕ))
    → AddsCycles p all k n cs old now → new ≡ now ++ (k, z) ∷ [] → IsFiled p all (cs n) z → AddsCycles p all k (n + 1) cs old new
cycles_more p all k n cs old now new z w e f = record {
  chains = w.chains ++ z ∷ [];
  added = e ∙ ap (λ l. l ++ (k, z) ∷ []) w.added ∙ append_assoc old (map (λ y. (k, y)) w.chains) ((k, z) ∷ [])
      ∙ ap (λ l. old ++ l) (sym (map-append (λ (y : List (ℕ × ℕ)). (k, y)) w.chains (z ∷ [])));
  filed = filed_more p all n cs w.chains z w.filed f;
}

pub chains_none : (p : ℕ) (all : List (List Factor)) (cs : ℕ → List Factor → ℕ) (old : List (List (ℕ × ℕ))) → AddsChains p all 0 cs old old
chains_none p all cs old = record { chains = []; added = sym (append-nil old); filed = filed_none p all cs }

pub chains_more : (p : ℕ) (all : List (List Factor)) (n : ℕ) (cs : ℕ → List Factor → ℕ) (old now new : List (List (ℕ × ℕ))) (z : List (ℕ × ℕ))
    → AddsChains p all n cs old now → new ≡ now ++ z ∷ [] → IsFiled p all (cs n) z → AddsChains p all (n + 1) cs old new
chains_more p all n cs old now new z w e f = record {
  chains = w.chains ++ z ∷ [];
  added = e ∙ ap (λ l. l ++ z ∷ []) w.added ∙ append_assoc old w.chains (z ∷ []);
  filed = filed_more p all n cs w.chains z w.filed f;
}

-- ---- one more degree

module _ (p : ℕ) (all : List (List Factor)) (size : ℕ → ℕ) (cs : ℕ → ℕ → List Factor → ℕ) (n : ℕ) where
  grouped : (ℕ → List (List (ℕ × ℕ))) → List (List (ℕ × ℕ)) → ℕ → List (List (ℕ × ℕ))
  grouped groups last k = cond (eqb k n) last (groups k)

  at_last : (groups : ℕ → List (List (ℕ × ℕ))) (last : List (List (ℕ × ℕ))) → grouped groups last n ≡ last
  unfolding grouped
  at_last groups last = ap (λ v. cond v last (groups n)) (eq-eqb n n refl)

  at_other : (groups : ℕ → List (List (ℕ × ℕ))) (last : List (List (ℕ × ℕ))) (k : ℕ) → k < n → grouped groups last k ≡ groups k
  unfolding grouped
  at_other groups last k l = ap (λ v. cond v last (groups k)) (ne_eqb k n (λ e. omega (arith, l, e)))

  filed_to : (groups : ℕ → List (List (ℕ × ℕ))) (last : List (List (ℕ × ℕ))) → ((k : ℕ) → k < n → AreFiled p all (size k) (cs k) (groups k)) → AreFiled p all (size n) (cs n) last
      → (k : ℕ) → k < n + 1 → AreFiled p all (size k) (cs k) (grouped groups last k)
  filed_to groups last w f k l = ⊎_elim
      (λ m. subst (AreFiled p all (size k) (cs k)) (sym (at_other groups last k m)) (w k m))
      (λ m. let e : k ≡ n = omega (arith, l, m) in subst (λ (j : ℕ). AreFiled p all (size j) (cs j) (grouped groups last j)) (sym e) (subst (AreFiled p all (size n) (cs n)) (sym (at_last groups last)) f))
      (cases_lt k n)

  pub degree_more : (old new : List (ℕ × List (ℕ × ℕ))) → HasCycles p all n size cs old → AddsCycles p all n (size n) (cs n) old new → HasCycles p all (n + 1) size cs new
  degree_more old new w f =
      let s : n + 1 ≡ suc n = omega arith in
      let g : ℕ → List (List (ℕ × ℕ)) = grouped w.groups f.chains in
      let T : Type 0 = ℕ × List (ℕ × ℕ) in
      record {
        groups = g;
        made = f.added ∙ ap (λ (l : List T). l ++ map (λ z. (n, z)) f.chains) (w.made ∙ each_below n (λ k. map (λ z. (k, z)) (w.groups k)) (λ k. map (λ z. (k, z)) (g k)) (λ k l. ap (map (λ z. (k, z))) (sym (at_other w.groups f.chains k l))))
            ∙ ap (λ l. each n (λ k. map (λ z. (k, z)) (g k)) ++ map (λ z. (n, z)) l) (sym (at_last w.groups f.chains))
            ∙ sym (each_more n (λ k. map (λ z. (k, z)) (g k))) ∙ ap (λ (m : ℕ). each m (λ k. map (λ z. (k, z)) (g k))) (sym s);
        at = filed_to w.groups f.chains w.at f.filed;
      }

  pub chains_degree_more : (old new : List (List (ℕ × ℕ))) → HasChains p all n size cs old → AddsChains p all (size n) (cs n) old new → HasChains p all (n + 1) size cs new
  chains_degree_more old new w f =
      let s : n + 1 ≡ suc n = omega arith in
      let g : ℕ → List (List (ℕ × ℕ)) = grouped w.groups f.chains in
      record {
        groups = g;
        made = f.added ∙ ap (λ l. l ++ f.chains) (w.made ∙ each_below n w.groups g (λ k l. sym (at_other w.groups f.chains k l)))
            ∙ ap (λ l. each n g ++ l) (sym (at_last w.groups f.chains)) ∙ sym (each_more n g) ∙ ap (λ (m : ℕ). each m g) (sym s);
        at = filed_to w.groups f.chains w.at f.filed;
      }

pub no_degrees : (p : ℕ) (all : List (List Factor)) (size : ℕ → ℕ) (cs : ℕ → ℕ → List Factor → ℕ) → HasCycles p all 0 size cs []
no_degrees p all size cs = record { groups = λ k. []; made = refl; at = λ k l. absurd (omega arith) }

pub no_chains : (p : ℕ) (all : List (List Factor)) (size : ℕ → ℕ) (cs : ℕ → ℕ → List Factor → ℕ) → HasChains p all 0 size cs []
no_chains p all size cs = record { groups = λ k. []; made = refl; at = λ k l. absurd (omega arith) }
