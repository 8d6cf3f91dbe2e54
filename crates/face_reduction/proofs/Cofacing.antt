-- Cofaces by number: boundaries name facets, what waits, and the only coface that a tally tells
use Rattle.std.proofs.Common.{◌≡◌, ◌≢◌, ℕ, suc, ◌+◌, ◌<◌, ◌≤◌, ◌⊎◌, inl, inr, refl, sym, ap, ◌∙◌, arith, ⊎_elim, List, [], ◌∷◌, length, get_or, true, false, ◌&&◌, ◌^◌, ◌%◌, cond, subst, Option, Some, None, eqb, eq-eqb, eqb-true, ne_eqb}
use Rattle.std.specs.Prelude.{not}
use Rattle.std.proofs.lemmas.Bool.{true≢false, cases_eq, cases_lt, and_parts, false_from_ne_true}
use Rattle.field_mod.proofs.Modular.{same_trans, same_sym, same-mul, one_nonzero}
use Rattle.elem_cubes.specs.Cells.{Factor}
use Rattle.elem_cubes.specs.Faces.{IsFacet}
use Rattle.elem_cubes.specs.Laws.{cell_at}
use Rattle.elem_cubes.proofs.Modular.{exact}
use Rattle.elem_cubes.proofs.Signs.{facet_unit}
use Rattle.elem_cubes.proofs.Zeros.{face_or_zero}
use Rattle.chains.specs.Terms.{coefficient}
use Rattle.chains.specs.ChainComplex.{ChainComplex}
use Rattle.chains.proofs.TermLists.{coefficient-lt}
use Rattle.algebraic_reduction.specs.Reduction.{Step, IsUnpaired}
use Rattle.cell_complex.specs.Sorted.{IsSortedCells}
use Rattle.cell_complex.specs.Numbering.{IsComplexOf}
use Rattle.cell_complex.specs.FreePairs.{IsFreePair}
use Rattle.cell_complex.proofs.Sorting.{apart}
use Rattle.excision.specs.Left.{is_left, is_one_of, is_unpaired}
use Rattle.excision.proofs.Leaving.{left_parts, left_from, test_unpaired, unpaired_test}
use Rattle.excision.proofs.Parted.{nonzero_by}
use Rattle.face_reduction.specs.Cofaces.{stands_in, is_coface, count_at, sum_at, only_at, CountCofaces, WaitsIfFree}
use Rattle.face_reduction.specs.Logs.{IsFreeNumber, IsFreeFace}
use Rattle.face_reduction.proofs.Tallying.{weighed_within, one_told, told_once}
use Rattle.face_reduction.proofs.Pairing.{face_inside, number_left}

-- ---- a boundary names exactly the facets

module _ (p : ℕ) (cells : List (List Factor)) (K : ChainComplex) (two : 2 ≤ p) (sorted : IsSortedCells cells) (C : IsComplexOf p cells K) (j n : ℕ) (inside : j < length cells) where
  pub named_facet : coefficient (get_or K.boundaries j []) n ≢ 0 → (n < length cells) × IsFacet (cell_at cells j) (cell_at cells n)
  named_facet d = ((face_inside cells sorted n j facet).0, facet)
    where
      some : 0 < coefficient (get_or K.boundaries j []) n
      some = omega arith

      facet : IsFacet (cell_at cells j) (cell_at cells n)
      facet = ⊎_elim
          (λ f. f)
          (λ e. absurd (nonzero_by p (coefficient (get_or K.boundaries j []) n) _ some (coefficient-lt p 0 _ (get_or K.boundaries j []) n (omega arith) (C.normal j inside)) (C.incidences j n inside) (exact p e)))
          (face_or_zero p (cell_at cells j) (cell_at cells n))

  pub facet_named : IsFacet (cell_at cells j) (cell_at cells n) → coefficient (get_or K.boundaries j []) n ≢ 0
  facet_named f e =
      let z = same_trans (same_sym (C.incidences j n inside)) (exact p e) in
      one_nonzero p two (same_trans (same_sym (facet_unit p (cell_at cells j) (cell_at cells n) (omega arith) f)) (same_trans (same-mul z z) (exact p (omega arith))))

-- what has a coefficient has a term
pub term_of : (ts : List (ℕ × ℕ)) (n : ℕ) → coefficient ts n ≢ 0 → (i : ℕ) × (i < length ts) × ((get_or ts i (0, 0)).0 ≡ n)
term_of [] n d = absurd (d refl)
term_of (t ∷ ts) n d = ⊎_elim
    (λ e. (0, omega arith, e))
    (λ x. let w = term_of ts n (λ z. d (ap (λ b. cond b t.1 0 + coefficient ts n) (ne_eqb t.0 n x) ∙ (let q : 0 + coefficient ts n ≡ 0 = omega (arith, z) in q))) in (suc w.0, omega (arith, w.1), w.2))
    (cases_eq t.0 n)

-- ---- those that wait

pub waits_still : (tallies : List (ℕ × ℕ)) (old now : List ℕ) (n : ℕ) → ((k : ℕ) → is_one_of old k ≡ true → is_one_of now k ≡ true) → WaitsIfFree tallies old n → WaitsIfFree tallies now n
waits_still tallies old now n kept w = ⊎_elim (λ e. inl (kept n e)) (λ e. inr e) w

pub record WokenSo (tallies ts : List (ℕ × ℕ)) (old now : List ℕ) (i : ℕ) : Type 0 where
  pub kept : (k : ℕ) → is_one_of old k ≡ true → is_one_of now k ≡ true
  pub woken : (k : ℕ) → k < i → WaitsIfFree tallies now (get_or ts k (0, 0)).0

pub woken_more : (tallies ts : List (ℕ × ℕ)) (old now new : List ℕ) (i face : ℕ) → face ≡ (get_or ts i (0, 0)).0 → WokenSo tallies ts old now i → ((k : ℕ) → is_one_of now k ≡ true → is_one_of new k ≡ true) → WaitsIfFree tallies new face → WokenSo tallies ts old new (i + 1)
woken_more tallies ts old now new i face is s kept added = record {
  kept = λ k w. kept k (s.kept k w);
  woken = λ k l. ⊎_elim
      (λ lt. waits_still tallies now new (get_or ts k (0, 0)).0 kept (s.woken k lt))
      (λ ge. let e : i ≡ k = omega arith in subst (λ (m : ℕ). WaitsIfFree tallies new m) (is ∙ ap (λ m. (get_or ts m (0, 0)).0) e) added)
      (cases_lt k i);
}

pub woken_end : (tallies ts : List (ℕ × ℕ)) (old now : List ℕ) (i : ℕ) → length ts ≤ i → WokenSo tallies ts old now i → (n : ℕ) → coefficient ts n ≢ 0 → WaitsIfFree tallies now n
woken_end tallies ts old now i l s n d = let w = term_of ts n d in subst (λ (m : ℕ). WaitsIfFree tallies now m) w.2 (s.woken w.0 (omega (arith, w.1)))

-- the least ones wait
pub all_more : (tallies : List (ℕ × ℕ)) (now new : List ℕ) (i : ℕ) → ((k : ℕ) → k < i → WaitsIfFree tallies now k) → ((k : ℕ) → is_one_of now k ≡ true → is_one_of new k ≡ true) → WaitsIfFree tallies new i → (k : ℕ) → k < i + 1 → WaitsIfFree tallies new k
all_more tallies now new i s kept added k l = ⊎_elim
    (λ lt. waits_still tallies now new k kept (s k lt))
    (λ ge. let e : i ≡ k = omega arith in subst (λ (m : ℕ). WaitsIfFree tallies new m) e added)
    (cases_lt k i)

-- the number is that of a cell that is not left
pub not_left : (p : ℕ) (cells : List (List Factor)) (K : ChainComplex) (ss : List Step) (n : ℕ) → IsSortedCells cells → IsComplexOf p cells K → n < length cells → ¬ IsUnpaired ss n → is_left cells ss (cell_at cells n) ≡ false
not_left p cells K ss n sorted C l d = false_from_ne_true (is_left cells ss (cell_at cells n)) (λ e. d (number_left cells sorted p K C ss n l e))

-- ---- the only coface

only_parts : (x s b : ℕ) → cond (eqb x 1) (Some s) None ≡ Some b → (x ≡ 1) × (s ≡ b)
only_parts x s b e = elim (eqb x 1) as (λ v. eqb x 1 ≡ v → (x ≡ 1) × (s ≡ b)) [
  | true ↦ λ q. (eqb-true x 1 q, same (sym (ap (λ v. cond v (Some s) None) q) ∙ e))
  | false ↦ λ q. absurd (differ (sym (ap (λ v. cond v (Some s) None) q) ∙ e))
] refl
  where
    same : ◌≡◌ {A = Option ℕ} (Some s) (Some b) → s ≡ b
    same h = cc

    differ : ◌≡◌ {A = Option ℕ} None (Some b) → ⊥
    differ h = cc

only_none_parts : (x s : ℕ) → cond (eqb x 1) (Some s) None ≡ None → x ≢ 1
only_none_parts x s e q = differ (sym (ap (λ v. cond v (Some s) None) (eq-eqb x 1 q)) ∙ e)
  where
    differ : ◌≡◌ {A = Option ℕ} (Some s) None → ⊥
    differ h = cc

module _ (p : ℕ) (cells : List (List Factor)) (K : ChainComplex) (two : 2 ≤ p) (sorted : IsSortedCells cells) (C : IsComplexOf p cells K) (ss : List Step) (tallies : List (ℕ × ℕ)) (T : CountCofaces K ss tallies) (a : ℕ) (la : a < length cells) where
  inside : a < length tallies
  inside = omega (arith, T.size, C.count, la)

  coface_told : (j : ℕ) → j < length cells → IsUnpaired ss j → IsFacet (cell_at cells j) (cell_at cells a) → is_coface K ss a j ≡ true
  coface_told j l u f = ap (λ v. v && stands_in (get_or K.boundaries j []) a) (test_unpaired ss j u) ∙ ap not (ne_eqb (coefficient (get_or K.boundaries j []) a) 0 (facet_named p cells K two sorted C j a l f))

  told_coface : (j : ℕ) → j < length cells → is_coface K ss a j ≡ true → IsUnpaired ss j × IsFacet (cell_at cells j) (cell_at cells a)
  told_coface j l e =
      let w = and_parts (is_unpaired ss j) (stands_in (get_or K.boundaries j []) a) e in
      (unpaired_test ss j w.0, (named_facet p cells K two sorted C j a l (λ z. true≢false (sym w.1 ∙ ap not (eq-eqb (coefficient (get_or K.boundaries j []) a) 0 z)))).1)

  pub only_some : (b : ℕ) → only_at tallies a ≡ Some b → IsUnpaired ss a → IsFreeNumber cells ss a b
  only_some b e ua =
      let w = only_parts (count_at tallies a % 2 ^ 32) (sum_at tallies a % 2 ^ 32) b e in
      let counted = (T.told.counts a inside).same in
      let small = weighed_within (length K.boundaries) (is_coface K ss a) in
      let o = one_told (length K.boundaries) (is_coface K ss a) (omega (arith, C.count, C.short, counted, small, w.0)) in
      let at : o.at < length cells = omega (arith, o.inside, C.count) in
      let summed : sum_at tallies a % 2 ^ 32 ≡ o.at % 2 ^ 32 = (T.told.sums a inside).same ∙ ap (λ v. v % 2 ^ 32) (o.weight (λ j. j)) in
      let is : o.at ≡ b = omega (arith, summed, w.1, at, C.short) in
      let t = told_coface o.at at o.told in
      subst (λ (n : ℕ). IsFreeNumber cells ss a n) is (record {
        inside = at;
        free = record {
          face_alive = left_from cells sorted ss a la ua;
          coface_alive = left_from cells sorted ss o.at at t.0;
          facet = t.1;
          only = λ c left f. let v = left_parts cells sorted ss c left in
              sym v.2 ∙ ap (cell_at cells) (o.only v.0 (omega (arith, v.1, C.count)) (coface_told v.0 v.1 v.3 (subst (λ (q : List Factor). IsFacet q (cell_at cells a)) (sym v.2) f)));
        };
      })

  pub only_none : only_at tallies a ≡ None → (c : List Factor) → ¬ IsFreePair (is_left cells ss) (cell_at cells a) c
  only_none e c f =
      let w = left_parts cells sorted ss c f.coface_alive in
      let once = told_once (length K.boundaries) (is_coface K ss a) w.0 (omega (arith, w.1, C.count)) (coface_told w.0 w.1 w.3 (subst (λ (q : List Factor). IsFacet q (cell_at cells a)) (sym w.2) f.facet))
      (λ k l told. let lk : k < length cells = omega (arith, l, C.count) in let t = told_coface k lk told in
      apart cells sorted.sorted k w.0 lk w.1 (f.only (cell_at cells k) (left_from cells sorted ss k lk t.0) t.1 ∙ sym w.2)) in
      only_none_parts (count_at tallies a % 2 ^ 32) (sum_at tallies a % 2 ^ 32) e ((T.told.counts a inside).same ∙ ap (λ v. v % 2 ^ 32) once)

  -- what waits if it is free
  pub waits_or_none : (waiting : List ℕ) → WaitsIfFree tallies waiting a → (is_one_of waiting a ≡ true) ⊎ (¬ IsFreeFace (is_left cells ss) (cell_at cells a))
  waits_or_none waiting w = ⊎_elim (λ t. inl t) (λ e. inr (λ v. only_none e v.0 v.1)) w
