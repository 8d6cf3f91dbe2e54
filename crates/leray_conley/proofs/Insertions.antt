-- Taking one more row in, over lists
use Rattle.std.proofs.Common.{◌≡◌, ℕ, ◌+◌, ◌*◌, ◌%◌, ◌<◌, ◌≤◌, List, [], ◌∷◌, ◌++◌, length, get_or, sym, ap, ◌∙◌, arith, ⊎_elim, subst}
use Rattle.std.proofs.lemmas.List.{get_or_append_left, get_or_push, length_push}
use Rattle.field_mod.specs.Modular.{Same, minus}
use Rattle.field_mod.proofs.Modular.{same_by, same_refl, same_sym, same_trans, same-scale, same-mul, neg_cancel}
use Rattle.leray_conley.specs.Rows.{IsLeading}
use Rattle.leray_conley.specs.Kernels.{IsInKernel}
use Rattle.leray_conley.specs.Echelons.{along, cell, IsEchelon, HasEchelon, IsExtended}
use Rattle.leray_conley.proofs.Totals.{exact}
use Rattle.leray_conley.proofs.Echelons.{same_mod, below_cases, along-scale, IsInserted, inserted_echelon, inserted_forth, inserted_back, inserted_last}
use Rattle.field_mod.proofs.Sums.{total_none}

-- a row, cleared along the rows in reduced form
pub record IsCleared (p n : ℕ) (rows : List (List ℕ)) (pivots row cleared : List ℕ) : Type 0 where
  pub len : length cleared ≡ n
  pub zero_at : (k : ℕ) → k < length rows → Same p (get_or cleared (get_or pivots k 0) 0) 0
  pub kernel : (v : ℕ → ℕ) → IsInKernel p (length rows) n (cell rows) v → Same p (along n (λ j. get_or cleared j 0) v) (along n (λ j. get_or row j 0) v)

-- .. where nothing is left of it
pub nothing_left : (p n : ℕ) (rows : List (List ℕ)) (pivots row cleared : List ℕ) → IsCleared p n rows pivots row cleared
    → ((j : ℕ) → j < n → get_or cleared j 0 ≡ 0) → IsExtended p n (length rows) (length rows) (cell rows) (λ j. get_or row j 0) (cell rows)
nothing_left p n rows pivots row cleared h z = record {
  forth = λ v k _. k;
  back = λ v k. k;
  last = λ v k. same_trans (same_sym (h.kernel v k)) (total_none p n (λ j. get_or cleared j 0 * v j) (λ j l. exact (ap (λ (x : ℕ). x * v j) (z j l) ∙ omega arith)));
}

-- .. and else scaled by w, and taken away from the rows others
pub record IsTaken (p n : ℕ) (rows : List (List ℕ)) (cleared scaled : List ℕ) (c w : ℕ) (others : List (List ℕ)) : Type 0 where
  pub lead : IsLeading cleared c
  pub len : length scaled ≡ n
  pub value : (j : ℕ) → j < n → get_or scaled j 0 ≡ (w * get_or cleared j 0) % p
  pub one : (w * get_or cleared c 0) % p ≡ 1
  pub count : length others ≡ length rows
  pub widths : (k : ℕ) → k < length rows → length (get_or others k []) ≡ n
  pub entries : (k j : ℕ) → k < length rows → j < n → Same p (cell others k j) (cell rows k j + minus p (cell rows k c) * get_or scaled j 0)

module _ (p n c w : ℕ) (rows others : List (List ℕ)) (pivots row cleared scaled : List ℕ) (two : 2 ≤ p) (form : HasEchelon p n rows pivots) (h : IsCleared p n rows pivots row cleared) (t : IsTaken p n rows cleared scaled c w others) where
  abbrev rows2 : List (List ℕ)
  rows2 = others ++ scaled ∷ []

  abbrev pivots2 : List ℕ
  pivots2 = pivots ++ c ∷ []

  count2 : length rows2 ≡ length rows + 1
  count2 = let e = t.count in omega (arith, length_push others scaled)

  scaled_at : (j : ℕ) → j < n → Same p (get_or scaled j 0) (w * get_or cleared j 0)
  scaled_at j l = same_trans (exact (t.value j l)) (same_mod p (w * get_or cleared j 0))

  within : c < n
  within = let a = t.lead.within in let b = h.len in omega arith

  inserted : IsInserted p n (length rows) (cell rows) (λ k. get_or pivots k 0) (λ j. get_or scaled j 0) c (cell rows2) (λ k. get_or pivots2 k 0)
  inserted = record {
    by = λ k. minus p (cell rows k c);
    clears = λ k l. let o = neg_cancel p (cell rows k c) (omega arith) in same_by p 0 (cell rows k c) _ _ (omega arith);
    others = λ k j lk lj. let e = t.count in same_trans (exact (ap (λ (r : List ℕ). get_or r j 0) (get_or_append_left others (scaled ∷ []) [] k (omega arith)))) (t.entries k j lk lj);
    last = λ j. ap (λ (r : List ℕ). get_or r j 0) (get_or_push others scaled [] (length rows) t.count);
    pivots = λ k l. let e = form.sizes in get_or_append_left pivots (c ∷ []) 0 k (omega arith);
    new_pivot = get_or_push pivots c 0 (length rows) (sym form.sizes);
  }

  one_at : Same p (get_or scaled c 0) 1
  one_at = exact (t.value c within ∙ t.one)

  first_at : (j : ℕ) → j < c → Same p (get_or scaled j 0) 0
  first_at j l = let a = within in same_trans (scaled_at j (omega arith)) (exact (ap (λ (x : ℕ). w * x) (t.lead.first j l) ∙ omega arith))

  free_at : (k : ℕ) → k < length rows → Same p (get_or scaled (get_or pivots k 0) 0) 0
  free_at k l = same_trans (scaled_at (get_or pivots k 0) (form.echelon.columns k l)) (same_trans (same-scale w (h.zero_at k l)) (exact (omega arith)))

  pub taken_form : HasEchelon p n rows2 pivots2
  taken_form = record {
    sizes = let a = count2 in let b = form.sizes in omega (arith, length_push pivots c);
    widths = λ k l. let a = count2 in let e = t.count in ⊎_elim
        (λ m. ap length (get_or_append_left others (scaled ∷ []) [] k (omega arith)) ∙ t.widths k m)
        (λ m. ap length (get_or_push others scaled [] k (omega arith)) ∙ t.len)
        (below_cases k (length rows) (omega arith));
    echelon = subst (λ (s : ℕ). IsEchelon p n s (cell rows2) (λ k. get_or pivots2 k 0)) (sym count2)
        (inserted_echelon p n (length rows) c (cell rows) (cell rows2) (λ k. get_or pivots k 0) (λ k. get_or pivots2 k 0) (λ j. get_or scaled j 0) form.echelon inserted within one_at first_at free_at);
  }

  -- what the scaled row gives 0, the row gives 0, and the other way round
  from_row : (v : ℕ → ℕ) → IsInKernel p (length rows) n (cell rows) v → Same p (along n (λ j. get_or row j 0) v) 0 → Same p (along n (λ j. get_or scaled j 0) v) 0
  from_row v k z = same_trans (along-scale p n (λ j. get_or cleared j 0) (λ j. get_or scaled j 0) v w scaled_at) (same_trans (same-scale w (same_trans (h.kernel v k) z)) (exact (omega arith)))

  to_row : (v : ℕ → ℕ) → IsInKernel p (length rows) n (cell rows) v → Same p (along n (λ j. get_or scaled j 0) v) 0 → Same p (along n (λ j. get_or row j 0) v) 0
  to_row v k z =
      let x = get_or cleared c 0 in
      let y = along n (λ j. get_or cleared j 0) v in
      let a : Same p (w * y) 0 = same_trans (same_sym (along-scale p n (λ j. get_or cleared j 0) (λ j. get_or scaled j 0) v w scaled_at)) z in
      let u : Same p (w * x) 1 = same_trans (same_sym (same_mod p (w * x))) (exact t.one) in
      let b : Same p y 0 = same_trans (same_trans (exact (omega arith)) (same_sym (same-mul u (same_refl p y)))) (same_trans (exact (omega arith)) (same_trans (same-scale x a) (exact (omega arith)))) in
      same_trans (same_sym (h.kernel v k)) b

  pub taken_kernel : IsExtended p n (length rows) (length rows2) (cell rows) (λ j. get_or row j 0) (cell rows2)
  taken_kernel = subst (λ (s : ℕ). IsExtended p n (length rows) s (cell rows) (λ j. get_or row j 0) (cell rows2)) (sym count2) (record {
    forth = λ v k z. inserted_forth p n (length rows) c (cell rows) (cell rows2) (λ k. get_or pivots k 0) (λ k. get_or pivots2 k 0) (λ j. get_or scaled j 0) form.echelon inserted within one_at first_at free_at v k (from_row v k z);
    back = λ v k. inserted_back p n (length rows) c (cell rows) (cell rows2) (λ k. get_or pivots k 0) (λ k. get_or pivots2 k 0) (λ j. get_or scaled j 0) form.echelon inserted within one_at first_at free_at v k;
    last = λ v k. to_row v
        (inserted_back p n (length rows) c (cell rows) (cell rows2) (λ k. get_or pivots k 0) (λ k. get_or pivots2 k 0) (λ j. get_or scaled j 0) form.echelon inserted within one_at first_at free_at v k)
        (inserted_last p n (length rows) c (cell rows) (cell rows2) (λ k. get_or pivots k 0) (λ k. get_or pivots2 k 0) (λ j. get_or scaled j 0) form.echelon inserted within one_at first_at free_at v k);
  })
