-- Matrices in tables of a map: all rows, and those that have lines.
use Rattle.std.proofs.Common.{◌≡◌, ℕ, zero, suc, ◌+◌, ◌*◌, ◌<◌, ◌≤◌, refl, sym, ap, ◌∙◌, arith, ⊎_elim, List, [], ◌∷◌, ◌++◌, length, get_or, map, Bool, true, false, cond, subst}
use Rattle.std.proofs.lemmas.Bool.{cases_Bool, cases_lt, eqb-true}
use Rattle.std.proofs.lemmas.List.{get_or_past}
use Rattle.std.proofs.Math.Nat.{zero-mul, suc-mul}
use Rattle.std.specs.Prelude.{◌==◌}
use Rattle.witness_laws.specs.Lines.{each}
use Rattle.witness_laws.specs.Parts.{AreMatrices}
use Rattle.witness_laws.proofs.Runs.{each_same, length_singles}
use Rattle.witness_scanning.specs.Terms.{AreBelow}
use Rattle.witness_runs.specs.Rows.{AreRows, joined}
use Rattle.witness_reading.proofs.Forms.{Item}
use Rattle.witness_reading.proofs.Flat.{each_of_list}
use Rattle.map_lines.specs.Matrices.{row_lines}
use Rattle.map_lines.proofs.Rows.{row_items, matrices_items, AreMatrixRows}
use Rattle.map_lines.proofs.Values.{each_within}

-- so many rows without entries
abbrev pub empty_rows : ℕ → List (List ℕ)
empty_rows n = each n (λ i. [] ∷ [])

empty_many : (n : ℕ) → length (empty_rows n) ≡ n
empty_many n = length_singles n (λ i. [])

empty_at : (n i : ℕ) → length (get_or (empty_rows n) i []) ≡ 0
empty_at zero i = refl
empty_at (suc n) zero = refl
empty_at (suc n) (suc i) = empty_at n i

-- ---- rows by place

below_by : (p : ℕ) (es : List ℕ) → ((s : ℕ) → s < length es → get_or es s 0 < p) → AreBelow p es
below_by p [] h = tt
below_by p (e ∷ es) h = (h 0 (omega arith), below_by p es (λ s l. h (suc s) (omega arith)))

below_at : (p : ℕ) (es : List ℕ) → AreBelow p es → (s : ℕ) → s < length es → get_or es s 0 < p
below_at p [] h s l = absurd (omega arith)
below_at p (e ∷ es) h zero l = h.0
below_at p (e ∷ es) h (suc s) l = below_at p es h.1 s (omega arith)

rows_by : (p w : ℕ) (rs : List (List ℕ)) → ((r : ℕ) → r < length rs → length (get_or rs r []) ≡ w) → ((r s : ℕ) → r < length rs → s < w → get_or (get_or rs r []) s 0 < p) → AreRows p w rs
rows_by p w [] h k = tt
rows_by p w (r ∷ rs) h k =
    let e : length r ≡ w = h 0 (omega arith) in
    (e, below_by p r (λ s l. k 0 s (omega arith) (omega arith)), rows_by p w rs (λ i l. h (suc i) (omega arith)) (λ i s l m. k (suc i) s (omega arith) m))

row_length : (p w : ℕ) (rs : List (List ℕ)) → AreRows p w rs → (r : ℕ) → r < length rs → length (get_or rs r []) ≡ w
row_length p w [] a r l = absurd (omega arith)
row_length p w (x ∷ rs) a zero l = a.0
row_length p w (x ∷ rs) a (suc r) l = row_length p w rs a.2 r (omega arith)

row_below : (p w : ℕ) (rs : List (List ℕ)) → AreRows p w rs → (r s : ℕ) → r < length rs → s < w → get_or (get_or rs r []) s 0 < p
row_below p w [] a r s l m = absurd (omega arith)
row_below p w (x ∷ rs) a zero s l m = let e = a.0 in below_at p x a.1 s (omega arith)
row_below p w (x ∷ rs) a (suc r) s l m = row_below p w rs a.2 r s (omega arith) m

-- ---- a matrix, and its rows that have lines

abbrev pub shown : ℕ → List (List ℕ) → List (List ℕ)
shown w rs = cond (w == 0) [] rs

abbrev pub full : ℕ → ℕ → List (List ℕ) → List (List ℕ)
full h w rs = cond (w == 0) (empty_rows h) rs

shown_many : (h w : ℕ) (rs : List (List ℕ)) → length rs ≡ h → length (shown w rs) ≡ row_lines h w
shown_many h w rs e = by (w == 0)
  where
    by : (b : Bool) → length (cond b [] rs) ≡ cond b 0 h
    by true = refl
    by false = e

shown_are : (p w : ℕ) (rs : List (List ℕ)) → AreRows p w rs → AreRows p w (shown w rs)
shown_are p w rs a = by (w == 0)
  where
    by : (b : Bool) → AreRows p w (cond b [] rs)
    by true = tt
    by false = a

full_many : (h w : ℕ) (rs : List (List ℕ)) → length rs ≡ row_lines h w → length (full h w rs) ≡ h
full_many h w rs e = by (w == 0) e
  where
    by : (b : Bool) → length rs ≡ cond b 0 h → length (cond b (empty_rows h) rs) ≡ h
    by true f = empty_many h
    by false f = f

no_rows : (rs : List (List ℕ)) → length rs ≡ 0 → rs ≡ []
no_rows [] e = refl
no_rows (r ∷ rs) e = absurd (omega arith)

shown_full : (h w : ℕ) (rs : List (List ℕ)) → length rs ≡ row_lines h w → shown w (full h w rs) ≡ rs
shown_full h w rs e = by (w == 0) e
  where
    by : (b : Bool) → length rs ≡ cond b 0 h → cond b [] (cond b (empty_rows h) rs) ≡ rs
    by true f = sym (no_rows rs f)
    by false f = refl

full_length : (p h w : ℕ) (rs : List (List ℕ)) → AreRows p w rs → length rs ≡ row_lines h w → (r : ℕ) → r < h → length (get_or (full h w rs) r []) ≡ w
full_length p h w rs a e r l = ⊎_elim
    (λ q. let z : w ≡ 0 = omega (arith, eqb-true w 0 q) in ap (λ b. length (get_or (cond b (empty_rows h) rs) r [])) q ∙ empty_at h r ∙ sym z)
    (λ q. let n : length rs ≡ h = e ∙ ap (λ b. cond b 0 h) q in
    ap (λ b. length (get_or (cond b (empty_rows h) rs) r [])) q ∙ row_length p w rs a r (omega arith))
    (cases_Bool (w == 0))

full_below : (p h w : ℕ) (rs : List (List ℕ)) → AreRows p w rs → length rs ≡ row_lines h w → (r s : ℕ) → r < h → s < w → get_or (get_or (full h w rs) r []) s 0 < p
full_below p h w rs a e r s l m = ⊎_elim
    (λ q. absurd (let z : w ≡ 0 = omega (arith, eqb-true w 0 q) in omega arith))
    (λ q. let n : length rs ≡ h = e ∙ ap (λ b. cond b 0 h) q in
    subst (λ b. get_or (get_or (cond b (empty_rows h) rs) r []) s 0 < p) (sym q) (row_below p w rs a r s (omega arith) m))
    (cases_Bool (w == 0))

-- ---- those of all degrees

module _ (height width : ℕ → ℕ) where
  abbrev pub all_shown : ℕ → List (List (List ℕ)) → List (List (List ℕ))
  all_shown k [] = []
  all_shown k (m ∷ ms) = shown (width k) m ∷ all_shown (suc k) ms

  abbrev pub all_full : ℕ → List (List (List ℕ)) → List (List (List ℕ))
  all_full k [] = []
  all_full k (m ∷ ms) = full (height k) (width k) m ∷ all_full (suc k) ms

  pub all_shown_many : (k : ℕ) (ms : List (List (List ℕ))) → length (all_shown k ms) ≡ length ms
  all_shown_many k [] = refl
  all_shown_many k (m ∷ ms) = ap suc (all_shown_many (suc k) ms)

  pub all_full_many : (k : ℕ) (ms : List (List (List ℕ))) → length (all_full k ms) ≡ length ms
  all_full_many k [] = refl
  all_full_many k (m ∷ ms) = ap suc (all_full_many (suc k) ms)

  -- the lines of all rows, degree by degree
  pub items_by : (k : ℕ) (ms : List (List (List ℕ))) → each (length ms) (λ j. row_items (k + j) (shown (width (k + j)) (get_or ms j []))) ≡ matrices_items k (all_shown k ms)
  items_by k [] = refl
  items_by k (m ∷ ms) =
      let z : k + 0 ≡ k = omega arith in
      ap (λ (n : ℕ). row_items n (shown (width n) m) ++ each (length ms) (λ j. row_items (k + suc j) (shown (width (k + suc j)) (get_or ms j [])))) z
      ∙ ap (λ (l : List Item). row_items k (shown (width k) m) ++ l)
      (each_same (length ms) (λ j. row_items (k + suc j) (shown (width (k + suc j)) (get_or ms j []))) (λ j. row_items (suc k + j) (shown (width (suc k + j)) (get_or ms j [])))
      (λ j. ap (λ (n : ℕ). row_items n (shown (width n) (get_or ms j []))) (let q : k + suc j ≡ suc k + j = omega arith in q))
      ∙ items_by (suc k) ms)

  module _ (p : ℕ) where
    pub shown_rows : (k : ℕ) (ms : List (List (List ℕ))) → ((j : ℕ) → j < length ms → length (get_or ms j []) ≡ height (k + j))
        → ((j r : ℕ) → j < length ms → r < height (k + j) → length (get_or (get_or ms j []) r []) ≡ width (k + j))
        → ((j r s : ℕ) → j < length ms → r < height (k + j) → s < width (k + j) → get_or (get_or (get_or ms j []) r []) s 0 < p)
        → AreMatrixRows p height width k (all_shown k ms)
    shown_rows k [] a b c = tt
    shown_rows k (m ∷ ms) a b c =
        let z : k + 0 ≡ k = omega arith in
        let n : length m ≡ height k = a 0 (omega arith) ∙ ap height z in
        let h : height (k + 0) ≡ height k = ap height z in
        let w : width (k + 0) ≡ width k = ap width z in (
          shown_many (height k) (width k) m n,
          shown_are p (width k) m (rows_by p (width k) m (λ r l. b 0 r (omega arith) (omega arith) ∙ w) (λ r s l t. c 0 r s (omega arith) (omega arith) (omega arith))),
          shown_rows (suc k) ms
              (λ j l. a (suc j) (omega arith) ∙ ap height (let q : k + suc j ≡ suc k + j = omega arith in q))
              (λ j r l t. let q : k + suc j ≡ suc k + j = omega arith in let e = ap height q in b (suc j) r (omega arith) (omega arith) ∙ ap width q)
              (λ j r s l t u. let q : k + suc j ≡ suc k + j = omega arith in let e = ap height q in let d = ap width q in c (suc j) r s (omega arith) (omega arith) (omega arith)),
        )

    pub shown_back : (k : ℕ) (ms : List (List (List ℕ))) → AreMatrixRows p height width k ms → all_shown k (all_full k ms) ≡ ms
    shown_back k [] a = refl
    shown_back k (m ∷ ms) a =
        ap (λ (x : List (List ℕ)). x ∷ all_shown (suc k) (all_full (suc k) ms)) (shown_full (height k) (width k) m a.0) ∙ ap (λ (l : List (List (List ℕ))). m ∷ l) (shown_back (suc k) ms a.2)

    full_at : (k : ℕ) (ms : List (List (List ℕ))) → AreMatrixRows p height width k ms → (j i : ℕ) → j < length ms → i ≡ k + j → length (get_or (all_full k ms) j []) ≡ height i
    full_at k [] a j i l e = absurd (omega arith)
    full_at k (m ∷ ms) a zero i l e = full_many (height k) (width k) m a.0 ∙ ap height (let q : k ≡ i = omega arith in q)
    full_at k (m ∷ ms) a (suc j) i l e = full_at (suc k) ms a.2 j i (omega arith) (omega arith)

    full_wide : (k : ℕ) (ms : List (List (List ℕ))) → AreMatrixRows p height width k ms → (j i r : ℕ) → j < length ms → i ≡ k + j → r < height i
        → length (get_or (get_or (all_full k ms) j []) r []) ≡ width i
    full_wide k [] a j i r l e t = absurd (omega arith)
    full_wide k (m ∷ ms) a zero i r l e t =
        let q : k ≡ i = omega arith in
        let h = ap height q in
        full_length p (height k) (width k) m a.1 a.0 r (omega arith) ∙ ap width q
    full_wide k (m ∷ ms) a (suc j) i r l e t = full_wide (suc k) ms a.2 j i r (omega arith) (omega arith) t

    full_entries : (k : ℕ) (ms : List (List (List ℕ))) → AreMatrixRows p height width k ms → (j i r s : ℕ) → j < length ms → i ≡ k + j → r < height i → s < width i
        → get_or (get_or (get_or (all_full k ms) j []) r []) s 0 < p
    full_entries k [] a j i r s l e t u = absurd (omega arith)
    full_entries k (m ∷ ms) a zero i r s l e t u =
        let q : k ≡ i = omega arith in
        let h = ap height q in
        let w = ap width q in
        full_below p (height k) (width k) m a.1 a.0 r s (omega arith) (omega arith)
    full_entries k (m ∷ ms) a (suc j) i r s l e t u = full_entries (suc k) ms a.2 j i r s (omega arith) (omega arith) t u

    -- all rows are matrices
    pub full_are : (top : ℕ) (ms : List (List (List ℕ))) → length ms ≡ suc top → AreMatrixRows p height width 0 ms → ((k : ℕ) → suc top ≤ k → height k ≡ 0)
        → AreMatrices p top height width (all_full 0 ms)
    full_are top ms e a z = record {
      degrees = all_full_many 0 ms ∙ e ∙ (let q : suc top ≡ top + 1 = omega arith in q);
      rows = λ k. ⊎_elim
          (λ l. full_at 0 ms a k k (omega arith) (omega arith))
          (λ l. ap length (get_or_past (all_full 0 ms) k [] (let n = all_full_many 0 ms in omega arith)) ∙ sym (z k (omega arith)))
          (cases_lt k (suc top));
      columns = λ k r l. full_wide 0 ms a k k r (inside k r l) (omega arith) l;
      entries = λ k r s l t. full_entries 0 ms a k k r s (inside k r l) (omega arith) l t;
    }
      where
        inside : (k r : ℕ) → r < height k → k < length ms
        inside k r l = ⊎_elim (λ m. omega arith) (λ m. absurd (let q = z k (omega arith) in omega arith)) (cases_lt k (suc top))

-- ---- the rows of a table

at_front : (xs ys : List ℕ) (s : ℕ) → s < length xs → get_or (xs ++ ys) s 0 ≡ get_or xs s 0
at_front [] ys s l = absurd (omega arith)
at_front (x ∷ xs) ys zero l = refl
at_front (x ∷ xs) ys (suc s) l = at_front xs ys s (omega arith)

at_back : (xs ys : List ℕ) (s i : ℕ) → i ≡ length xs + s → get_or (xs ++ ys) i 0 ≡ get_or ys s 0
at_back [] ys s i e = ap (λ (n : ℕ). get_or ys n 0) (let q : i ≡ s = omega arith in q)
at_back (x ∷ xs) ys s zero e = absurd (omega arith)
at_back (x ∷ xs) ys s (suc i) e = at_back xs ys s i (omega arith)

-- rows of one length, told by their joined entries
pub rows_joined : (p w : ℕ) (rs : List (List ℕ)) → AreRows p w rs → each (length rs) (λ r. each w (λ s. get_or (joined rs) (r * w + s) 0 ∷ []) ∷ []) ≡ rs
rows_joined p w [] a = refl
rows_joined p w (r ∷ rs) a =
    let first : each w (λ s. get_or (r ++ joined rs) (0 * w + s) 0 ∷ []) ≡ r =
    each_within w (λ s. get_or (r ++ joined rs) (0 * w + s) 0 ∷ []) (λ s. get_or r s 0 ∷ [])
    (λ s l. let z : 0 * w + s ≡ s = (let q : 0 * w ≡ 0 = zero-mul w in omega arith) in
    ap (λ (x : ℕ). x ∷ []) (ap (λ (n : ℕ). get_or (r ++ joined rs) n 0) z ∙ at_front r (joined rs) s (let e = a.0 in omega arith)))
    ∙ ap (λ (n : ℕ). each n (λ s. get_or r s 0 ∷ [])) (sym a.0) ∙ each_of_list (λ x. x) r 0 ∙ same r in
    let others : each (length rs) (λ i. each w (λ s. get_or (r ++ joined rs) (suc i * w + s) 0 ∷ []) ∷ []) ≡ each (length rs) (λ i. each w (λ s. get_or (joined rs) (i * w + s) 0 ∷ []) ∷ []) =
    each_same (length rs) (λ i. each w (λ s. get_or (r ++ joined rs) (suc i * w + s) 0 ∷ []) ∷ []) (λ i. each w (λ s. get_or (joined rs) (i * w + s) 0 ∷ []) ∷ [])
    (λ i. ap (λ (l : List ℕ). l ∷ [])
    (each_same w (λ s. get_or (r ++ joined rs) (suc i * w + s) 0 ∷ []) (λ s. get_or (joined rs) (i * w + s) 0 ∷ [])
    (λ s. ap (λ (x : ℕ). x ∷ []) (at_back r (joined rs) (i * w + s) (suc i * w + s) (let e : length r ≡ w = a.0 in let q : suc i * w ≡ i * w + w = suc-mul i w in omega arith))))) in
    ap (λ (x : List ℕ). x ∷ each (length rs) (λ i. each w (λ s. get_or (r ++ joined rs) (suc i * w + s) 0 ∷ []) ∷ [])) first
    ∙ ap (λ (l : List (List ℕ)). r ∷ l) (others ∙ rows_joined p w rs a.2)
  where
    same : (xs : List ℕ) → map (λ x. x) xs ≡ xs
    same [] = refl
    same (x ∷ xs) = ap (λ l. x ∷ l) (same xs)
