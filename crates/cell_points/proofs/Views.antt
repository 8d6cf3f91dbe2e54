-- The cells of places: in order, and which they are.
use Rattle.std.proofs.Common.{◌≡◌, ℕ, zero, suc, ◌+◌, ◌<◌, ◌≤◌, ◌^◌, inl, inr, ⊎_elim, ◌/◌, ◌%◌, refl, sym, ap, ◌∙◌, subst, arith, List, [], ◌∷◌, ◌++◌, length, map, true, eqb}
use Rattle.std.specs.Prelude.{ℤ}
use Rattle.std.specs.List.{AllByRecursion}
use Rattle.std.specs.List.Sorted.{IsStrictlySortedBy}
use Rattle.std.specs.declared.cmp.Ordering.{Ordering}
use Rattle.std.specs.declared.cmp.Ordering.TheVariants.{Less}
use Rattle.std.proofs.lemmas.Bool.{cond_both}
use Rattle.elem_cubes.specs.Cells.{Factor, lower_of, cell_of}
use Rattle.elem_cubes.specs.Order.{cell_cmp}
use Rattle.elem_cubes.specs.KeepingLemmas.{lower-cell_of}
use Rattle.elem_cubes.proofs.Members.{In, In-map, map-In, In-flat, flat-In, In-append}
use Rattle.cell_points.specs.Masks.{turned, has_bit, ranks_from, ranks_of}
use Rattle.cell_points.specs.Places.{place_cmp, cells_at, cells_of_places, rank_of, IsPlace, ArePlaces}
use Rattle.cell_points.specs.declared.place.Place.{Place}
use Rattle.cell_points.proofs.Ranks.{ranks_In, mask_In, In_mask, bit_next}
use Rattle.cell_points.proofs.Axes.{cells_by_rank, cells_by_corner, length-lower, rank_of_ranked, ranked_rank_of}

-- a place with this corner has this rank
abbrev pub At : List Place → List ℤ → ℕ → Type 0
At places c r = (p : Place) × In places p × (p.corner ≡ c) × (has_bit p.mask r ≡ true)

pub all_at : {X : Type 0} (P : X → Type 0) (xs : List X) (x : X) → AllByRecursion P xs → In xs x → P x
all_at P [] x h m = absurd m
all_at P (y ∷ ys) x h (inl e) = subst P e h.0
all_at P (y ∷ ys) x h (inr m) = all_at P ys x h.1 m

pub all_from : {X : Type 0} (P : X → Type 0) (xs : List X) → ((x : X) → In xs x → P x) → AllByRecursion P xs
all_from P [] h = tt
all_from P (x ∷ xs) h = (h x (inl refl), all_from P xs (λ y m. h y (inr m)))

-- ---- membership

-- a cell at a place has its corner, and its rank is in the mask
pub cell_of_place : (p : Place) (q : List Factor) → IsPlace p → In (cells_at p) q → (lower_of q ≡ p.corner) × (has_bit p.mask (rank_of q) ≡ true) × (length q ≡ length p.corner)
cell_of_place p q h m =
    let f : ℕ → List Factor = λ r. cell_of p.corner (turned r) in
    let w = In-map f (ranks_of p.mask) q m in
    let k = mask_In p.mask w.0 w.1 in
    let low : lower_of q ≡ p.corner = ap lower_of (sym w.2) ∙ lower-cell_of p.corner (turned w.0) in
    (low, ap (has_bit p.mask) (ap rank_of (sym w.2) ∙ rank_of_ranked p.corner w.0 k.0 (h.fits w.0 k.1)) ∙ k.1, sym (length-lower q) ∙ ap length low)

pub view_In : (ps : List Place) (q : List Factor) → ArePlaces ps → In (cells_of_places ps) q → At ps (lower_of q) (rank_of q)
view_In ps q are m =
    let w = In-flat cells_at ps q m in
    let h = cell_of_place w.0 q (all_at IsPlace ps w.0 are.each w.1) w.2 in
    (w.0, w.1, sym h.0, h.1)

pub ranked_In : (p : Place) (r : ℕ) → IsPlace p → has_bit p.mask r ≡ true → In (cells_at p) (cell_of p.corner (turned r))
ranked_In p r h b = map-In (λ r. cell_of p.corner (turned r)) (ranks_of p.mask) r (In_mask p.mask r h.small b)

pub In_view : (ps : List Place) (q : List Factor) → ArePlaces ps → At ps (lower_of q) (rank_of q) → In (cells_of_places ps) q
In_view ps q are w =
    let p = w.0 in
    let h : IsPlace p = all_at IsPlace ps p are.each w.1 in
    let short : length q ≤ 4 = let s = h.short in let l = length-lower q in let k : length p.corner ≡ length (lower_of q) = ap length w.2 in omega arith in
    let e : cell_of p.corner (turned (rank_of q)) ≡ q = ap (λ c. cell_of c (turned (rank_of q))) w.2 ∙ ranked_rank_of q short in
    flat-In cells_at ps p q w.1 (subst (λ (s : List Factor). In (cells_at p) s) e (ranked_In p (rank_of q) h w.3))

-- ---- order

sorted_ranks : (c : List ℤ) (n r m : ℕ) → r + n ≤ 16 → ((k : ℕ) → has_bit m k ≡ true → turned (r + k) < 2 ^ length c) → IsStrictlySortedBy cell_cmp (map (λ r. cell_of c (turned r)) (ranks_from n r m))
unfolding IsStrictlySortedBy
sorted_ranks c zero r m l h = tt
sorted_ranks c (suc n) r m l h =
    let f : ℕ → List Factor = λ r. cell_of c (turned r) in
    let step : (k : ℕ) → has_bit (m / 2) k ≡ true → turned (suc r + k) < 2 ^ length c =
    λ k b. let e : r + suc k ≡ suc r + k = omega arith in subst (λ (x : ℕ). turned x < 2 ^ length c) e (h (suc k) (bit_next m k ∙ b)) in
    let rest = sorted_ranks c n (suc r) (m / 2) (omega arith) step in
    cond_both (eqb (m % 2) 1) (r ∷ ranks_from n (suc r) (m / 2)) (ranks_from n (suc r) (m / 2)) (λ xs. IsStrictlySortedBy cell_cmp (map f xs))
    (λ t. (
      all_from (λ y. cell_cmp (f r) y ≡ Less) (map f (ranks_from n (suc r) (m / 2))) (λ q i.
          let w = In-map f (ranks_from n (suc r) (m / 2)) q i in
          let k = ranks_In n (suc r) (m / 2) w.0 w.1 in
          let e : w.0 ≡ suc r + k.0 = k.2 in
          subst (λ (s : List Factor). cell_cmp (f r) s ≡ Less) w.2
          (cells_by_rank c r w.0 (omega (arith, k.2)) (omega (arith, k.1, k.2)) (subst (λ (x : ℕ). turned x < 2 ^ length c) (sym e) (step k.0 k.3)))),
      rest,
    ))
    (λ _. rest)

sorted_place : (p : Place) → IsPlace p → IsStrictlySortedBy cell_cmp (cells_at p)
unfolding ranks_of
sorted_place p h = sorted_ranks p.corner 16 0 p.mask (omega arith) (λ k b. let e : k ≡ 0 + k = omega arith in subst (λ (x : ℕ). turned x < 2 ^ length p.corner) e (h.fits k b))

pub sorted_append : {K : Type 0} (cmp : K → K → Ordering) (xs ys : List K) → IsStrictlySortedBy cmp xs → IsStrictlySortedBy cmp ys → ((x y : K) → In xs x → In ys y → cmp x y ≡ Less) → IsStrictlySortedBy cmp (xs ++ ys)
unfolding IsStrictlySortedBy
sorted_append cmp [] ys h k l = k
sorted_append cmp (x ∷ xs) ys h k l = (
  all_from (λ y. cmp x y ≡ Less) (xs ++ ys) (λ y m. ⊎_elim (all_at (λ y. cmp x y ≡ Less) xs y h.0) (λ n. l x y (inl refl) n) (In-append xs ys y m)),
  sorted_append cmp xs ys h.1 k (λ z y m n. l z y (inr m) n),
)

sorted_view : (ps : List Place) → IsStrictlySortedBy place_cmp ps → AllByRecursion IsPlace ps → IsStrictlySortedBy cell_cmp (cells_of_places ps)
unfolding IsStrictlySortedBy
sorted_view [] s h = tt
sorted_view (p ∷ ps) s h = sorted_append cell_cmp (cells_at p) (cells_of_places ps) (sorted_place p h.0) (sorted_view ps s.1 h.1) (λ q r m n.
    let w = In-flat cells_at ps r n in
    let a = cell_of_place p q h.0 m in
    let b = cell_of_place w.0 r (all_at IsPlace ps w.0 h.1 w.1) w.2 in
    cells_by_corner q r p.corner w.0.corner a.0 b.0 (all_at (λ y. place_cmp p y ≡ Less) ps w.0 s.0 w.1))

pub sorted_cells : (ps : List Place) → ArePlaces ps → IsStrictlySortedBy cell_cmp (cells_of_places ps)
sorted_cells ps are = sorted_view ps are.sorted are.each
