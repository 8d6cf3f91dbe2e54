-- The laws of images, over numbers and over cells.
use Rattle.std.proofs.Common.{◌≡◌, ◌↔◌, ℕ, zero, suc, ◌+◌, ◌-◌, ◌*◌, ◌%◌, ◌^◌, ◌<◌, ◌≤◌, refl, sym, ap, ◌∙◌, subst, arith, ⊎_elim, List, [], ◌∷◌, ◌++◌, length, get_or, take, true, false, true≢false, cond, eqb, Option, Some, None}
use Rattle.std.specs.List.{Contains}
use Rattle.std.proofs.lemmas.Bool.{cases_lt, cases_Bool}
use Rattle.std.proofs.lemmas.List.{get_or_past, get_or-map, take_more, take_all}
use native.Mathlib.Nat.{mul-zero, mod-mod}
use Rattle.std.proofs.Math.Nat.{mod-eq_of_lt}
use Rattle.field_mod.specs.Sums.{total}
use Rattle.field_mod.specs.Modular.{Same}
use Rattle.field_mod.proofs.Sums.{total-same, total-zero, total-add, total-single, total_same, total_none}
use Rattle.field_mod.proofs.Modular.{same_by, same_refl, same_sym, same_trans, same-add, same-mul, neg_cancel}
use Rattle.elem_cubes.specs.Cells.{Factor, dimension_of}
use Rattle.elem_cubes.specs.Boundary.{boundary_at, boundary_coefficient}
use Rattle.elem_cubes.specs.Laws.{cell_at}
use Rattle.elem_cubes.proofs.Modular.{exact}
use Rattle.elem_cubes.proofs.Boundaries.{boundary_at_is_boundary}
use Rattle.elem_cubes.proofs.Zeros.{face_or_zero}
use Rattle.chains.specs.Terms.{coefficient, nth_chain, augmentation}
use Rattle.chains.specs.ChainComplex.{ChainComplex, boundary, incidence}
use Rattle.chains.proofs.TermLists.{named_at}
use Rattle.cube_sets.specs.Closures.{is_cell_of}
use Rattle.cell_complex.specs.Numbering.{IsListing, number_of}
use Rattle.cell_complex.specs.Acyclic.{sum_over}
use Rattle.cell_complex.proofs.Deciding.{closed}
use Rattle.cell_complex.proofs.Numbering.{found, listed, number_at}
use Rattle.acyclic_values.specs.CarriedMaps.{image}
use Rattle.acyclic_values.proofs.Cells.{cells_listing}
use Rattle.map_checks.specs.Faults.{together}
use Rattle.witness_laws.specs.declared.law.Law.{Law}
use Rattle.witness_laws.specs.declared.law.Law.TheVariants as laws
use Rattle.witness_laws.specs.Lines.{image as image_line}
use Rattle.witness_laws.specs.Inputs.{Given, Target, target_of, all_cells}
use Rattle.witness_laws.specs.Parts.{chain_of, nth, cell_of, value_at, range_cells, image_of, NameCells, IsCarriedTo, IsAugmented, Commutes}
use Rattle.witness_laws.specs.Tables.{Tables, map_of, holds}
use Rattle.witness_laws.proofs.Naming.{none_or}
use Rattle.witness_sections.specs.Outcomes.{second, AllHold, FailsBy, IsLineOutcome}
use Rattle.witness_sections.specs.Readings.{IsNamed}
use Rattle.witness_sections.proofs.Parting.{reduced}
use Rattle.witness_values.specs.Images.{IsCarriedBy, AugmentsBy, CommutesBy, IsImageOutcome, AreImagesOf, IsImageTold}

-- ---- sums of coefficients

pub augmentation-append : (ts us : List (ℕ × ℕ)) → augmentation (ts ++ us) ≡ augmentation ts + augmentation us
augmentation-append [] us = omega arith
augmentation-append (t ∷ ts) us = let e = augmentation-append ts us in omega (arith, e)

pub augmentation_more : (p : ℕ) (ts : List (ℕ × ℕ)) (t : ℕ × ℕ) (i n m : ℕ) → i < length ts → t ≡ get_or ts i (0, 0) → n ≡ augmentation (take i ts) % p → m ≡ (n + t.1) % p → m ≡ augmentation (take (i + 1) ts) % p
augmentation_more p ts t i n m l e so_far sum =
    let one : Same p n (augmentation (take i ts)) = record { same = ap (λ v. v % p) so_far ∙ mod-mod (augmentation (take i ts)) p } in
    let a : augmentation (take (i + 1) ts) ≡ augmentation (take i ts) + t.1 = ap augmentation (take_more ts i (0, 0) l ∙ ap (λ (u : ℕ × ℕ). take i ts ++ u ∷ []) (sym e)) ∙ augmentation-append (take i ts) (t ∷ []) ∙ omega arith in
    sum ∙ (same_trans (same-add one (same_refl p t.1)) (exact p (sym a))).same

pub augmentation_end : (p : ℕ) (ts : List (ℕ × ℕ)) (i n : ℕ) → length ts ≤ i → n ≡ augmentation (take i ts) % p → n ≡ augmentation ts % p
augmentation_end p ts i n l e = e ∙ ap (λ us. augmentation us % p) (take_all i ts l)

-- the sum over all numbers below n is that of the terms
total_coefficient : (n : ℕ) (us : List (ℕ × ℕ)) → ((k : ℕ) → k < length us → (get_or us k (0, 0)).0 < n) → total n (coefficient us) ≡ augmentation us
total_coefficient n [] below = total-zero n
total_coefficient n (t ∷ us) below =
    total-add n (λ g. cond (eqb t.0 g) t.1 0) (coefficient us)
    ∙ ap (λ v. v + total n (coefficient us)) (total-same n (λ g. cond (eqb t.0 g) t.1 0) (λ g. cond (eqb t.0 g) t.1 0 * 1) (λ g l. omega arith) ∙ total-single n t.0 t.1 (λ g. 1) (below 0 (omega arith)) ∙ omega arith)
    ∙ ap (λ v. t.1 + v) (total_coefficient n us (λ k l. below (suc k) (omega (arith, l))))

-- the difference of two chains is 0 where they are the same
pub minus_iff : (p a b s : ℕ) → 1 ≤ p → s ≡ p - 1 → Same p (a + s * b) 0 ↔ Same p b a
minus_iff p a b s one e = (
  (λ h. same_trans (exact p (omega arith)) (same_trans (same_sym (same-add h (same_refl p b))) (same_by p 0 b (a + s * b + b) a (let n = neg_cancel p b one in let f = ap (λ v. v * b) e in omega (arith, n, f))))),
  (λ h. same_trans (same-add (same_sym h) (same_refl p (s * b))) (same_by p 0 b (b + s * b) 0 (let n = neg_cancel p b one in let f = ap (λ v. v * b) e in omega (arith, n, f)))),
)

-- the difference of two chains, reduced
pub differ_iff : (p s : ℕ) (a b A B : ℕ → ℕ) → 2 ≤ p → s ≡ (p - 1) % p → ((g : ℕ) → a g ≡ A g % p) → ((g : ℕ) → b g ≡ B g % p) → ((g : ℕ) → Same p (a g + s * b g) 0) ↔ ((g : ℕ) → Same p (B g) (A g))
differ_iff p s a b A B two es ea eb = (
  (λ h g. same_trans (same_sym (reduced p (b g) (B g) (eb g))) (same_trans ((minus_iff p (a g) (b g) s (omega (arith, two)) minus).0 (h g)) (reduced p (a g) (A g) (ea g)))),
  (λ h g. (minus_iff p (a g) (b g) s (omega (arith, two)) minus).1 (same_trans (reduced p (b g) (B g) (eb g)) (same_trans (h g) (same_sym (reduced p (a g) (A g) (ea g)))))),
)
  where
    minus : s ≡ p - 1
    minus = es ∙ mod-eq_of_lt (let l : p - 1 < p = omega (arith, two) in l)

-- ---- what the terms name

pub carried_more : (cells value : List (List Factor)) (ts : List (ℕ × ℕ)) (i : ℕ) → ((k : ℕ) → k < i → Contains value (cell_at cells ((get_or ts k (0, 0)).0 - 1))) → Contains value (cell_at cells ((get_or ts i (0, 0)).0 - 1))
    → (k : ℕ) → k < i + 1 → Contains value (cell_at cells ((get_or ts k (0, 0)).0 - 1))
carried_more cells value ts i so_far here k l = ⊎_elim
    (λ below. so_far k below)
    (λ above. let e : i ≡ k = omega (arith, above, l) in subst (λ (j : ℕ). Contains value (cell_at cells ((get_or ts j (0, 0)).0 - 1))) e here)
    (cases_lt k i)

carried_to : (cells value : List (List Factor)) (ts : List (ℕ × ℕ)) → IsNamed (length cells) ts → IsCarriedBy cells value ts → NameCells cells (Contains value) ts
carried_to cells value [] named w = tt
carried_to cells value (t ∷ ts) named w = ((named 0 (omega arith)).0, (named 0 (omega arith)).1, w 0 (omega arith), carried_to cells value ts (λ k l. named (suc k) (omega (arith, l))) (λ k l. w (suc k) (omega (arith, l))))

carried_from : (cells value : List (List Factor)) (ts : List (ℕ × ℕ)) → NameCells cells (Contains value) ts → IsCarriedBy cells value ts
carried_from cells value [] w k l = absurd (omega (arith, l))
carried_from cells value (t ∷ ts) w zero l = w.2
carried_from cells value (t ∷ ts) w (suc k) l = carried_from cells value ts w.3 k (omega (arith, l))

-- all cells that a chain names are in the list
names_listed : (cells : List (List Factor)) (ts : List (ℕ × ℕ)) → IsNamed (length cells) ts → NameCells cells (λ q. (i : ℕ) × (i < length cells) × (cell_at cells i ≡ q)) ts
names_listed cells [] named = tt
names_listed cells (t ∷ ts) named =
    let a = (named 0 (omega arith)).0 in
    let b = (named 0 (omega arith)).1 in
    (a, b, (t.0 - 1, omega (arith, a, b), refl), names_listed cells ts (λ k l. named (suc k) (omega (arith, l))))

module _ (p : ℕ) (K L : ChainComplex) (us : List (List (ℕ × ℕ))) (G : Given) (W : Tables) (w : AreImagesOf p K L us G W) (i : ℕ) (li : i < length (all_cells G.x G.a)) where
  abbrev T : Target
  T = target_of G

  abbrev ds : List (List Factor)
  ds = all_cells G.x G.a

  abbrev rs : List (List Factor)
  rs = range_cells G

  abbrev fs : List (List (ℕ × ℕ))
  fs = (map_of W).images

  rl : IsListing (is_cell_of (together T.y T.b)) rs
  rl = cells_listing (together T.y T.b)

  number_here : (k : ℕ) → k < length ds → nth fs (number_of ds (cell_at ds k)) ≡ nth fs k
  number_here k l = ap (nth fs) (number_at (is_cell_of (together G.x G.a)) ds (cells_listing (together G.x G.a)) k l)

  read_at : (k g : ℕ) → g < length rs → Same p (nth_chain us k g) (chain_of rs (nth fs k) (cell_at rs g))
  read_at k g l = (w.images.each k).at g l

  -- ---- augmentation

  degree_is : get_or K.degrees i 0 ≡ dimension_of (cell_of G i)
  degree_is = ap (λ (es : List ℕ). get_or es i 0) w.domain.degrees ∙ get_or-map dimension_of ds i [] 0 li

  below : (k : ℕ) → k < length (nth us i) → (get_or (nth us i) k (0, 0)).0 < length rs
  below k l = ⊎_elim (λ m. m)
      (λ past. absurd (let n = named_at p 0 (2 ^ 32) (nth us i) k (w.images.each i).normal l in let z = (w.images.each i).within (get_or (nth us i) k (0, 0)).0 past in let a = n.1 in let b = n.2 in omega (arith, z, a, b)))
      (cases_lt (get_or (nth us i) k (0, 0)).0 (length rs))

  sum_is : Same p (augmentation (nth us i)) (sum_over rs (image_of G fs (cell_of G i)))
  sum_is = same_trans (exact p (sym (total_coefficient (length rs) (nth us i) below)))
      (total_same p (length rs) (coefficient (nth us i)) (λ g. image_of G fs (cell_of G i) (cell_at rs g)) (λ g l. same_trans (read_at i g l) (exact p (ap (λ (ts : List (ℕ × ℕ)). chain_of rs ts (cell_at rs g)) (sym (number_here i li))))))

  augmented_to : AugmentsBy p K.degrees us i → IsAugmented p G fs i
  augmented_to h e = same_trans (same_sym sum_is) (h (degree_is ∙ e))

  augmented_from : IsAugmented p G fs i → AugmentsBy p K.degrees us i
  augmented_from h e = same_trans sum_is (h (sym degree_is ∙ e))

  -- ---- boundaries

  -- a cell of the range, or none of its cells
  off : (k : ℕ) (q : List Factor) → is_cell_of (together T.y T.b) q ≡ false → chain_of rs (nth fs k) q ≡ 0
  off k q e = ⊎_elim (λ z. z)
      (λ n. absurd (true≢false (sym (subst (λ (r : List Factor). is_cell_of (together T.y T.b) r ≡ true) n.2 (listed (is_cell_of (together T.y T.b)) rs rl n.0 n.1)) ∙ e)))
      (none_or rs (λ r. (j : ℕ) × (j < length rs) × (cell_at rs j ≡ r)) (nth fs k) q (names_listed rs (nth fs k) (w.named k)))

  left : (q : List Factor) → Same p (total (length rs) (λ t. nth_chain us i t * boundary_coefficient p (cell_at rs t) q)) (boundary_at p q (image_of G fs (cell_of G i)))
  left q = same_trans
      (total_same p (length rs) (λ t. nth_chain us i t * boundary_coefficient p (cell_at rs t) q) (λ t. image_of G fs (cell_of G i) (cell_at rs t) * boundary_coefficient p (cell_at rs t) q)
      (λ t l. same-mul (same_trans (read_at i t l) (exact p (ap (λ (ts : List (ℕ × ℕ)). chain_of rs ts (cell_at rs t)) (sym (number_here i li))))) (same_refl p (boundary_coefficient p (cell_at rs t) q))))
      (boundary_at_is_boundary p rs (image_of G fs (cell_of G i)) q rl.once
      (λ s face nonzero. found (is_cell_of (together T.y T.b)) rs rl s (⊎_elim (λ e. e) (λ e. absurd (nonzero (ap (λ (ts : List (ℕ × ℕ)). chain_of rs ts s) (number_here i li) ∙ off i s e))) (cases_Bool (is_cell_of (together T.y T.b) s)))))

  left_at : (g : ℕ) → Same p (boundary L.boundaries (nth_chain us i) g) (total (length rs) (λ t. nth_chain us i t * boundary_coefficient p (cell_at rs t) (cell_at rs g)))
  left_at g = same_trans (exact p (ap (λ n. total n (λ t. nth_chain us i t * incidence L.boundaries t g)) w.range.count))
      (total_same p (length rs) (λ t. nth_chain us i t * incidence L.boundaries t g) (λ t. nth_chain us i t * boundary_coefficient p (cell_at rs t) (cell_at rs g)) (λ t l. same-mul (same_refl p (nth_chain us i t)) (w.range.incidences t g l)))

  abbrev around : List Factor → ℕ
  around q = image ds (image_of G fs) (boundary_coefficient p (cell_of G i)) q

  right_at : (g : ℕ) → g < length rs → Same p (boundary us (incidence K.boundaries i) g) (around (cell_at rs g))
  right_at g lg = same_trans (exact p (ap (λ n. total n (λ t. incidence K.boundaries i t * incidence us t g)) (w.images.count ∙ w.count)))
      (total_same p (length ds) (λ t. incidence K.boundaries i t * incidence us t g) (λ t. boundary_coefficient p (cell_of G i) (cell_at ds t) * image_of G fs (cell_at ds t) (cell_at rs g))
      (λ t l. same-mul (w.domain.incidences i t li) (same_trans (read_at t g lg) (exact p (ap (λ (ts : List (ℕ × ℕ)). chain_of rs ts (cell_at rs g)) (sym (number_here t l)))))))

  right_past : (g : ℕ) → length rs ≤ g → Same p (boundary us (incidence K.boundaries i) g) 0
  right_past g past = total_none p (length us) (λ t. incidence K.boundaries i t * incidence us t g) (λ t l. exact p (ap (λ v. incidence K.boundaries i t * v) ((w.images.each t).within g past) ∙ mul-zero (incidence K.boundaries i t)))

  -- past the cells of the range both are 0
  left_past : (q : List Factor) → ((t : ℕ) → t < length rs → boundary_coefficient p (cell_at rs t) q ≡ 0) → Same p (total (length rs) (λ t. nth_chain us i t * boundary_coefficient p (cell_at rs t) q)) 0
  left_past q none = total_none p (length rs) (λ t. nth_chain us i t * boundary_coefficient p (cell_at rs t) q) (λ t l. exact p (ap (λ v. nth_chain us i t * v) (none t l) ∙ mul-zero (nth_chain us i t)))

  no_coface : (q : List Factor) → is_cell_of (together T.y T.b) q ≡ false → (t : ℕ) → t < length rs → boundary_coefficient p (cell_at rs t) q ≡ 0
  no_coface q e t l = ⊎_elim
      (λ f. absurd (true≢false (sym (closed (together T.y T.b) (cell_at rs t) q f.0 (listed (is_cell_of (together T.y T.b)) rs rl t l)) ∙ e)))
      (λ z. z)
      (face_or_zero p (cell_at rs t) q)

  right_off : (q : List Factor) → is_cell_of (together T.y T.b) q ≡ false → Same p (around q) 0
  right_off q e = total_none p (length ds) (λ t. boundary_coefficient p (cell_of G i) (cell_at ds t) * image_of G fs (cell_at ds t) q)
      (λ t l. exact p (ap (λ v. boundary_coefficient p (cell_of G i) (cell_at ds t) * v) (ap (λ (ts : List (ℕ × ℕ)). chain_of rs ts q) (number_here t l) ∙ off t q e) ∙ mul-zero (boundary_coefficient p (cell_of G i) (cell_at ds t))))

  commutes_to : CommutesBy p K L us i → Commutes p G fs i
  commutes_to h q = ⊎_elim
      (λ e.
      let f = found (is_cell_of (together T.y T.b)) rs rl q e in
      subst (λ (r : List Factor). Same p (boundary_at p r (image_of G fs (cell_of G i))) (around r)) f.2
      (same_trans (same_sym (left (cell_at rs f.0))) (same_trans (same_sym (left_at f.0)) (same_trans (h f.0) (right_at f.0 f.1)))))
      (λ e. same_trans (same_sym (left q)) (same_trans (left_past q (no_coface q e)) (same_sym (right_off q e))))
      (cases_Bool (is_cell_of (together T.y T.b) q))

  commutes_from : Commutes p G fs i → CommutesBy p K L us i
  commutes_from h g = ⊎_elim
      (λ l. same_trans (left_at g) (same_trans (left (cell_at rs g)) (same_trans (h (cell_at rs g)) (same_sym (right_at g l)))))
      (λ past. same_trans (left_at g) (same_trans (left_past (cell_at rs g) (λ t l. ap (boundary_coefficient p (cell_at rs t)) (get_or_past rs g [] past) ∙ none (cell_at rs t))) (same_sym (right_past g past))))
      (cases_lt g (length rs))
    where
      none : (q : List Factor) → boundary_coefficient p q [] ≡ 0
      none [] = refl
      none (f ∷ q) = refl

  -- ---- the line

  holds_all : IsCarriedTo G fs i → IsAugmented p G fs i → Commutes p G fs i → AllHold (holds p G W) (image_line i)
  holds_all c a m law _ = every law
    where
      every : (law : Law) → holds p G W law (image_line i)
      every laws.Text = tt
      every laws.Header = tt
      every laws.Cell = tt
      every laws.Cycle = tt
      every laws.Dual = tt
      every laws.Cocycle = tt
      every laws.Contraction = tt
      every laws.ValueContraction = tt
      every laws.Carried = c
      every laws.Augmentation = a
      every laws.Commutes = m
      every laws.Matrix = tt

  nine : length second ≡ 9
  nine = refl

  first_five : (j : ℕ) → j < 5 → holds p G W (get_or second j laws.Text) (image_line i)
  first_five zero l = tt
  first_five (suc zero) l = tt
  first_five (suc (suc zero)) l = tt
  first_five (suc (suc (suc zero))) l = tt
  first_five (suc (suc (suc (suc zero)))) l = tt
  first_five (suc (suc (suc (suc (suc j))))) l = absurd (omega (arith, l))

  carried_fails : (IsCarriedTo G fs i → ⊥) → FailsBy (holds p G W) (image_line i) laws.Carried
  carried_fails h = record { at = 5; inside = omega (arith, nine); named = refl; before = first_five; here = h }

  first_six : IsCarriedTo G fs i → (j : ℕ) → j < 6 → holds p G W (get_or second j laws.Text) (image_line i)
  first_six c zero l = tt
  first_six c (suc zero) l = tt
  first_six c (suc (suc zero)) l = tt
  first_six c (suc (suc (suc zero))) l = tt
  first_six c (suc (suc (suc (suc zero)))) l = tt
  first_six c (suc (suc (suc (suc (suc zero))))) l = c
  first_six c (suc (suc (suc (suc (suc (suc j)))))) l = absurd (omega (arith, l))

  augmentation_fails : IsCarriedTo G fs i → (IsAugmented p G fs i → ⊥) → FailsBy (holds p G W) (image_line i) laws.Augmentation
  augmentation_fails c h = record { at = 6; inside = omega (arith, nine); named = refl; before = first_six c; here = h }

  first_seven : IsCarriedTo G fs i → IsAugmented p G fs i → (j : ℕ) → j < 7 → holds p G W (get_or second j laws.Text) (image_line i)
  first_seven c a zero l = tt
  first_seven c a (suc zero) l = tt
  first_seven c a (suc (suc zero)) l = tt
  first_seven c a (suc (suc (suc zero))) l = tt
  first_seven c a (suc (suc (suc (suc zero)))) l = tt
  first_seven c a (suc (suc (suc (suc (suc zero))))) l = c
  first_seven c a (suc (suc (suc (suc (suc (suc zero)))))) l = a
  first_seven c a (suc (suc (suc (suc (suc (suc (suc j))))))) l = absurd (omega (arith, l))

  commutes_fails : IsCarriedTo G fs i → IsAugmented p G fs i → (Commutes p G fs i → ⊥) → FailsBy (holds p G W) (image_line i) laws.Commutes
  commutes_fails c a h = record { at = 7; inside = omega (arith, nine); named = refl; before = first_seven c a; here = h }

  told : (o : Option Law) → IsImageOutcome p K L rs (value_at G i) (nth fs i) us i o → IsLineOutcome (holds p G W) (image_line i) o
  told None h = holds_all (carried_to rs (value_at G i) (nth fs i) (w.named i) h.0) (augmented_to h.1) (commutes_to h.2)
  told (Some laws.Carried) h = carried_fails (λ c. h (carried_from rs (value_at G i) (nth fs i) c))
  told (Some laws.Augmentation) h = augmentation_fails (carried_to rs (value_at G i) (nth fs i) (w.named i) h.0) (λ a. h.1 (augmented_from a))
  told (Some laws.Commutes) h = commutes_fails (carried_to rs (value_at G i) (nth fs i) (w.named i) h.0) (augmented_to h.1) (λ m. h.2 (commutes_from m))
  told (Some laws.Text) h = absurd h
  told (Some laws.Header) h = absurd h
  told (Some laws.Cell) h = absurd h
  told (Some laws.Cycle) h = absurd h
  told (Some laws.Dual) h = absurd h
  told (Some laws.Cocycle) h = absurd h
  told (Some laws.Contraction) h = absurd h
  told (Some laws.ValueContraction) h = absurd h
  told (Some laws.Matrix) h = absurd h

pub image_told : (p : ℕ) (K L : ChainComplex) (cells value : List (List Factor)) (ts : List (ℕ × ℕ)) (us : List (List (ℕ × ℕ))) (i : ℕ) (o : Option Law) → IsImageOutcome p K L cells value ts us i o → IsImageTold p K L cells value ts us i o
image_told p K L cells value ts us i o h G W w ec ev et li =
    told p K L us G W w i li o
    (subst (λ (x : List (List Factor)). IsImageOutcome p K L x (value_at G i) (nth (map_of W).images i) us i o) ec
    (subst (λ (x : List (List Factor)). IsImageOutcome p K L cells x (nth (map_of W).images i) us i o) ev
    (subst (λ (x : List (ℕ × ℕ)). IsImageOutcome p K L cells value x us i o) et h)))
