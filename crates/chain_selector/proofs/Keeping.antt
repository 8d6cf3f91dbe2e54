-- One more image is kept.
use Rattle.std.proofs.Common.{◌≡◌, ◌≢◌, ◌⊎◌, ℕ, ◌<◌, ◌≤◌, inl, inr, refl, sym, ap, ◌∙◌, subst, arith, ⊎_elim, List, [], ◌∷◌, length, get_or, Some, None, Bool, true, false}
use Rattle.std.proofs.Math.ListN.{set, length-set}
use Rattle.std.proofs.lemmas.Bool.{true≢false}
use Rattle.std.proofs.lemmas.List.{get_or-set_same, get_or-set_other}
use Rattle.elem_cubes.specs.Cells.{Factor, point, interval, dimension_of, same_cell}
use Rattle.elem_cubes.specs.Faces.{IsFace}
use Rattle.elem_cubes.specs.Laws.{cell_at}
use Rattle.elem_cubes.specs.OrderLemmas.{cell_cases, cell_refl}
use Rattle.chains.specs.Terms.{coefficient}
use Rattle.cube_sets.specs.Closures.{is_cell_of, cells_of}
use Rattle.cell_complex.specs.Numbering.{by_cell, number_of}
use Rattle.cell_complex.proofs.Numbering.{number_within, at_number}
use Rattle.acyclic_values.specs.Values.{in_value}
use Rattle.acyclic_values.specs.CarriedMaps.{IsCarriedAt}
use Rattle.acyclic_values.proofs.Sums.{face_of_nonzero}
use Rattle.acyclic_values.proofs.Cells.{cells_listing}
use Rattle.acyclic_values.proofs.Values.{values_carry}
use Rattle.acyclic_values.proofs.Carrying.{IsCarrying}
use Rattle.acyclic_values.proofs.Existence.{made}
use Rattle.map_checks.specs.Carriers.{Carrying, IsCarrier}
use Rattle.chain_selector.specs.Selections.{Selection, IsSelection, Extends, domain_cells, range_cells, is_kept, kept_terms, kept_image, is_some, terms_or_none}
use Rattle.chain_selector.specs.Right.{HasKeptFaces, IsRightImage}
use Rattle.chain_selector.proofs.OtherNumbers as numbered

-- a face of a cell is the cell or of lower dimension
pub face_lower : (q r : List Factor) → IsFace q r → (r ≡ q) ⊎ (dimension_of r < dimension_of q)
face_lower [] [] f = inl refl
face_lower [] (r ∷ rs) f = absurd f
face_lower (q ∷ qs) [] f = absurd f
face_lower (point l ∷ qs) (point m ∷ rs) f = ⊎_elim (λ e. inl (λ i. point (f.0 i) ∷ e i)) (λ l. inr l) (face_lower qs rs f.1)
face_lower (point l ∷ qs) (interval m ∷ rs) f = absurd f.0
face_lower (interval l ∷ qs) (point m ∷ rs) f = inr (⊎_elim (λ e. let d = ap dimension_of e in omega arith) (λ l. omega arith) (face_lower qs rs f.1))
face_lower (interval l ∷ qs) (interval m ∷ rs) f = ⊎_elim (λ e. inl (λ i. interval (f.0 i) ∷ e i)) (λ l. inr (omega arith)) (face_lower qs rs f.1)

-- ---- nothing is kept

pub none_kept : (s : Selection) → ((i : ℕ) → get_or s.images i None ≡ None) → (q : List Factor) → is_kept s q ≡ false
none_kept s none q = ap is_some (none (number_of (domain_cells s) q))

pub empty_selection : (p : ℕ) (s : Selection) → IsCarrier p s.carrying → length s.images ≡ length (domain_cells s) → ((i : ℕ) → get_or s.images i None ≡ None) → IsSelection p s
empty_selection p s carrier sizes none = record {
  carrier = carrier;
  sizes = sizes;
  closed = λ q r f k. absurd (true≢false (sym k ∙ none_kept s none q));
  within = λ q k. absurd (true≢false (sym k ∙ none_kept s none q));
  numbers = λ q g l. ap (λ o. coefficient (terms_or_none o) g) (none (number_of (domain_cells s) q));
  right = λ q k. absurd (true≢false (sym k ∙ none_kept s none q));
}

-- ---- one image more

module _ (p : ℕ) (s : Selection) (sel : IsSelection p s) (one : 1 ≤ p) (q : List Factor) (at : is_cell_of s.carrying.domain q ≡ true) (lower : HasKeptFaces s q (dimension_of q)) (fresh : is_kept s q ≡ false)
    (ts : List (ℕ × ℕ)) (right : IsRightImage p s q ts) (t : Selection) (same : t.carrying ≡ s.carrying) (more : t.images ≡ set s.images (number_of (domain_cells s) q) (Some ts)) where
  abbrev ds : List (List Factor)
  ds = domain_cells s

  abbrev n : ℕ
  n = number_of ds q

  inside : n < length s.images
  inside = omega (arith, number_within (is_cell_of s.carrying.domain) ds (cells_listing s.carrying.domain) q at, sel.sizes)

  -- what stands at a cell
  new_at : (r : List Factor) → get_or t.images (number_of (domain_cells t) r) None ≡ get_or (set s.images n (Some ts)) (number_of ds r) None
  new_at r i = get_or (more i) (number_of (cells_of (same i).domain) r) None

  here : get_or t.images (number_of (domain_cells t) q) None ≡ Some ts
  here = new_at q ∙ get_or-set_same s.images n (Some ts) None inside

  there : (r : List Factor) → r ≢ q → get_or t.images (number_of (domain_cells t) r) None ≡ get_or s.images (number_of ds r) None
  there r ne = new_at r ∙ get_or-set_other s.images n (number_of ds r) (Some ts) None (λ e. ne (other e))
    where
      other : number_of ds r ≡ n → r ≡ q
      other e =
          let b = number_within (is_cell_of s.carrying.domain) ds (cells_listing s.carrying.domain) q at in
          sym (numbered.at_number ds r (omega arith)) ∙ ap (cell_at ds) e ∙ at_number (is_cell_of s.carrying.domain) ds (cells_listing s.carrying.domain) q at

  kept_here : is_kept t q ≡ true
  kept_here = ap is_some here

  kept_there : (r : List Factor) → r ≢ q → is_kept t r ≡ is_kept s r
  kept_there r ne = ap is_some (there r ne)

  -- a cell that is kept now is the new one, or was kept
  kept_cases : (r : List Factor) → is_kept t r ≡ true → (r ≡ q) ⊎ ((r ≢ q) × (is_kept s r ≡ true))
  kept_cases r k = ⊎_elim (λ e. inl e) (λ f. let ne : r ≢ q = λ e. true≢false (sym (ap (λ (x : List Factor). same_cell x q) e ∙ cell_refl q) ∙ f) in inr (ne, sym (kept_there r ne) ∙ k)) (cell_cases r q)

  image_here : kept_image t q ≡ by_cell (range_cells s) (coefficient ts)
  image_here i = by_cell (cells_of (same i).range) (coefficient (terms_or_none (here i)))

  image_there : (r : List Factor) → r ≢ q → kept_image t r ≡ kept_image s r
  image_there r ne i = by_cell (cells_of (same i).range) (coefficient (terms_or_none (there r ne i)))

  -- a kept cell is not the new one
  old : (r : List Factor) → is_kept s r ≡ true → r ≢ q
  old r k e = true≢false (sym k ∙ ap (is_kept s) e ∙ fresh)

  pub extends : Extends s t
  extends = record {
    carrying = same;
    kept = λ r k. (kept_there r (old r k) ∙ k, ap terms_or_none (there r (old r k)));
  }

  pub now_kept : is_kept t q ≡ true
  now_kept = kept_here

  -- the new image and the old ones are right
  abbrev V : List Factor → List Factor → Bool
  V = in_value s.carrying.map s.carrying.domain

  carried : IsCarrying p (is_cell_of s.carrying.domain) (is_cell_of s.carrying.range) ds (range_cells s) V
  carried = values_carry p s.carrying.map s.carrying.domain s.carrying.range sel.carrier.acyclic

  right_here : IsCarriedAt p ds (range_cells s) (V q) (kept_image t) q
  right_here = made p (is_cell_of s.carrying.domain) (is_cell_of s.carrying.range) ds (range_cells s) V one carried (kept_image s) q (by_cell (range_cells s) (coefficient ts)) right.chain right.commutes right.augmentation (kept_image t) image_here
      (λ r z. image_there r (λ e. let f = face_of_nonzero p q r z in absurd (omega (arith, f.1, ap dimension_of e))))

  right_there : (r : List Factor) → r ≢ q → is_kept s r ≡ true → IsCarriedAt p ds (range_cells s) (V r) (kept_image t) r
  right_there r ne k =
      let i = sel.right r k in
      made p (is_cell_of s.carrying.domain) (is_cell_of s.carrying.range) ds (range_cells s) V one carried (kept_image s) r (kept_image s r) i.chain i.commutes i.augmentation (kept_image t) (image_there r ne)
      (λ x z. image_there x (old x (sel.closed r x (face_of_nonzero p r x z).0 k)))

  right_now : (r : List Factor) → is_kept t r ≡ true → IsCarriedAt p ds (range_cells s) (V r) (kept_image t) r
  right_now r k = ⊎_elim
      (λ e. subst (λ (x : List Factor). IsCarriedAt p ds (range_cells s) (V x) (kept_image t) x) (sym e) right_here)
      (λ w. right_there r w.0 w.1)
      (kept_cases r k)

  pub one_more : IsSelection p t
  one_more = record {
    carrier = subst (IsCarrier p) (sym same) sel.carrier;
    sizes = ap length more ∙ length-set s.images n (Some ts) ∙ sel.sizes ∙ (λ i. length (cells_of (same_back i).domain));
    closed = λ r x f k. ⊎_elim
        (λ e. ⊎_elim
        (λ d. ap (is_kept t) (d ∙ e) ∙ kept_here)
        (λ l. let g : IsFace q x = subst (λ (y : List Factor). IsFace y x) e f in
        let m : dimension_of x < dimension_of q = omega (arith, ap dimension_of e) in
        let b = lower x g m in kept_there x (old x b) ∙ b)
        (face_lower r x f))
        (λ w. let b = sel.closed r x f w.1 in kept_there x (old x b) ∙ b)
        (kept_cases r k);
    within = λ r k. ⊎_elim
        (λ e. (λ i. is_cell_of (same i).domain (e i)) ∙ at)
        (λ w. (λ i. is_cell_of (same i).domain r) ∙ sel.within r w.1)
        (kept_cases r k);
    numbers = λ r g l. ⊎_elim
        (λ e. ap (λ (x : List Factor). coefficient (kept_terms t x) g) e ∙ ap (λ o. coefficient (terms_or_none o) g) here ∙ right.within g (long l))
        (λ f. let ne : r ≢ q = λ e. true≢false (sym (ap (λ (x : List Factor). same_cell x q) e ∙ cell_refl q) ∙ f) in ap (λ o. coefficient (terms_or_none o) g) (there r ne) ∙ sel.numbers r g (long l))
        (cell_cases r q);
    right = λ r k. subst (λ (c : Carrying). IsCarriedAt p (cells_of c.domain) (cells_of c.range) (in_value c.map c.domain r) (kept_image t) r) (sym same) (right_now r k);
  }
    where
      same_back : s.carrying ≡ t.carrying
      same_back = sym same

      long : {g : ℕ} → length (range_cells t) ≤ g → length (range_cells s) ≤ g
      long {g} l = let e : length (range_cells t) ≡ length (range_cells s) = λ i. length (cells_of (same i).range) in omega arith
