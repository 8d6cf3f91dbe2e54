-- What a selector reads at a cell, and what stays when it keeps more.
use Rattle.std.proofs.Common.{◌≡◌, ℕ, ◌+◌, ◌<◌, refl, sym, ap, ◌∙◌, subst, arith, ⊎_elim, List, [], ◌∷◌, ◌++◌, length, length-append, get_or, Option, Some, None, is_some as some_here, true, false}
use Rattle.std.specs.List.{Contains}
use Rattle.std.proofs.lemmas.Bool.{true≢false, cases_Bool, cases_lt, cases_eq}
use Rattle.std.proofs.lemmas.List.{get_or_default, get_or-map, get_or_append_left, get_or_past, length-map}
use Rattle.std.proofs.Math.Seq.{get_or-append_seam}
use Rattle.elem_cubes.specs.Cells.{Factor, dimension_of}
use Rattle.elem_cubes.specs.Faces.{IsFace}
use Rattle.elem_cubes.specs.Laws.{cell_at}
use Rattle.elem_cubes.proofs.FaceLemmas.{face_trans}
use Rattle.cube_sets.specs.Closures.{is_cell_of, cells_of}
use Rattle.cell_complex.specs.Numbering.{number_of}
use Rattle.cell_complex.proofs.Numbering.{listed}
use Rattle.acyclic_values.proofs.Cells.{cells_listing}
use Rattle.map_checks.specs.Carriers.{Carrying}
use Rattle.chain_selector.specs.Selections.{Selection, IsSelection, Extends, IsInDomain, AreKept, domain_cells, is_kept, kept_terms, is_some, terms_or_none}
use Rattle.chain_selector.specs.Right.{HasKeptFaces}
use Rattle.chain_selector.proofs.Summing.{chains_of, kept_at}

-- the two words for an option that is not None
pub some_same : (o : Option (List (ℕ × ℕ))) → some_here o ≡ is_some o
some_same None = refl
some_same (Some c) = refl

-- one more None at the end
pub none_more : (images more : List (Option (List (ℕ × ℕ)))) → ((i : ℕ) → get_or images i None ≡ None) → more ≡ images ++ None ∷ [] → (i : ℕ) → get_or more i None ≡ None
none_more images more n e i = ap (λ (xs : List (Option (List (ℕ × ℕ)))). get_or xs i None) e ∙ ⊎_elim
    (λ l. get_or_append_left images (None ∷ []) None i l ∙ n i)
    (λ l. ⊎_elim (λ q. ap (λ (k : ℕ). get_or (images ++ None ∷ []) k None) q ∙ get_or-append_seam images None [] None) (λ f. get_or_past (images ++ None ∷ []) i None (omega (arith, length-append images (None ∷ [])))) (cases_eq i (length images)))
    (cases_lt i (length images))

-- a cell with a kept image is among the cells of the domain
pub kept_listed : (p : ℕ) (s : Selection) (q : List Factor) → IsSelection p s → is_kept s q ≡ true → Contains (domain_cells s) q
kept_listed p s q sel kept = ((cells_listing s.carrying.domain).members q).0 (sel.within q kept)

pub not_kept : (p : ℕ) (s : Selection) (q : List Factor) → IsSelection p s → (Contains (domain_cells s) q → ⊥) → is_kept s q ≡ false
not_kept p s q sel absent = ⊎_elim (λ e. absurd (absent (kept_listed p s q sel e))) (λ e. e) (cases_Bool (is_kept s q))

-- the cells of the domain are those that are listed
pub domain_listed : (s : Selection) (q : List Factor) → is_cell_of s.carrying.domain q ≡ true → Contains (domain_cells s) q
domain_listed s q at = ((cells_listing s.carrying.domain).members q).0 at

-- the images have a place for each cell of the domain
pub image_inside : (p : ℕ) (s : Selection) (images : List (Option (List (ℕ × ℕ)))) (i : ℕ) → IsSelection p s → images ≡ s.images → i < length (domain_cells s) → i < length images
image_inside p s images i sel is l = omega (arith, sel.sizes, ap length is, l)

-- what stands at the number of a cell
module _ (s : Selection) (images : List (Option (List (ℕ × ℕ)))) (is : images ≡ s.images) (q : List Factor) (i : ℕ) (o : Option (List (ℕ × ℕ))) (number : i ≡ number_of (domain_cells s) q) (inside : i < length images) (read : o ≡ get_or images i o) where
  option_at : o ≡ get_or s.images (number_of (domain_cells s) q) None
  option_at = read ∙ get_or_default images i o None inside ∙ ap (λ (xs : List (Option (List (ℕ × ℕ)))). get_or xs i None) is ∙ ap (λ k. get_or s.images k None) number

  pub kept_as : is_some o ≡ is_kept s q
  kept_as = ap is_some option_at

  pub never_missing : o ≡ None → is_kept s q ≡ true → ⊥
  never_missing none kept = true≢false (sym kept ∙ sym kept_as ∙ ap is_some none)

  pub terms_as : (c : List (ℕ × ℕ)) → o ≡ Some c → c ≡ kept_terms s q
  terms_as c some = ap terms_or_none (sym some) ∙ ap terms_or_none option_at

-- the image that a term of a chain names
module _ (p : ℕ) (s : Selection) (sel : IsSelection p s) (ts : List (ℕ × ℕ)) (k g v : ℕ) (l : k < length ts) (term : (g, v) ≡ get_or ts k (0, 0)) (domain : IsInDomain s ts) where
  pub term_inside : g < length (domain_cells s)
  term_inside = subst (λ (n : ℕ). n < length (domain_cells s)) (sym (ap (λ (t : ℕ × ℕ). t.0) term)) (domain k l)

  pub chain_inside : g < length (chains_of s)
  chain_inside = omega (arith, term_inside, length-map s.images terms_or_none, sel.sizes)

  term_kept : AreKept s ts → is_some (get_or s.images g None) ≡ true
  term_kept kept = kept_at s g term_inside (subst (λ (n : ℕ). is_kept s (cell_at (domain_cells s) n) ≡ true) (sym (ap (λ (t : ℕ × ℕ). t.0) term)) (kept k l))

  module _ (images : List (Option (List (ℕ × ℕ)))) (is : images ≡ s.images) (o : Option (List (ℕ × ℕ))) (read : o ≡ get_or images g o) where
    named_option : o ≡ get_or s.images g None
    named_option = read ∙ get_or_default images g o None (image_inside p s images g sel is term_inside) ∙ ap (λ (xs : List (Option (List (ℕ × ℕ)))). get_or xs g None) is

    pub term_never_missing : o ≡ None → AreKept s ts → ⊥
    term_never_missing none kept = true≢false (sym (term_kept kept) ∙ sym (ap is_some named_option) ∙ ap is_some none)

    pub term_chain : (c : List (ℕ × ℕ)) → o ≡ Some c → c ≡ get_or (chains_of s) g []
    term_chain c some = ap terms_or_none (sym some) ∙ ap terms_or_none named_option ∙ sym (get_or-map terms_or_none s.images g None [] (omega (arith, term_inside, sel.sizes)))

-- ---- when more is kept

pub still_inside : (s t : Selection) (n : ℕ) → Extends s t → n < length (domain_cells s) → n < length (domain_cells t)
still_inside s t n e l = subst (λ (c : Carrying). n < length (cells_of c.domain)) (sym e.carrying) l

pub still_cell : (s t : Selection) (q : List Factor) → Extends s t → is_cell_of s.carrying.domain q ≡ true → is_cell_of t.carrying.domain q ≡ true
still_cell s t q e at = subst (λ (c : Carrying). is_cell_of c.domain q ≡ true) (sym e.carrying) at

pub still_kept_at : (s t : Selection) (n : ℕ) → Extends s t → is_kept s (cell_at (domain_cells s) n) ≡ true → is_kept t (cell_at (domain_cells t) n) ≡ true
still_kept_at s t n e k = (λ i. is_kept t (cell_at (cells_of (e.carrying i).domain) n)) ∙ (e.kept (cell_at (domain_cells s) n) k).0

-- the cell of a number is a cell of the domain
pub number_cell : (s : Selection) (n : ℕ) (q : List Factor) → n < length (domain_cells s) → q ≡ cell_at (domain_cells s) n → is_cell_of s.carrying.domain q ≡ true
number_cell s n q l e = ap (is_cell_of s.carrying.domain) e ∙ listed (is_cell_of s.carrying.domain) (domain_cells s) (cells_listing s.carrying.domain) n l

-- one more cell of a chain is kept
pub kept_more : (s t : Selection) (ts : List (ℕ × ℕ)) (k : ℕ) (q : List Factor) → Extends s t → ((i : ℕ) → i < k → is_kept s (cell_at (domain_cells s) (get_or ts i (0, 0)).0) ≡ true)
    → q ≡ cell_at (domain_cells s) (get_or ts k (0, 0)).0 → is_kept t q ≡ true → (i : ℕ) → i < k + 1 → is_kept t (cell_at (domain_cells t) (get_or ts i (0, 0)).0) ≡ true
kept_more s t ts k q e before at now i l = ⊎_elim
    (λ lt. still_kept_at s t (get_or ts i (0, 0)).0 e (before i lt))
    (λ ge. let m : i ≡ k = omega arith in
    (λ j. is_kept t (cell_at (cells_of (e.carrying j).domain) (get_or ts i (0, 0)).0)) ∙ ap (λ n. is_kept t (cell_at (domain_cells s) (get_or ts n (0, 0)).0)) m ∙ ap (is_kept t) (sym at) ∙ now)
    (cases_lt i k)

-- the lower faces of a face of the dimension that is being settled
pub lower_faces : (s t : Selection) (q r : List Factor) (k : ℕ) → Extends s t → HasKeptFaces s q k → IsFace q r → dimension_of r ≡ k → HasKeptFaces t r (dimension_of r)
lower_faces s t q r k e low f d x g l = (e.kept x (low x (face_trans q r x f g) (omega (arith, d, l)))).0
