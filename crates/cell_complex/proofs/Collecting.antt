-- A boundary among numbered cells, facet by facet
use Rattle.std.proofs.Common.{◌≡◌, ℕ, ◌+◌, ◌*◌, ◌%◌, ◌<◌, ◌≤◌, sym, ap, ◌∙◌, subst, arith, ⊎_elim, List, [], ◌∷◌, ◌++◌, length, get_or, cond, eqb, eq-eqb, ne_eqb, take, map, Result, Ok, Err, OnOk}
use Rattle.std.specs.Prelude.{ℤ, pos}
use Rattle.std.specs.List.{Contains}
use Rattle.std.specs.Int.{int_rem_euclid}
use Rattle.std.proofs.lemmas.Bool.{cases_lt, cases_eq}
use Rattle.std.proofs.lemmas.List.{get_or_past, get_or_append_left, get_or_push, length_push, get_or_default, take_all, take_more, map-append}
use native.Mathlib.Nat.{mod-mod}
use Rattle.field_mod.specs.Modular.{Same}
use Rattle.field_mod.proofs.Modular.{same_refl, same_trans, same-add}
use Rattle.elem_cubes.specs.Cells.{Factor, same_cell, dimension_of}
use Rattle.elem_cubes.specs.Faces.{faces_of}
use Rattle.elem_cubes.specs.Boundary.{residue, boundary_coefficient, signed_sum}
use Rattle.elem_cubes.specs.Laws.{cell_at}
use Rattle.chains.specs.Terms.{coefficient, IsNormal}
use Rattle.chains.proofs.TermLists.{coefficient-append}
use Rattle.elem_cubes.specs.OrderLemmas.{cell_refl, cell_cases}
use Rattle.elem_cubes.proofs.Modular.{exact}
use Rattle.cell_complex.specs.Sorted.{IsSortedCells}
use Rattle.cell_complex.specs.Boundaries.{unit_at, IsSign, HaveSigns, AddsFacet, IsPartialBoundary, IsBoundaryAmong, AreBoundaries}
use Rattle.cell_complex.proofs.Numbering.{coefficient-past}
use Rattle.cell_complex.proofs.Facets.{facets_coefficient, facets_have_signs, residue_of}
use Rattle.cell_complex.proofs.Sorting.{apart}

-- ---- one facet

pub facet_added : (p : ℕ) (cells : List (List Factor)) (facet : List Factor) (sign : ℤ) (i n : ℕ) (old new : List (ℕ × ℕ)) → 1 ≤ p → IsSortedCells cells
    → i < length cells → cell_at cells i ≡ facet → pos n ≡ int_rem_euclid sign (pos p) → new ≡ old ++ (i, n) ∷ [] → AddsFacet p cells facet sign old new
facet_added p cells facet sign i n old new h s l at e pushed = record {
  inside = λ g inside. same_trans (exact p (counted g)) (same-add (same_refl p (coefficient old g)) (one g inside));
  past = λ g past. counted g ∙ ap (λ v. coefficient old g + v) (ap (λ b. cond b n 0 + 0) (ne_eqb i g (omega arith))) ∙ omega arith;
}
  where
    counted : (g : ℕ) → coefficient new g ≡ coefficient old g + (cond (eqb i g) n 0 + 0)
    counted g = ap (λ ts. coefficient ts g) pushed ∙ coefficient-append old ((i, n) ∷ []) g

    one : (g : ℕ) → g < length cells → Same p (cond (eqb i g) n 0 + 0) (residue p sign * unit_at (cell_at cells g) facet)
    one g inside = ⊎_elim
        (λ same.
        let u : unit_at (cell_at cells g) facet ≡ 1 = ap (λ b. cond b 1 0) (ap (λ k. same_cell facet (cell_at cells k)) (sym same) ∙ ap (λ q. same_cell q (cell_at cells i)) (sym at) ∙ cell_refl (cell_at cells i)) in
        let v : cond (eqb i g) n 0 ≡ n = ap (λ b. cond b n 0) (eq-eqb i g same) in
        same_trans (exact p (ap (λ w. w + 0) v ∙ omega arith)) (same_trans (residue_of p n sign h e) (exact p (sym (ap (λ w. residue p sign * w) u ∙ omega arith)))))
        (λ other.
        let u : unit_at (cell_at cells g) facet ≡ 0 = ap (λ b. cond b 1 0) (⊎_elim (λ f. absurd (other (apart cells s.sorted i g l inside (at ∙ f)))) (λ f. f) (cell_cases facet (cell_at cells g))) in
        let v : cond (eqb i g) n 0 ≡ 0 = ap (λ b. cond b n 0) (ne_eqb i g other) in
        exact p (ap (λ w. w + 0) v ∙ sym (ap (λ w. residue p sign * w) u ∙ omega arith)))
        (cases_eq i g)

pub facet_missed : (p : ℕ) (cells : List (List Factor)) (facet : List Factor) (sign : ℤ) (old new : List (ℕ × ℕ)) → (Contains cells facet → ⊥) → new ≡ old → AddsFacet p cells facet sign old new
facet_missed p cells facet sign old new none e = record {
  inside = λ g inside.
      let u : unit_at (cell_at cells g) facet ≡ 0 = ap (λ b. cond b 1 0) (⊎_elim (λ f. absurd (none (g, inside, get_or_default cells g facet [] inside ∙ sym f))) (λ f. f) (cell_cases facet (cell_at cells g))) in
      exact p (ap (λ ts. coefficient ts g) e ∙ sym (ap (λ w. coefficient old g + residue p sign * w) u ∙ omega arith));
  past = λ g past. ap (λ ts. coefficient ts g) e;
}

-- what follows from what an Ok value tells
pub if_told : {A E P Q : Type 0} (r : Result A E) → (P → Q) → OnOk r P → OnOk r Q
if_told (Ok v) f p = f p
if_told (Err e) f p = tt

-- a facet that is added to one of two lists of terms is added to both together
pub added_left : (p : ℕ) (cells : List (List Factor)) (facet : List Factor) (sign : ℤ)
    (old new more : List (ℕ × ℕ)) → AddsFacet p cells facet sign old new
    → AddsFacet p cells facet sign (old ++ more) (new ++ more)
added_left p cells facet sign old new more added = record {
  inside = λ g inside.
      let one : ℕ = residue p sign * unit_at (cell_at cells g) facet in
      let o = coefficient-append old more g in
      let n = coefficient-append new more g in
      same_trans (exact p n) (same_trans (same-add (added.inside g inside) (same_refl p (coefficient more g)))
      (exact p (let e : coefficient old g + one + coefficient more g ≡ coefficient (old ++ more) g + one = omega (arith, o) in e)));
  past = λ g past. omega (arith, coefficient-append old more g, coefficient-append new more g, added.past g past);
}

pub added_right : (p : ℕ) (cells : List (List Factor)) (facet : List Factor) (sign : ℤ)
    (less old new : List (ℕ × ℕ)) → AddsFacet p cells facet sign old new
    → AddsFacet p cells facet sign (less ++ old) (less ++ new)
added_right p cells facet sign less old new added = record {
  inside = λ g inside.
      let one : ℕ = residue p sign * unit_at (cell_at cells g) facet in
      let o = coefficient-append less old g in
      let n = coefficient-append less new g in
      same_trans (exact p n) (same_trans (same-add (same_refl p (coefficient less g)) (added.inside g inside))
      (exact p (let e : coefficient less g + (coefficient old g + one) ≡ coefficient (less ++ old) g + one = omega (arith, o) in e)));
  past = λ g past. omega (arith, coefficient-append less old g, coefficient-append less new g, added.past g past);
}

-- ---- all facets

pub partial_none : (p : ℕ) (cells : List (List Factor)) (q : List Factor) (left : List (List Factor × ℤ)) (ts : List (ℕ × ℕ)) → 1 ≤ p → left ≡ faces_of q → ts ≡ [] → IsPartialBoundary p cells q left ts
partial_none p cells q left ts h all none = record {
  inside = λ g inside. same_trans (exact p (ap (λ us. coefficient us g + signed_sum p (unit_at (cell_at cells g)) left) none ∙ ap (λ fs. 0 + signed_sum p (unit_at (cell_at cells g)) fs) all ∙ zero_left (signed_sum p (unit_at (cell_at cells g)) (faces_of q)))) (facets_coefficient p q (cell_at cells g) h);
  past = λ g past. ap (λ us. coefficient us g) none;
  signs = let P : List (List Factor × ℤ) → Type 0 = HaveSigns in subst P (sym all) (facets_have_signs q);
}
  where
    zero_left : (n : ℕ) → 0 + n ≡ n
    zero_left n = omega arith

-- the facet that is taken has a sign, and so have those that are left
pub first_signs : (p : ℕ) (cells : List (List Factor)) (q : List Factor) (left rest : List (List Factor × ℤ)) (facet : List Factor) (sign : ℤ) (ts : List (ℕ × ℕ))
    → IsPartialBoundary p cells q left ts → left ≡ (facet, sign) ∷ rest → IsSign sign × HaveSigns rest
first_signs p cells q left rest facet sign ts partial first = let P : List (List Factor × ℤ) → Type 0 = HaveSigns in let h : HaveSigns ((facet, sign) ∷ rest) = subst P first partial.signs in (h.0, h.1)

pub partial_more : (p : ℕ) (cells : List (List Factor)) (q : List Factor) (left rest : List (List Factor × ℤ)) (facet : List Factor) (sign : ℤ) (ts new : List (ℕ × ℕ))
    → IsPartialBoundary p cells q left ts → left ≡ (facet, sign) ∷ rest → AddsFacet p cells facet sign ts new → IsPartialBoundary p cells q rest new
partial_more p cells q left rest facet sign ts new partial first added = record {
  inside = λ g inside.
      let f : List Factor → ℕ = unit_at (cell_at cells g) in
      let moved : coefficient ts g + residue p sign * f facet + signed_sum p f rest ≡ coefficient ts g + signed_sum p f left = omega (arith, ap (signed_sum p f) first) in
      same_trans (same-add (added.inside g inside) (same_refl p (signed_sum p f rest))) (same_trans (exact p moved) (partial.inside g inside));
  past = λ g past. added.past g past ∙ partial.past g past;
  signs = (first_signs p cells q left rest facet sign ts partial first).1;
}

pub partial_all : (p : ℕ) (cells : List (List Factor)) (q : List Factor) (left : List (List Factor × ℤ)) (ts c : List (ℕ × ℕ))
    → IsPartialBoundary p cells q left ts → left ≡ [] → IsNormal p c → ((g : ℕ) → coefficient c g ≡ coefficient ts g % p) → IsBoundaryAmong p cells q c
partial_all p cells q left ts c partial none normal reduced = record {
  normal = normal;
  coefficients = λ g. same_trans (same g) (⊎_elim
      (λ inside.
      let f : List Factor → ℕ = unit_at (cell_at cells g) in
      same_trans (exact p (let e : coefficient ts g ≡ coefficient ts g + signed_sum p f left = omega (arith, ap (signed_sum p f) none) in e)) (partial.inside g inside))
      (λ past. exact p (partial.past g past ∙ sym (ap (boundary_coefficient p q) (get_or_past cells g [] past) ∙ coefficient-past p q)))
      (cases_lt g (length cells)));
}
  where
    same : (g : ℕ) → Same p (coefficient c g) (coefficient ts g)
    same g = record { same = ap (λ n. n % p) (reduced g) ∙ mod-mod (coefficient ts g) p }

-- the same terms in another order
pub partial_same : (p : ℕ) (cells : List (List Factor)) (q : List Factor) (ts us : List (ℕ × ℕ)) (left : List (List Factor × ℤ))
    → left ≡ [] → IsPartialBoundary p cells q left ts → ((g : ℕ) → coefficient us g ≡ coefficient ts g)
    → IsPartialBoundary p cells q [] us
partial_same p cells q ts us left none partial same = record {
  inside = λ g inside.
      let f : List Factor → ℕ = unit_at (cell_at cells g) in
      same_trans (exact p (let e : coefficient us g + 0 ≡ coefficient ts g + signed_sum p f left = omega (arith, same g, ap (signed_sum p f) none) in e)) (partial.inside g inside);
  past = λ g past. same g ∙ partial.past g past;
  signs = tt;
}

-- ---- adding terms, the last of them first

pub turned_none : (terms more : List (ℕ × ℕ)) (i : ℕ) → i ≡ length more → (g : ℕ)
    → coefficient terms g + coefficient (take i more) g ≡ coefficient (terms ++ more) g
turned_none terms more i e g =
    let whole : take i more ≡ more = take_all i more (omega arith) in
    omega (arith, coefficient-append terms more g, ap (λ (ts : List (ℕ × ℕ)). coefficient ts g) whole)

pub turned_more : (terms new more : List (ℕ × ℕ)) (place i n : ℕ) → place ≡ i + 1 → i < length more
    → new ≡ terms ++ get_or more i (0, 0) ∷ [] → (g : ℕ) → coefficient terms g + coefficient (take place more) g ≡ n
    → coefficient new g + coefficient (take i more) g ≡ n
turned_more terms new more place i n at inside pushed g so_far =
    let t : ℕ × ℕ = get_or more i (0, 0) in
    let one = coefficient-append (take i more) (t ∷ []) g in
    let add = ap (λ (ts : List (ℕ × ℕ)). coefficient ts g) pushed ∙ coefficient-append terms (t ∷ []) g in
    let next = ap (λ k. coefficient (take k more) g) at ∙ ap (λ (ts : List (ℕ × ℕ)). coefficient ts g) (take_more more i (0, 0) inside) in
    omega (arith, one, add, next, so_far)

-- ---- all cells

pub degrees_more : (cells : List (List Factor)) (q : List Factor) (i d : ℕ) (ds new : List ℕ) → i < length cells
    → ds ≡ map dimension_of (take i cells) → q ≡ cell_at cells i → d ≡ dimension_of q → new ≡ ds ++ d ∷ []
    → new ≡ map dimension_of (take (i + 1) cells)
degrees_more cells q i d ds new inside so_far read degree pushed =
    pushed ∙ ap (λ (l : List ℕ). l ++ d ∷ []) so_far
    ∙ ap (λ e. map dimension_of (take i cells) ++ e ∷ []) (degree ∙ ap dimension_of read)
    ∙ sym (ap (map dimension_of) (take_more cells i [] inside) ∙ map-append dimension_of (take i cells) (cell_at cells i ∷ []))

pub degrees_all : (cells : List (List Factor)) (i : ℕ) (ds : List ℕ) → length cells ≤ i → ds ≡ map dimension_of (take i cells) → ds ≡ map dimension_of cells
degrees_all cells i ds end so_far = so_far ∙ ap (map dimension_of) (take_all i cells end)

pub boundaries_none : (p : ℕ) (cells : List (List Factor)) (bs : List (List (ℕ × ℕ))) → bs ≡ [] → AreBoundaries p cells bs × (length bs ≡ 0)
boundaries_none p cells bs e = (record { each = λ h l. absurd (let n : length bs ≡ 0 = ap length e in omega arith) }, ap length e)

pub boundaries_more : (p : ℕ) (cells : List (List Factor)) (q : List Factor) (i : ℕ) (bs new : List (List (ℕ × ℕ))) (b : List (ℕ × ℕ))
    → AreBoundaries p cells bs × (length bs ≡ i) → q ≡ cell_at cells i → new ≡ bs ++ b ∷ [] → IsBoundaryAmong p cells q b → AreBoundaries p cells new × (length new ≡ i + 1)
boundaries_more p cells q i bs new b so_far read pushed boundary = (
  record {
    each = λ h below. ⊎_elim
        (λ earlier.
        let e : get_or new h [] ≡ get_or bs h [] = ap (λ cs. get_or cs h []) pushed ∙ get_or_append_left bs (b ∷ []) [] h (omega (arith, earlier, so_far.1)) in
        subst (λ (c : List (ℕ × ℕ)). IsBoundaryAmong p cells (cell_at cells h) c) (sym e) (so_far.0.each h (omega (arith, earlier, so_far.1))))
        (λ not_earlier.
        let k : h ≡ i = omega (arith, not_earlier, below, grown, so_far.1) in
        let e : get_or new h [] ≡ b = ap (λ cs. get_or cs h []) pushed ∙ ap (λ n. get_or (bs ++ b ∷ []) n []) k ∙ get_or_push bs b [] i so_far.1 in
        let at : q ≡ cell_at cells h = read ∙ ap (λ n. get_or cells n []) (sym k) in
        subst (λ (c : List (ℕ × ℕ)). IsBoundaryAmong p cells (cell_at cells h) c) (sym e) (subst (λ (r : List Factor). IsBoundaryAmong p cells r b) at boundary))
        (cases_lt h i);
  },
  omega (arith, grown, so_far.1),
)
  where
    grown : length new ≡ length bs + 1
    grown = ap length pushed ∙ length_push bs b
