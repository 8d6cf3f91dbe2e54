-- Faces are settled one after the other, and selections grow.
use Rattle.std.proofs.Common.{◌≡◌, ◌⊎◌, ℕ, ◌+◌, ◌<◌, inl, inr, refl, sym, ap, ◌∙◌, subst, arith, ⊎_elim, List, [], ◌∷◌, length, get_or, true}
use Rattle.std.specs.Prelude.{◌^◌}
use Rattle.std.proofs.lemmas.Bool.{cases_lt}
use Rattle.std.proofs.lemmas.List.{get_or_past}
use Rattle.field_mod.specs.Modular.{Same}
use Rattle.field_mod.proofs.Modular.{same_trans}
use Rattle.elem_cubes.specs.Cells.{Factor, dimension_of}
use Rattle.elem_cubes.specs.Faces.{IsFace, closure_of}
use Rattle.elem_cubes.specs.Boundary.{boundary_coefficient}
use Rattle.elem_cubes.specs.Laws.{cell_at}
use Rattle.elem_cubes.proofs.Modular.{exact}
use Rattle.elem_cubes.proofs.Members.{In, In-from, from-In}
use Rattle.elem_cubes.proofs.Listing.{closures_are_faces}
use Rattle.algebraic_reduction.proofs.Residues.{same_zero}
use Rattle.chains.specs.Terms.{coefficient, IsNormal}
use Rattle.chains.proofs.TermLists.{named_at, number_at}
use Rattle.cell_complex.proofs.Numbering.{coefficient-past}
use Rattle.cell_complex.specs.Boundaries.{IsBoundaryAmong}
use Rattle.acyclic_values.proofs.Sums.{face_of_nonzero}
use Rattle.chain_selector.specs.Selections.{Selection, Extends, IsInDomain, AreKept, is_kept, domain_cells}
use Rattle.chain_selector.specs.Right.{HasKeptFaces}

-- ---- later selections

pub extends_itself : (s : Selection) → Extends s s
extends_itself s = record { carrying = refl; kept = λ q k. (k, refl) }

pub extends_on : (r s t : Selection) → Extends r s → Extends s t → Extends r t
extends_on r s t a b = record {
  carrying = b.carrying ∙ a.carrying;
  kept = λ q k. let u = a.kept q k in let w = b.kept q u.0 in (w.0, w.1 ∙ u.1);
}

pub kept_faces_on : (s t : Selection) (q : List Factor) (k : ℕ) → Extends s t → HasKeptFaces s q k → HasKeptFaces t q k
kept_faces_on s t q k e h r f l = (e.kept r (h r f l)).0

-- ---- the faces of one dimension

-- those that are not left to come have kept images
pub record AreSettled (s : Selection) (q : List Factor) (dimension : ℕ) (left : List (List Factor)) : Type 0 where
  pub faces : (r : List Factor) → In left r → IsFace q r
  pub all : (r : List Factor) → IsFace q r → dimension_of r ≡ dimension → In left r ⊎ (is_kept s r ≡ true)

pub settled_first : (s : Selection) (q : List Factor) (dimension : ℕ) (left : List (List Factor)) → left ≡ closure_of q → AreSettled s q dimension left
settled_first s q dimension left e = record {
  faces = λ r i. (closures_are_faces.faces q r).0 (from-In (closure_of q) r (subst (λ (xs : List (List Factor)). In xs r) e i));
  all = λ r f d. inl (subst (λ (xs : List (List Factor)). In xs r) (sym e) (In-from (closure_of q) r ((closures_are_faces.faces q r).1 f)));
}

module _ (s t : Selection) (q : List Factor) (dimension : ℕ) (left rest : List (List Factor)) (r : List Factor) (next : left ≡ r ∷ rest) (so_far : AreSettled s q dimension left) where
  pub face_next : IsFace q r
  face_next = so_far.faces r (subst (λ (xs : List (List Factor)). In xs r) (sym next) (inl refl))

  -- the next face is of another dimension, or has a kept image now
  pub settled_more : Extends s t → (dimension_of r ≡ dimension → is_kept t r ≡ true) → AreSettled t q dimension rest
  settled_more e kept = record {
    faces = λ x i. so_far.faces x (subst (λ (xs : List (List Factor)). In xs x) (sym next) (inr i));
    all = λ x f d. ⊎_elim
        (λ i. let w : In (r ∷ rest) x = subst (λ (xs : List (List Factor)). In xs x) next i in ⊎_elim (λ c. inr (ap (is_kept t) (sym c) ∙ kept (ap dimension_of c ∙ d))) (λ j. inl j) w)
        (λ k. inr (e.kept x k).0)
        (so_far.all x f d);
  }

pub settled_end : (s : Selection) (q : List Factor) (dimension : ℕ) (left : List (List Factor)) → left ≡ [] → HasKeptFaces s q dimension → AreSettled s q dimension left → HasKeptFaces s q (dimension + 1)
settled_end s q dimension left e low so_far r f l = ⊎_elim
    (λ lt. low r f lt)
    (λ ge. ⊎_elim (λ i. absurd (let w : In [] r = subst (λ (xs : List (List Factor)). In xs r) e i in w)) (λ k. k) (so_far.all r f (omega arith)))
    (cases_lt (dimension_of r) dimension)

-- ---- the cells of a chain

-- a number from 1 to p - 1 is not 0 modulo p
not_zero : (p a : ℕ) → 0 < a → a < p → Same p a 0 → ⊥
not_zero p a positive below z = let e = same_zero p a below z in omega arith

-- the generator of a term has a coefficient
term_not_zero : (p : ℕ) (bd : List (ℕ × ℕ)) (k : ℕ) → IsNormal p bd → k < length bd → Same p (coefficient bd (get_or bd k (0, 0)).0) 0 → ⊥
term_not_zero p bd k normal l z =
    let t = named_at p 0 (2 ^ 32) bd k normal l in
    let m = number_at p 0 (2 ^ 32) bd k normal l in
    not_zero p (coefficient bd (get_or bd k (0, 0)).0) (omega (arith, t.1, t.2)) (omega (arith, t.2)) z

-- the facets that the boundary of a cell names have kept images, and are cells of the domain
pub facets_are_kept : (p : ℕ) (s : Selection) (q : List Factor) (bd : List (ℕ × ℕ)) → HasKeptFaces s q (dimension_of q) → IsBoundaryAmong p (domain_cells s) q bd → AreKept s bd
facets_are_kept p s q bd kept b k l =
    let r : List Factor = cell_at (domain_cells s) (get_or bd k (0, 0)).0 in
    let f = face_of_nonzero p q r (λ z. term_not_zero p bd k b.normal l (same_trans (b.coefficients (get_or bd k (0, 0)).0) z)) in
    kept r f.0 (omega (arith, f.1))

pub facets_in_domain : (p : ℕ) (s : Selection) (q : List Factor) (bd : List (ℕ × ℕ)) → IsBoundaryAmong p (domain_cells s) q bd → IsInDomain s bd
facets_in_domain p s q bd b k l = ⊎_elim
    (λ lt. lt)
    (λ past. absurd (term_not_zero p bd k b.normal l (same_trans (b.coefficients (get_or bd k (0, 0)).0) (exact p (ap (boundary_coefficient p q) (get_or_past (domain_cells s) (get_or bd k (0, 0)).0 [] past) ∙ coefficient-past p q)))))
    (cases_lt (get_or bd k (0, 0)).0 (length (domain_cells s)))
