-- The signed sum over the facets of a cell gives the coefficients of its boundary; the signs of facets, as the code reads them
use Rattle.std.proofs.Common.{◌≡◌, ℕ, ◌+◌, ◌-◌, ◌*◌, ◌%◌, ◌/◌, ◌≤◌, inl, inr, ⊎_elim, refl, sym, ap, ◌∙◌, arith, List, [], ◌∷◌, ◌++◌, map, true, false, cond, ◌&&◌}
use Rattle.std.specs.Prelude.{ℤ, pos, negsuc, ◌+ℤ◌, neg_ℤ}
use Rattle.std.specs.Int.{int_rem_euclid}
use mir.Val.{to_z, of_z}
use mir.Syntax.{w8, w64}
use Rattle.std.specs.Ordering.{int_eq}
use Rattle.field_mod.specs.Modular.{Same}
use Rattle.field_mod.proofs.Modular.{same_by, same_trans, neg_cancel}
use Rattle.elem_cubes.specs.Cells.{Factor, point, interval, same_cell}
use Rattle.elem_cubes.specs.Faces.{behind, faces_of}
use Rattle.elem_cubes.specs.Boundary.{residue, boundary_coefficient, boundary_pairing, signed_sum}
use Rattle.cell_complex.specs.Boundaries.{unit_at, IsSign, HaveSigns}
use Rattle.elem_cubes.proofs.Modular.{exact, either-none}
use Rattle.elem_cubes.proofs.Signs.{sum_over_faces}

pairing-none : (p : ℕ) (q : List Factor) → boundary_pairing p q (λ r. 0) ≡ 0
pairing-none p [] = refl
pairing-none p (point l ∷ qs) = pairing-none p qs
pairing-none p (interval l ∷ qs) = omega (arith, ap (λ v. (p - 1) * v) (pairing-none p qs))

coefficient-pairing : (p : ℕ) (q r : List Factor) → boundary_coefficient p q r ≡ boundary_pairing p q (unit_at r)
coefficient-pairing p [] r = refl
coefficient-pairing p (point l ∷ qs) [] = sym (pairing-none p qs)
coefficient-pairing p (interval l ∷ qs) [] = sym (ap (λ v. 0 + (p - 1) * 0 + (p - 1) * v) (pairing-none p qs) ∙ omega arith)
coefficient-pairing p (point l ∷ qs) (interval m ∷ rs) = ap (λ v. v + 0) (either-none (same_cell qs rs)) ∙ sym (pairing-none p qs)
coefficient-pairing p (point l ∷ qs) (point m ∷ rs) =
    let e = coefficient-pairing p qs rs in
    let z = either-none (same_cell qs rs) in
    elim (int_eq l m) as (λ v. cond (same_cell qs rs) 0 0 + cond v (boundary_coefficient p qs rs) 0 ≡ boundary_pairing p qs (λ ts. cond (v && same_cell ts rs) 1 0)) [
      | true ↦ omega arith
      | false ↦ let y = pairing-none p qs in omega arith
    ]
coefficient-pairing p (interval l ∷ qs) (interval m ∷ rs) =
    let e = ap (λ v. (p - 1) * v) (coefficient-pairing p qs rs) in
    let z = either-none (same_cell qs rs) in
    elim (int_eq l m) as (λ v. cond (same_cell qs rs) 0 0 + cond v ((p - 1) * boundary_coefficient p qs rs) 0 ≡ 0 + (p - 1) * 0 + (p - 1) * boundary_pairing p qs (λ ts. cond (v && same_cell ts rs) 1 0)) [
      | true ↦ omega arith
      | false ↦ let y = ap (λ v. (p - 1) * v) (pairing-none p qs) in omega arith
    ]
coefficient-pairing p (interval l ∷ qs) (point m ∷ rs) =
    let y = ap (λ v. (p - 1) * v) (pairing-none p qs) in
    elim (same_cell qs rs) as (λ w. cond w (cond (int_eq (l +ℤ pos 1) m) 1 0 + cond (int_eq l m) (p - 1) 0) 0 + 0 ≡ cond (int_eq (l +ℤ pos 1) m && w) 1 0 + (p - 1) * cond (int_eq l m && w) 1 0 + (p - 1) * boundary_pairing p qs (λ ts. 0)) [
      | true ↦ elim (int_eq (l +ℤ pos 1) m) as (λ u. cond u 1 0 + cond (int_eq l m) (p - 1) 0 + 0 ≡ cond (u && true) 1 0 + (p - 1) * cond (int_eq l m && true) 1 0 + (p - 1) * boundary_pairing p qs (λ ts. 0)) [
        | true ↦ elim (int_eq l m) as (λ v. 1 + cond v (p - 1) 0 + 0 ≡ 1 + (p - 1) * cond (v && true) 1 0 + (p - 1) * boundary_pairing p qs (λ ts. 0)) [ true ↦ omega arith | false ↦ omega arith ]
        | false ↦ elim (int_eq l m) as (λ v. 0 + cond v (p - 1) 0 + 0 ≡ 0 + (p - 1) * cond (v && true) 1 0 + (p - 1) * boundary_pairing p qs (λ ts. 0)) [ true ↦ omega arith | false ↦ omega arith ]
      ]
      | false ↦ elim (int_eq (l +ℤ pos 1) m) as (λ u. 0 + 0 ≡ cond (u && false) 1 0 + (p - 1) * cond (int_eq l m && false) 1 0 + (p - 1) * boundary_pairing p qs (λ ts. 0)) [
        | true ↦ elim (int_eq l m) as (λ v. 0 + 0 ≡ 0 + (p - 1) * cond (v && false) 1 0 + (p - 1) * boundary_pairing p qs (λ ts. 0)) [ true ↦ omega arith | false ↦ omega arith ]
        | false ↦ elim (int_eq l m) as (λ v. 0 + 0 ≡ 0 + (p - 1) * cond (v && false) 1 0 + (p - 1) * boundary_pairing p qs (λ ts. 0)) [ true ↦ omega arith | false ↦ omega arith ]
      ]
    ]

-- the coefficient of r in the boundary of q is the signed number of times that r is listed among the facets of q
pub facets_coefficient : (p : ℕ) (q r : List Factor) → 1 ≤ p → Same p (signed_sum p (unit_at r) (faces_of q)) (boundary_coefficient p q r)
facets_coefficient p q r h = same_trans (sum_over_faces p q (unit_at r) h) (exact p (sym (coefficient-pairing p q r)))

-- a sign, as an element of the field
pub residue_of : (p n : ℕ) (s : ℤ) → 1 ≤ p → pos n ≡ int_rem_euclid s (pos p) → Same p n (residue p s)
residue_of p n (pos a) h e =
    let f : n ≡ a % p = cc in
    same_by p (a / p) 0 n a (omega arith)
residue_of p n (negsuc a) h e =
    let f : n ≡ p - 1 - a % p = cc in
    let g = neg_cancel p (a + 1) h in
    same_by p (a + 1) (a / p + 1) n ((p - 1) * (a + 1)) (omega arith)

-- ---- the signs of facets

sign_turned : (s : ℤ) → IsSign s → IsSign (neg_ℤ s)
sign_turned s e = ⊎_elim (λ f. inr (ap neg_ℤ f)) (λ f. inl (ap neg_ℤ f)) e

signs-append : (gs hs : List (List Factor × ℤ)) → HaveSigns gs → HaveSigns hs → HaveSigns (gs ++ hs)
signs-append [] hs h k = k
signs-append (g ∷ gs) hs h k = (h.0, signs-append gs hs h.1 k)

signs-behind : (f : Factor) (gs : List (List Factor × ℤ)) → HaveSigns gs → HaveSigns (map (behind f) gs)
signs-behind f [] h = tt
signs-behind (point l) (g ∷ gs) h = (h.0, signs-behind (point l) gs h.1)
signs-behind (interval l) (g ∷ gs) h = (sign_turned g.1 h.0, signs-behind (interval l) gs h.1)

pub facets_have_signs : (q : List Factor) → HaveSigns (faces_of q)
facets_have_signs [] = tt
facets_have_signs (point l ∷ qs) = signs-behind (point l) (faces_of qs) (facets_have_signs qs)
facets_have_signs (interval l ∷ qs) = (inl refl, (inr refl, signs-behind (interval l) (faces_of qs) (facets_have_signs qs)))

-- a sign is read from its bits as it is
pub sign_read : (s : ℤ) → IsSign s → to_z w8 (of_z w8 s) ≡ s
sign_read s e = ⊎_elim
    (λ f. ap (λ z. to_z w8 (of_z w8 z)) f ∙ sym f)
    (λ f. ap (λ z. to_z w8 (of_z w8 z)) f ∙ sym f)
    e

pub sign_read_wide : (s : ℤ) → IsSign s → to_z w64 (of_z w64 s) ≡ s
sign_read_wide s e = ⊎_elim
    (λ f. ap (λ z. to_z w64 (of_z w64 z)) f ∙ sym f)
    (λ f. ap (λ z. to_z w64 (of_z w64 z)) f ∙ sym f)
    e

-- the element of the field that a sign is, as the code computes it
pub sign_number : (p n : ℕ) (s r : ℤ) → IsSign s → r ≡ to_z w8 (of_z w8 s) → pos n ≡ int_rem_euclid (to_z w64 (of_z w64 r)) (pos p) → pos n ≡ int_rem_euclid s (pos p)
sign_number p n s r sign e f = f ∙ ap (λ z. int_rem_euclid z (pos p)) (ap (λ z. to_z w64 (of_z w64 z)) (e ∙ sign_read s sign) ∙ sign_read_wide s sign)
