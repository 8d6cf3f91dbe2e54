-- The boundary of a chain of cells at a cell is made of the cofacets of the cell alone
use Rattle.std.proofs.Common.{◌≡◌, ℕ, ◌+◌, ◌-◌, inl, inr, refl, ap, arith, List, [], ◌∷◌}
use Rattle.std.specs.Prelude.{negsuc, ◌+ℤ◌, pos}
use Rattle.std.proofs.lemmas.Int.{ints}
use Rattle.field_mod.specs.Modular.{Same}
use Rattle.field_mod.proofs.Modular.{same_refl, same-add, same-scale}
use Rattle.elem_cubes.specs.Cells.{Factor, point, interval}
use Rattle.elem_cubes.specs.Faces.{IsFacet}
use Rattle.elem_cubes.specs.Boundary.{boundary_at}
use Rattle.elem_cubes.proofs.FaceLemmas.{face_refl}

-- only the values at cofacets count
pub boundary_same : (p : ℕ) (r : List Factor) (c d : List Factor → ℕ) → ((s : List Factor) → IsFacet s r → Same p (c s) (d s)) → Same p (boundary_at p r c) (boundary_at p r d)
boundary_same p [] c d h = same_refl p 0
boundary_same p (point m ∷ rs) c d h =
    same-add (same-add (h (interval (m +ℤ negsuc 0) ∷ rs) ((inr up, face_refl rs), refl)) (same-scale (p - 1) (h (interval m ∷ rs) ((inl refl, face_refl rs), refl)))) (boundary_same p rs (λ ts. c (point m ∷ ts)) (λ ts. d (point m ∷ ts)) (λ s k. h (point m ∷ s) ((refl, k.0), k.1)))
  where
    up : m ≡ m +ℤ negsuc 0 +ℤ pos 1
    up = omega (arith, ints)
boundary_same p (interval m ∷ rs) c d h = same-scale (p - 1) (boundary_same p rs (λ ts. c (interval m ∷ ts)) (λ ts. d (interval m ∷ ts)) (λ s k. h (interval m ∷ s) ((refl, k.0), ap (λ n. n + 1) k.1)))
