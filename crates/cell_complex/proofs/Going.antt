-- A growth goes on with a member that may be moved
use Rattle.std.proofs.Common.{◌≡◌, ℕ, ◌<◌, sym, arith, ⊎_elim, List, [], ◌∷◌, ◌++◌, length, length-append, take, subst}
use Rattle.std.specs.List.{Contains}
use Rattle.std.proofs.lemmas.Bool.{cases_lt}
use Rattle.std.proofs.lemmas.List.{get_or_append_left, take-append-le}
use Rattle.std.proofs.Math.Seq.{get_or-append_seam, take-append_seam}
use Rattle.elem_cubes.specs.Cells.{Factor}
use Rattle.elem_cubes.specs.Laws.{cell_at}
use Rattle.cell_complex.specs.Growth.{IsMovable}
use Rattle.cell_complex.specs.Laws.{GrowthsGoOn}

pub go_on : GrowthsGoOn
go_on p x a cubes q g w m = record { members = λ i l. either (Contains x) i l (g.members i) w; moves = moves }
  where
    either : (P : List Factor → Type 0) (i : ℕ) → i < length (cubes ++ q ∷ []) → (i < length cubes → P (cell_at cubes i)) → P q → P (cell_at (cubes ++ q ∷ []) i)
    either P i l old new = ⊎_elim
        (λ lt. subst P (sym (get_or_append_left cubes (q ∷ []) [] i lt)) (old lt))
        (λ ge. let e : i ≡ length cubes = omega (arith, length-append cubes (q ∷ [])) in subst (λ (k : ℕ). P (cell_at (cubes ++ q ∷ []) k)) (sym e) (subst P (sym (get_or-append_seam cubes q [] [])) new))
        (cases_lt i (length cubes))

    moves : (i : ℕ) → i < length (cubes ++ q ∷ []) → IsMovable p (a ++ take i (cubes ++ q ∷ [])) (cell_at (cubes ++ q ∷ []) i)
    moves i l = ⊎_elim
        (λ lt. subst (λ (front : List (List Factor)). IsMovable p (a ++ front) (cell_at (cubes ++ q ∷ []) i)) (sym (take-append-le i cubes (q ∷ []) (omega arith)))
        (subst (IsMovable p (a ++ take i cubes)) (sym (get_or_append_left cubes (q ∷ []) [] i lt)) (g.moves i lt)))
        (λ ge.
        let e : i ≡ length cubes = omega (arith, length-append cubes (q ∷ [])) in
        subst (λ (k : ℕ). IsMovable p (a ++ take k (cubes ++ q ∷ [])) (cell_at (cubes ++ q ∷ []) k)) (sym e)
        (subst (λ (front : List (List Factor)). IsMovable p (a ++ front) (cell_at (cubes ++ q ∷ []) (length cubes))) (sym (take-append_seam cubes (q ∷ [])))
        (subst (IsMovable p (a ++ cubes)) (sym (get_or-append_seam cubes q [] [])) m)))
        (cases_lt i (length cubes))
