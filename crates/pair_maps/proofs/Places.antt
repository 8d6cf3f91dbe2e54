-- Chains of a hole name places in its list.
use Rattle.std.proofs.Common.{ℕ, ◌<◌, ◌^◌, arith, List, length, get_or, ⊎_elim}
use Rattle.std.proofs.lemmas.Bool.{cases_lt}
use Rattle.elem_cubes.specs.Cells.{Factor}
use Rattle.chains.specs.Terms.{IsNormal}
use Rattle.chains.proofs.TermLists.{named_at}
use Rattle.acyclic_values.specs.Faults.{IsWithin}
use Rattle.algebraic_reduction.proofs.Residues.{same_zero}
use Rattle.chains.proofs.TermLists.{coefficient-lt}
use Rattle.field_mod.specs.Modular.{Same}
use Rattle.chains.specs.Terms.{coefficient, IsNormalWithin}
use Rattle.std.proofs.Common.{[], ◌∷◌, ◌≡◌, refl}

coefficient_zero : (p high : ℕ) (ts : List (ℕ × ℕ)) (g : ℕ) → IsNormalWithin p 0 high ts → Same p (coefficient ts g) 0 → coefficient ts g ≡ 0
coefficient_zero p high [] g w s = refl
coefficient_zero p high (t ∷ ts) g w s = same_zero p (coefficient (t ∷ ts) g) (coefficient-lt p 0 high (t ∷ ts) g (omega (arith, w.1, w.2)) w) s

-- a term at a place is of the list
pub place_below : (p : ℕ) (cells : List (List Factor)) (ts : List (ℕ × ℕ)) (i : ℕ) → IsNormal p ts → IsWithin p cells ts → i < length ts → (get_or ts i (0, 0)).0 < length cells
place_below p cells ts i n w l =
    let r = named_at p 0 (2 ^ 32) ts i n l in
    let g = (get_or ts i (0, 0)).0 in
    ⊎_elim (λ below. below) (λ past. absurd (let z = coefficient_zero p (2 ^ 32) ts g n (w g past) in omega (arith, r.1, r.2, z))) (cases_lt g (length cells))
