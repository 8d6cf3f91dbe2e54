-- Combinations of listed chains, one chain more at a time, and as chains of cells.
use Rattle.std.proofs.Common.{◌≡◌, ℕ, ◌+◌, ◌*◌, ◌%◌, ◌^◌, ◌<◌, ◌≤◌, sym, ap, ◌∙◌, arith, ⊎_elim, List, [], length, get_or, cond}
use Rattle.std.proofs.lemmas.Bool.{cases_lt, le-ltb}
use native.Mathlib.Nat.{mod-mod}
use Rattle.field_mod.specs.Modular.{Same}
use Rattle.field_mod.proofs.Sums.{total-same, total_none}
use Rattle.field_mod.proofs.Modular.{same_sym, same_trans, same-add, same-scale}
use Rattle.elem_cubes.specs.Cells.{Factor}
use Rattle.elem_cubes.proofs.Modular.{exact}
use Rattle.chains.specs.Terms.{coefficient, nth_chain, IsNormal}
use Rattle.chains.specs.Homology.{combination}
use Rattle.chains.proofs.TermLists.{coefficient-lt}
use Rattle.algebraic_reduction.proofs.Residues.{same_zero}
use Rattle.cell_complex.specs.Numbering.{by_cell, number_of}
use Rattle.leray_conley.proofs.Totals.{total-more}
use Rattle.chain_selector.proofs.OtherNumbers.{by_cell-at}
use Rattle.induced_map.specs.Pairs.{nth_by_cell}
use Rattle.induced_map.specs.Within.{AreWithin}
use Rattle.index_map.specs.Combinations.{IsCombination}

pub combined_none : (p : ℕ) (x : ℕ → ℕ) (zs : List (List (ℕ × ℕ))) (ts : List (ℕ × ℕ)) → ts ≡ [] → IsCombination p x zs 0 ts
combined_none p x zs ts e g = exact p (ap (λ us. coefficient us g) e)

pub combined_more : (p n scale : ℕ) (x : ℕ → ℕ) (zs : List (List (ℕ × ℕ))) (cs now new : List (ℕ × ℕ)) → IsCombination p x zs n now → scale ≡ x n → cs ≡ get_or zs n []
    → ((g : ℕ) → coefficient new g ≡ (coefficient now g + scale * coefficient cs g) % p) → IsCombination p x zs (n + 1) new
combined_more p n scale x zs cs now new so_far es ec added g =
    let a : scale * coefficient cs g ≡ x n * nth_chain zs n g = ap (λ s. s * coefficient cs g) es ∙ ap (λ us. x n * coefficient us g) ec in
    same_trans (record { same = ap (λ v. v % p) (added g) ∙ mod-mod (coefficient now g + scale * coefficient cs g) p })
    (same_trans (same-add (so_far g) (exact p a)) (exact p (sym (total-more n (λ i. x i * nth_chain zs i g)))))

-- a chain of numbers has nothing at a cell that is not listed
by_cell_past : (cells : List (List Factor)) (c : ℕ → ℕ) (q : List Factor) → length cells ≤ number_of cells q → by_cell cells c q ≡ 0
by_cell_past cells c q past = ap (λ b. cond b (c (number_of cells q)) 0) (le-ltb (number_of cells q) (length cells) past)

pub combined_by_cell : (p n : ℕ) (x : ℕ → ℕ) (zs : List (List (ℕ × ℕ))) (ts : List (ℕ × ℕ)) (cells : List (List Factor)) → IsCombination p x zs n ts → (q : List Factor)
    → Same p (by_cell cells (coefficient ts) q) (combination n x (nth_by_cell cells zs) q)
combined_by_cell p n x zs ts cells c q = ⊎_elim
    (λ l. same_trans (exact p (by_cell-at cells (coefficient ts) q l)) (same_trans (c (number_of cells q)) (exact p (sym (total-same n (λ i. x i * nth_by_cell cells zs i q) (λ i. x i * nth_chain zs i (number_of cells q)) (λ i _. ap (λ v. x i * v) (by_cell-at cells (nth_chain zs i) q l)))))))
    (λ past. same_trans (exact p (by_cell_past cells (coefficient ts) q past)) (same_sym (total_none p n (λ i. x i * nth_by_cell cells zs i q) (λ i _. same_trans (same-scale (x i) (exact p (by_cell_past cells (nth_chain zs i) q past))) (exact p (omega arith))))))
    (cases_lt (number_of cells q) (length cells))

-- a combination of chains that name no number past the cells names none
pub combined_within : (p n : ℕ) (x : ℕ → ℕ) (zs : List (List (ℕ × ℕ))) (ts : List (ℕ × ℕ)) (cells : List (List Factor)) → 1 ≤ p → IsNormal p ts → IsCombination p x zs n ts
    → ((i g : ℕ) → i < n → length cells ≤ g → Same p (nth_chain zs i g) 0) → AreWithin cells ts
combined_within p n x zs ts cells one normal c past g l =
    same_zero p (coefficient ts g) (coefficient-lt p 0 (2 ^ 32) ts g one normal)
    (same_trans (c g) (total_none p n (λ i. x i * nth_chain zs i g) (λ i q. same_trans (same-scale (x i) (past i g q l)) (exact p (omega arith)))))
