-- Sums of kept images, term by term.
use Rattle.std.proofs.Common.{◌≡◌, ℕ, ◌*◌, ◌%◌, ◌<◌, ◌≤◌, sym, ap, ◌∙◌, arith, List, [], length, get_or, map, true, Option, Some, None}
use Rattle.std.proofs.lemmas.Bool.{true≢false}
use Rattle.std.proofs.lemmas.List.{get_or-map, get_or_default, length-map}
use native.Mathlib.Nat.{mod-mod}
use Rattle.field_mod.specs.Sums.{total}
use Rattle.field_mod.proofs.Sums.{total-same, total-zero}
use Rattle.field_mod.proofs.Modular.{same_trans}
use Rattle.elem_cubes.specs.Cells.{Factor}
use Rattle.elem_cubes.specs.Laws.{cell_at}
use Rattle.elem_cubes.proofs.Modular.{exact}
use Rattle.chains.specs.Terms.{coefficient, IsNormal, nth_chain}
use Rattle.chains.specs.ChainComplex.{boundary}
use Rattle.cube_sets.specs.Closures.{is_cell_of}
use Rattle.cell_complex.specs.Numbering.{by_cell, number_of}
use Rattle.cell_complex.proofs.Numbering.{number_at}
use Rattle.acyclic_values.specs.CarriedMaps.{image}
use Rattle.acyclic_values.proofs.Cells.{cells_listing}
use Rattle.chain_selector.specs.Selections.{Selection, IsSelection, IsImageOf, is_kept, kept_terms, kept_image, domain_cells, range_cells, is_some, terms_or_none}
use Rattle.chain_selector.proofs.OtherNumbers.{by_cell-at}

-- the kept images, by number; where there is none, the empty chain
abbrev pub chains_of : Selection → List (List (ℕ × ℕ))
chains_of s = map terms_or_none s.images

-- the number of a cell of the domain
pub number_is : (s : Selection) (i : ℕ) → i < length (domain_cells s) → number_of (domain_cells s) (cell_at (domain_cells s) i) ≡ i
number_is s i l = number_at (is_cell_of s.carrying.domain) (domain_cells s) (cells_listing s.carrying.domain) i l

-- a kept image stands at the number of its cell
pub kept_at : (s : Selection) (i : ℕ) → i < length (domain_cells s) → is_kept s (cell_at (domain_cells s) i) ≡ true → is_some (get_or s.images i None) ≡ true
kept_at s i l k = ap (λ n. is_some (get_or s.images n None)) (sym (number_is s i l)) ∙ k

pub never_none : (s : Selection) (i : ℕ) (o : Option (List (ℕ × ℕ))) → i < length s.images → o ≡ get_or s.images i o → o ≡ None → is_some (get_or s.images i None) ≡ true → ⊥
never_none s i o l e none k = true≢false (sym k ∙ ap is_some (sym (get_or_default s.images i o None l)) ∙ ap is_some (sym e ∙ none))

-- the chain that was read at a place
pub chain_read : (s : Selection) (i : ℕ) (o : Option (List (ℕ × ℕ))) (c : List (ℕ × ℕ)) → i < length s.images → o ≡ get_or s.images i o → o ≡ Some c → c ≡ get_or (chains_of s) i c
chain_read s i o c l e is =
    let at : get_or s.images i None ≡ Some c = sym (get_or_default s.images i o None l) ∙ sym e ∙ is in
    sym (get_or-map terms_or_none s.images i None c l ∙ ap terms_or_none at)

-- what the sum of the kept images has at a cell of the range
module _ (p : ℕ) (s : Selection) (sel : IsSelection p s) where
  abbrev ds : List (List Factor)
  ds = domain_cells s

  abbrev rs : List (List Factor)
  rs = range_cells s

  abbrev n : ℕ
  n = length (chains_of s)

  count : n ≡ length ds
  count = length-map s.images terms_or_none ∙ sel.sizes

  chain_at : (i : ℕ) → i < length ds → get_or (chains_of s) i [] ≡ kept_terms s (cell_at ds i)
  chain_at i l = get_or-map terms_or_none s.images i None [] (omega (arith, sel.sizes)) ∙ ap (λ k. terms_or_none (get_or s.images k None)) (sym (number_is s i l))

  -- a number past the cells of the range has no coefficient
  pub sum_past : (c : ℕ → ℕ) (g : ℕ) → length rs ≤ g → boundary (chains_of s) c g ≡ 0
  sum_past c g past =
      total-same n (λ h. c h * nth_chain (chains_of s) h g) (λ h. 0) (λ h l.
      let z : nth_chain (chains_of s) h g ≡ 0 = ap (λ ts. coefficient ts g) (chain_at h (omega (arith, l, count))) ∙ sel.numbers (cell_at ds h) g past in
      ap (λ v. c h * v) z ∙ omega arith) ∙ total-zero n

  pub sum_at : (cs : List (ℕ × ℕ)) (g : ℕ) → g < length rs → boundary (chains_of s) (coefficient cs) g ≡ image ds (kept_image s) (by_cell ds (coefficient cs)) (cell_at rs g)
  sum_at cs g lg =
      ap (λ k. total k (λ h. coefficient cs h * nth_chain (chains_of s) h g)) count
      ∙ total-same (length ds) (λ h. coefficient cs h * nth_chain (chains_of s) h g) (λ h. by_cell ds (coefficient cs) (cell_at ds h) * kept_image s (cell_at ds h) (cell_at rs g)) (λ h l.
      let a : by_cell ds (coefficient cs) (cell_at ds h) ≡ coefficient cs h = by_cell-at ds (coefficient cs) (cell_at ds h) (omega (arith, number_is s h l)) ∙ ap (coefficient cs) (number_is s h l) in
      let m : number_of rs (cell_at rs g) ≡ g = number_at (is_cell_of s.carrying.range) rs (cells_listing s.carrying.range) g lg in
      let b : kept_image s (cell_at ds h) (cell_at rs g) ≡ nth_chain (chains_of s) h g = by_cell-at rs (coefficient (kept_terms s (cell_at ds h))) (cell_at rs g) (omega (arith, m)) ∙ ap (coefficient (kept_terms s (cell_at ds h))) m ∙ ap (λ ts. coefficient ts g) (sym (chain_at h l)) in
      ap (λ v. v * nth_chain (chains_of s) h g) (sym a) ∙ ap (λ v. by_cell ds (coefficient cs) (cell_at ds h) * v) (sym b))

  pub image_is : (cs b : List (ℕ × ℕ)) → IsNormal p b → ((g : ℕ) → coefficient b g ≡ boundary (chains_of s) (coefficient cs) g % p) → IsImageOf p s cs b
  image_is cs b normal sum = record {
    normal = normal;
    within = λ g past. sum g ∙ ap (λ v. v % p) (sum_past (coefficient cs) g past) ∙ zero_mod;
    value = λ g lg. same_trans (record { same = ap (λ v. v % p) (sum g) ∙ mod-mod (boundary (chains_of s) (coefficient cs) g) p }) (exact p (sum_at cs g lg));
  }
    where
      zero_mod : 0 % p ≡ 0
      zero_mod = omega arith
