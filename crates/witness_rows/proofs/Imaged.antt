-- The images of cycles, one after the other.
use Rattle.std.proofs.Common.{◌≡◌, ℕ, ◌+◌, ◌*◌, ◌%◌, ◌<◌, ◌≤◌, sym, ap, ◌∙◌, arith, ⊎_elim, List, [], ◌∷◌, ◌++◌, length, get_or}
use Rattle.std.proofs.lemmas.Bool.{cases_lt}
use Rattle.std.proofs.lemmas.List.{get_or_append_left, get_or_default, get_or_past, length-append}
use Rattle.std.proofs.Math.Seq.{get_or-append_seam}
use Rattle.field_mod.proofs.Modular.{same_trans}
use Rattle.field_mod.proofs.Sums.{total-same, total-zero}
use Rattle.elem_cubes.proofs.Modular.{exact}
use Rattle.chains.specs.Terms.{coefficient, nth_chain}
use Rattle.chains.specs.ChainComplex.{boundary, incidence}
use Rattle.chain_lists.specs.Lists.{IsTranspose}
use Rattle.witness_sections.proofs.Parting.{reduced}
use Rattle.witness_rows.specs.Rows.{AreProducts}

pub record SumsTo (p : ℕ) (images cycles all : List (List (ℕ × ℕ))) (i : ℕ) : Type 0 where
  pub count : length all ≡ i
  pub value : (s g : ℕ) → s < i → nth_chain all s g ≡ boundary images (nth_chain cycles s) g % p

pub sums_none : (p : ℕ) (images cycles all : List (List (ℕ × ℕ))) → all ≡ [] → SumsTo p images cycles all 0
sums_none p images cycles all e = record { count = ap length e; value = λ s g l. absurd (omega (arith, l)) }

pub sums_more : (p : ℕ) (images cycles all new : List (List (ℕ × ℕ))) (z c : List (ℕ × ℕ)) (i : ℕ) → i < length cycles → z ≡ get_or cycles i z → new ≡ all ++ c ∷ [] → ((g : ℕ) → coefficient c g ≡ boundary images (coefficient z) g % p)
    → SumsTo p images cycles all i → SumsTo p images cycles new (i + 1)
sums_more p images cycles all new z c i l ez e sum so_far = record {
  count = ap length e ∙ length-append all (c ∷ []) ∙ ap (λ n. n + 1) so_far.count;
  value = λ s g ls. ⊎_elim
      (λ below. ap (λ (xs : List (List (ℕ × ℕ))). nth_chain xs s g) e ∙ ap (λ (us : List (ℕ × ℕ)). coefficient us g) (get_or_append_left all (c ∷ []) [] s (omega (arith, below, so_far.count))) ∙ so_far.value s g below)
      (λ above. let q : s ≡ i = omega (arith, above, ls) in
      ap (λ (xs : List (List (ℕ × ℕ))). nth_chain xs s g) e ∙ ap (λ (us : List (ℕ × ℕ)). coefficient us g) (ap (λ (n : ℕ). get_or (all ++ c ∷ []) n []) (q ∙ sym so_far.count) ∙ get_or-append_seam all c [] [])
      ∙ sum g ∙ ap (λ (us : List (ℕ × ℕ)). boundary images (coefficient us) g % p) (ez ∙ get_or_default cycles i z [] l) ∙ ap (λ n. boundary images (nth_chain cycles n) g % p) (sym q))
      (cases_lt s i);
}

pub sums_end : (p : ℕ) (images cycles all : List (List (ℕ × ℕ))) (i : ℕ) → length cycles ≤ i → SumsTo p images cycles all i → (s g : ℕ) → s < length cycles → nth_chain all s g ≡ boundary images (nth_chain cycles s) g % p
sums_end p images cycles all i l so_far s g ls = so_far.value s g (omega (arith, l, ls))

-- and their transpose
pub products_are : (p count : ℕ) (images cycles sums given rows : List (List (ℕ × ℕ))) → given ≡ sums → length sums ≡ length cycles → ((s g : ℕ) → s < length cycles → nth_chain sums s g ≡ boundary images (nth_chain cycles s) g % p) → IsTranspose p count given rows → AreProducts p count images cycles rows
products_are p count images cycles sums given rows e sizes value t g s lg = same_trans (t.value g s lg) (same_trans (exact p (ap (λ (xs : List (List (ℕ × ℕ))). nth_chain xs s g) e)) (⊎_elim
    (λ l. reduced p (nth_chain sums s g) (boundary images (nth_chain cycles s) g) (value s g l))
    (λ past. exact p (ap (λ (us : List (ℕ × ℕ)). coefficient us g) (get_or_past sums s [] (omega (arith, sizes, past)))
    ∙ sym (ap (λ (us : List (ℕ × ℕ)). boundary images (coefficient us) g) (get_or_past cycles s [] past) ∙ total-same (length images) (λ h. 0 * incidence images h g) (λ h. 0) (λ h l. omega arith) ∙ total-zero (length images))))
    (cases_lt s (length cycles))))
