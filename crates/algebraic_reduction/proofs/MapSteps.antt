-- The turns of the loops that compute the maps.
use Rattle.std.proofs.Common.{◌≡◌, ◌≢◌, ℕ, ◌+◌, ◌<◌, refl, sym, ap, ◌∙◌, arith, List, [], ◌∷◌, ◌++◌, length, get_or, take, ne_eqb, Option, Some, None, true, false, Bool, true≢false}
use Rattle.std.specs.Prelude.{is_some, not}
use Rattle.chains.specs.Terms.{coefficient}
use Rattle.chains.proofs.TermLists.{coefficient-append}
use Rattle.algebraic_reduction.specs.State.{place_at}
use Rattle.algebraic_reduction.proofs.NamedRows.{coefficient_more, coefficient_other}

pub none_from : (o : Option ℕ) (b : Bool) → is_some o ≡ not b → b ≡ true → o ≡ None
none_from o b e q = elim o as (λ v. is_some v ≡ not b → v ≡ None) [ None ↦ λ r. refl | Some i ↦ λ r. absurd (true≢false (r ∙ ap not q)) ] e

pub some_from : (o : Option ℕ) (b : Bool) → is_some o ≡ not b → b ≡ false → (i : ℕ) × (o ≡ Some i)
some_from o b e q = elim o as (λ v. is_some v ≡ not b → (i : ℕ) × (v ≡ Some i)) [ None ↦ λ r. absurd (true≢false (sym (r ∙ ap not q))) | Some i ↦ λ r. (i, refl) ] e

-- one more term of a chain: kept where its generator is in no step
pub left_kept : (places : List (Option ℕ)) (ts out out' : List (ℕ × ℕ)) (k : ℕ) → k < length ts → ((g : ℕ) → place_at places g ≡ None → coefficient out g ≡ coefficient (take k ts) g) → out' ≡ out ++ get_or ts k (0, 0) ∷ [] → (g : ℕ) → place_at places g ≡ None → coefficient out' g ≡ coefficient (take (k + 1) ts) g
left_kept places ts out out' k l inv e g n = ap (λ (c : List (ℕ × ℕ)). coefficient c g) e ∙ coefficient-append out (get_or ts k (0, 0) ∷ []) g ∙ ap (λ v. v + coefficient (get_or ts k (0, 0) ∷ []) g) (inv g n) ∙ sym (coefficient_more ts k g l)

pub others_kept : (places : List (Option ℕ)) (t : ℕ × ℕ) (out out' : List (ℕ × ℕ)) → ((g i : ℕ) → place_at places g ≡ Some i → coefficient out g ≡ 0) → place_at places t.0 ≡ None → out' ≡ out ++ t ∷ [] → (g i : ℕ) → place_at places g ≡ Some i → coefficient out' g ≡ 0
others_kept places t out out' inv n e g i s = ap (λ (c : List (ℕ × ℕ)). coefficient c g) e ∙ coefficient-append out (t ∷ []) g ∙ (let f : t.0 ≢ g = λ q. clash (sym n ∙ ap (λ (x : ℕ). place_at places x) q ∙ s) in let z = inv g i s in rw (ne_eqb t.0 g f) (omega arith))
  where
    clash : None ≡ Some i → ⊥
    clash q = cc

pub left_skipped : (places : List (Option ℕ)) (ts out : List (ℕ × ℕ)) (k i : ℕ) → k < length ts → ((g : ℕ) → place_at places g ≡ None → coefficient out g ≡ coefficient (take k ts) g) → place_at places (get_or ts k (0, 0)).0 ≡ Some i → (g : ℕ) → place_at places g ≡ None → coefficient out g ≡ coefficient (take (k + 1) ts) g
left_skipped places ts out k i l inv s g n = inv g n ∙ sym (coefficient_other ts k g l (λ q. clash (sym n ∙ ap (λ (x : ℕ). place_at places x) (sym q) ∙ s)))
  where
    clash : None ≡ Some i → ⊥
    clash q = cc

-- one more term of a chain, at a generator in no step
pub off_more : (places : List (Option ℕ)) (ts : List (ℕ × ℕ)) (k : ℕ) → k < length ts → ((g i : ℕ) → place_at places g ≡ Some i → coefficient (take k ts) g ≡ 0) → place_at places (get_or ts k (0, 0)).0 ≡ None → (g i : ℕ) → place_at places g ≡ Some i → coefficient (take (k + 1) ts) g ≡ 0
off_more places ts k l inv n g i s = coefficient_other ts k g l (λ q. clash (sym n ∙ ap (λ (x : ℕ). place_at places x) q ∙ s)) ∙ inv g i s
  where
    clash : None ≡ Some i → ⊥
    clash q = cc
