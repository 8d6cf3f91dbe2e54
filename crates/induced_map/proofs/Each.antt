-- One chain more, in lists that stand to each other one to one.
use Rattle.std.proofs.Common.{◌≡◌, ℕ, ◌+◌, sym, ap, ◌∙◌, subst, arith, ⊎_elim, List, [], ◌∷◌, ◌++◌, length, get_or}
use Rattle.std.proofs.lemmas.Bool.{cases_lt}
use Rattle.std.proofs.lemmas.List.{get_or_append_left, get_or_push, length_push}
use Rattle.induced_map.specs.Lists.{AreEach}

module _ (R : List (ℕ × ℕ) → List (ℕ × ℕ) → Type 0) (zs : List (List (ℕ × ℕ))) where
  pub each_none : (chains : List (List (ℕ × ℕ))) → chains ≡ [] → AreEach R zs 0 chains
  each_none chains e = record { count = ap length e; each = λ j l. absurd (omega arith) }

  pub each_more : (n : ℕ) (chains new : List (List (ℕ × ℕ))) (us ts : List (ℕ × ℕ)) → AreEach R zs n chains → new ≡ chains ++ ts ∷ [] → us ≡ get_or zs n [] → R us ts → AreEach R zs (n + 1) new
  each_more n chains new us ts so_far e same r = record {
    count = ap length e ∙ length_push chains ts ∙ ap (λ v. v + 1) so_far.count;
    each = λ j l. ⊎_elim
        (λ lt. subst (λ (vs : List (ℕ × ℕ)). R (get_or zs j []) vs) (sym (ap (λ cs. get_or cs j []) e ∙ get_or_append_left chains (ts ∷ []) [] j (omega (arith, so_far.count)))) (so_far.each j lt))
        (λ ge.
        let k : j ≡ n = omega arith in
        let at : get_or new j [] ≡ ts = ap (λ cs. get_or cs j []) e ∙ ap (λ i. get_or (chains ++ ts ∷ []) i []) k ∙ get_or_push chains ts [] n so_far.count in
        subst (λ (vs : List (ℕ × ℕ)). R (get_or zs j []) vs) (sym at) (subst (λ (vs : List (ℕ × ℕ)). R vs ts) (same ∙ ap (λ i. get_or zs i []) (sym k)) r))
        (cases_lt j n);
  }
