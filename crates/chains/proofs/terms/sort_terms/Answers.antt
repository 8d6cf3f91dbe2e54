use Rattle.std.proofs.Common.{ℕ, rules}
use Rattle.std.proofs.lemmas.List.Sorted.{IsNonDecreasingBy-from_sort_by_key}
use Rattle.chains.proofs.Summing.{coefficient-permutation}
use Rattle.chains.proofs.terms.sort_terms.Goals as goal

pub returns-clause-sorted : goal.returns-clause-sorted
returns-clause-sorted c = IsNonDecreasingBy-from_sort_by_key (λ (t : ℕ × ℕ). t.0) _ c.sort_unstable_by_key.ensures.sorted (λ a r q k. search rules)

pub returns-clause-same : goal.returns-clause-same
returns-clause-same c = λ h. coefficient-permutation _ _ h c.sort_unstable_by_key.ensures.permutation
