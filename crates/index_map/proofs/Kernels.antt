-- A matrix kills a vector that is not 0, or none.
use Rattle.std.proofs.Common.{◌≡◌, ℕ, ◌*◌, ◌<◌, ◌⊎◌, inl, inr, ⊎_elim, sym, subst, arith}
use Rattle.std.proofs.lemmas.Bool.{cases_lt}
use Rattle.field_mod.specs.Sums.{total}
use Rattle.field_mod.specs.Modular.{Same, IsField}
use Rattle.field_mod.proofs.Sums.{total-same, total_same, total_none}
use Rattle.field_mod.proofs.Modular.{same_refl, same_sym, same_trans, same-scale, same-mul}
use Rattle.field_mod.proofs.Solutions.{Solution, solve}
use Rattle.elem_cubes.proofs.Modular.{exact}
use Rattle.leray_conley.specs.Products.{product}
use Rattle.leray_conley.specs.Inverses.{IsInverse}
use Rattle.leray_conley.specs.Kernels.{IsInKernel, IsKilled}
use Rattle.leray_conley.specs.Ranks.{IsImageBasis}
use Rattle.leray_conley.proofs.Inverses.{inverse_or_kernel}
use Rattle.leray_conley.proofs.RankLaws.{ranks_exist}
use Rattle.acyclic_values.proofs.Sums.{total_total}
use Rattle.index_map.proofs.Classes.{solved_none}

module _ (p m n r : ℕ) (a b : ℕ → ℕ → ℕ) (h : IsImageBasis p m n a r b) where
  -- the entries of the product with a vector, by the weights
  abbrev weighted : (ℕ → ℕ) → ℕ → ℕ
  weighted v l = total n (λ j. h.weights l j * v j)

  by_weights : (v : ℕ → ℕ) (i : ℕ) → i < m → Same p (total n (λ j. a i j * v j)) (total r (λ l. b i l * weighted v l))
  by_weights v i q = same_trans (total_same p n (λ j. a i j * v j) (λ j. product r b h.weights i j * v j) (λ j l. same-mul (h.spans.at i j q l) (same_refl p (v j)))) (exact p (total_total r n (b i) h.weights v))

  from_weights : (v : ℕ → ℕ) → IsInKernel p r n h.weights v → IsInKernel p m n a v
  from_weights v k i q = same_trans (by_weights v i q) (total_none p r (λ l. b i l * weighted v l) (λ l s. same_trans (same-scale (b i l) (k l s)) (exact p (omega arith))))

  to_weights : (v : ℕ → ℕ) → IsInKernel p m n a v → IsInKernel p r n h.weights v
  to_weights v k = h.independent (weighted v) (λ i q. same_trans (same_sym (by_weights v i q)) (k i q))

  killed_from : (v : ℕ → ℕ) → IsKilled p r n h.weights v → IsKilled p m n a v
  killed_from v k = record { place = k.place; within = k.within; nonzero = k.nonzero; kills = from_weights v k.kills }

  solved_kills : (rows columns : ℕ) (f : ℕ → ℕ → ℕ) (s : Solution p columns rows f) → IsInKernel p rows columns f s.at
  solved_kills rows columns f s i l = same_trans (exact p (total-same columns (λ j. f i j * s.at j) (λ j. s.at j * f i j) (λ j _. omega arith))) (s.solves i l)

  -- the rank is at most the number of columns
  never_more : IsField p → n < r → ⊥
  never_more field more =
      let s = solve p field n r more h.sources in
      let k = solved_kills n r h.sources s in
      let dies : IsInKernel p m r b s.at = λ i q. same_trans (total_same p r (λ l. b i l * s.at l) (λ l. product n a h.sources i l * s.at l) (λ l t. same-mul (h.inside.at i l q t) (same_refl p (s.at l))))
      (same_trans (exact p (total_total n r (a i) h.sources s.at)) (total_none p n (λ j. a i j * total r (λ l. h.sources j l * s.at l)) (λ j t. same_trans (same-scale (a i j) (k j t)) (exact p (omega arith))))) in
      s.nonzero (h.independent s.at dies s.place s.within)

  -- where the weights have an inverse nothing is killed
  inverse_kills_none : (w : ℕ → ℕ → ℕ) → IsInverse p n h.weights w → r ≡ n → (v : ℕ → ℕ) → IsKilled p m n a v → ⊥
  inverse_kills_none w inv same v k = k.nonzero (solved_none p n h.weights w inv v (λ i l. same_trans (exact p (total-same n (λ s. v s * h.weights i s) (λ s. h.weights i s * v s) (λ s _. omega arith))) (to_weights v k.kills i (omega arith))) k.place k.within)

  pub by_rank : IsField p → ((v : ℕ → ℕ) × IsKilled p m n a v) ⊎ ((v : ℕ → ℕ) → IsKilled p m n a v → ⊥)
  by_rank field = ⊎_elim
      (λ less. let s = solve p field r n less h.weights in inl (s.at, killed_from s.at (record { place = s.place; within = s.within; nonzero = s.nonzero; kills = solved_kills r n h.weights s })))
      (λ many. ⊎_elim
      (λ more. absurd (never_more field more))
      (λ few. let same : r ≡ n = omega (arith, many, few) in ⊎_elim
      (λ (w, inv). inr (inverse_kills_none w inv same))
      (λ (v, k). inl (v, killed_from v (subst (λ (q : ℕ). IsKilled p q n h.weights v) (sym same) k)))
      (inverse_or_kernel p n h.weights field))
      (cases_lt n r))
      (cases_lt r n)

pub kernel_or_none : (p m n : ℕ) (a : ℕ → ℕ → ℕ) → IsField p → ((v : ℕ → ℕ) × IsKilled p m n a v) ⊎ ((v : ℕ → ℕ) → IsKilled p m n a v → ⊥)
kernel_or_none p m n a field = let q = ranks_exist p m n a field in let b = q.1 in by_rank p m n q.0 a b.0 b.1 field
