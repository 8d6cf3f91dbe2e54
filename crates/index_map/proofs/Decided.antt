-- Inclusions are decided: by the matrix of the inclusion in bases of both pairs.
use Rattle.std.proofs.Common.{◌≡◌, ℕ, zero, suc, ◌+◌, ◌*◌, ◌%◌, ◌<◌, ◌≤◌, ◌⊎◌, inl, inr, ⊎_elim, sym, ap, ◌∙◌, subst, arith, List, [], ◌∷◌, length}
use Rattle.std.proofs.lemmas.Bool.{cases_lt, le-ltb}
use native.Mathlib.Nat.{mod-mod}
use Rattle.field_mod.specs.Sums.{total}
use Rattle.field_mod.specs.Modular.{Same, IsField}
use Rattle.field_mod.proofs.Sums.{total_none}
use Rattle.field_mod.proofs.Modular.{same_refl, same_sym, same_trans, same-scale}
use Rattle.elem_cubes.specs.Cells.{Factor}
use Rattle.elem_cubes.specs.Laws.{cell_at}
use Rattle.elem_cubes.proofs.Modular.{exact}
use Rattle.elem_cubes.proofs.Members.{In, In-from}
use Rattle.chains.specs.Terms.{nth_chain, IsNormalWithin}
use Rattle.chains.specs.Homology.{combination}
use Rattle.chains.proofs.TermLists.{coefficient-above}
use Rattle.homology_basis.specs.Bases.{BasisOfLog, CyclesOfLog, in_degree, IsBasisByCycles, IsBasisWithContraction}
use Rattle.leray_conley.specs.Products.{transpose}
use Rattle.leray_conley.specs.Kernels.{IsKilled as LeraysKilled}
use Rattle.leray_conley.proofs.Inverses.{inverse_or_kernel}
use Rattle.acyclic_values.proofs.Deciding.{listed_below}
use Rattle.induced_map.specs.Pairs.{nth_by_cell}
use Rattle.index_map.specs.Inclusion.{IsIncluded, IsInvertibleInclusion, IsKilled, IsMissed}
use Rattle.index_map.specs.Pairs.{IsIncludedPair}
use Rattle.index_map.specs.Combinations.{IsCombination}
use Rattle.index_map.specs.Inverses.{AreProductsOf}
use Rattle.index_map.specs.Deciding.{relative_list, SomeChain, IsNotInvertible, IsFirstFailure, InclusionsAreDecided}
use Rattle.index_map.proofs.Inverting.{invertible}
use Rattle.index_map.proofs.Sides.{square}
use Rattle.index_map.proofs.Solving.{of_bases, killed_in, missed_in, none_killed_in, invertible_past}
use Rattle.index_map.proofs.Kernels.{kernel_or_none}
use Rattle.index_map.proofs.Existing.{PairBasis, basis_exists}
use Rattle.index_map.proofs.Tops.{no_cycles_above}

-- ---- combinations as lists

module _ (p size n : ℕ) (x : ℕ → ℕ) (zs : List (List (ℕ × ℕ))) (one : 1 ≤ p) (past : (i g : ℕ) → i < n → size ≤ g → Same p (nth_chain zs i g) 0) where
  abbrev combined : List (ℕ × ℕ)
  combined = (listed_below p size (combination n x (nth_chain zs)) one).terms

  combined_normal : IsNormalWithin p 0 size combined
  combined_normal = (listed_below p size (combination n x (nth_chain zs)) one).normal

  combined_is : IsCombination p x zs n combined
  combined_is g = ⊎_elim
      (λ l. record { same = ap (λ v. v % p) ((listed_below p size (combination n x (nth_chain zs)) one).below g l) ∙ mod-mod (combination n x (nth_chain zs) g) p })
      (λ m. same_trans (exact p (coefficient-above p 0 size combined g combined_normal m)) (same_sym (total_none p n (λ i. x i * nth_chain zs i g) (λ i l. same_trans (same-scale (x i) (past i g l m)) (exact p (omega arith))))))
      (cases_lt g size)

-- a basis without its cocycles
abbrev cycles_alone : BasisOfLog → CyclesOfLog
cycles_alone b = record { log = b.log; cycles = b.cycles }

by_cycles : (p : ℕ) (b : BasisOfLog) → IsBasisWithContraction p b → IsBasisByCycles p (cycles_alone b)
by_cycles p b h = record {
  complex = h.complex;
  reduction = h.reduction;
  nothing_left = h.nothing_left;
  cycles = h.cycles;
  few = h.few;
  normal = h.normal;
  first = h.first;
  inclusions = h.inclusions;
}

-- the greatest number of factors
abbrev longest : List (List Factor) → ℕ
longest [] = 0
longest (q ∷ qs) = length q + longest qs

at_most : (qs : List (List Factor)) (q : List Factor) → In qs q → length q ≤ longest qs
at_most [] q w = absurd w
at_most (r ∷ qs) q (inl e) = omega (arith, ap length e)
at_most (r ∷ qs) q (inr w) = omega (arith, at_most qs q w)

module _ (p : ℕ) (x a y b : List (List Factor)) (field : IsField p) (included : IsIncluded x a y b) (A : PairBasis p x a) (B : PairBasis p y b) where
  one : 1 ≤ p
  one = omega (arith, field.above_one)

  abbrev dc : List (List Factor)
  dc = relative_list x a

  abbrev rc : List (List Factor)
  rc = relative_list y b

  abbrev zs : ℕ → List (List (ℕ × ℕ))
  zs k = in_degree A.basis.cycles k

  abbrev cs : ℕ → List (List (ℕ × ℕ))
  cs k = in_degree B.basis.cocycles k

  abbrev n : ℕ → ℕ
  n k = length (zs k)

  abbrev m : ℕ → ℕ
  m k = length (in_degree B.basis.cycles k)

  pair : IsIncludedPair p x a y b dc (cycles_alone A.basis) rc B.basis
  pair = record { included = included; domain = A.relative; range = B.relative }

  ba : IsBasisByCycles p (cycles_alone A.basis)
  ba = by_cycles p A.basis A.is_basis

  -- the products of the cycles with the cocycles
  abbrev entry : ℕ → ℕ → ℕ → ℕ
  entry k i j = total (length rc) (λ g. nth_chain (cs k) i g * nth_by_cell dc (zs k) j (cell_at rc g))

  products : (k : ℕ) → AreProductsOf p dc (cycles_alone A.basis) rc B.basis k (entry k)
  products k i j l q = same_refl p (entry k i j)

  cycles_past : (k i g : ℕ) → i < n k → length dc ≤ g → Same p (nth_chain (zs k) i g) 0
  cycles_past k i g l past = ((ba.cycles k).cycles i l).chain.on g (le-ltb g (length A.basis.log.complex.boundaries) (omega (arith, past, A.relative.complex.count)))

  cocycles_past : (k i g : ℕ) → i < m k → length rc ≤ g → Same p (nth_chain (cs k) i g) 0
  cocycles_past k i g l past = ((B.is_basis.cocycles k).cochains i (omega (arith, l, (B.is_basis.cocycles k).count))).on g (le-ltb g (length B.basis.log.complex.boundaries) (omega (arith, past, B.relative.complex.count)))

  killed_chain : (k : ℕ) (v : ℕ → ℕ) → LeraysKilled p (m k) (n k) (entry k) v → SomeChain p dc (IsKilled p x a y b k)
  killed_chain k v q = record {
    terms = combined p (length dc) (n k) v (zs k) one (cycles_past k);
    normal = combined_normal p (length dc) (n k) v (zs k) one (cycles_past k);
    holds = killed_in p k dc (cycles_alone A.basis) rc B.basis ba B.is_basis one (entry k) (products k) x a y b pair v (combined p (length dc) (n k) v (zs k) one (cycles_past k)) q (combined_is p (length dc) (n k) v (zs k) one (cycles_past k));
  }

  missed_chain : (k : ℕ) (u : ℕ → ℕ) → LeraysKilled p (n k) (m k) (transpose (entry k)) u → SomeChain p rc (IsMissed p x a y b k)
  missed_chain k u q = record {
    terms = combined p (length rc) (m k) u (cs k) one (cocycles_past k);
    normal = combined_normal p (length rc) (m k) u (cs k) one (cocycles_past k);
    holds = missed_in p k dc (cycles_alone A.basis) rc B.basis ba B.is_basis one (entry k) (products k) x a y b pair u (combined p (length rc) (m k) u (cs k) one (cocycles_past k)) q (combined_is p (length rc) (m k) u (cs k) one (cocycles_past k));
  }

  -- where no vector is killed on either side
  inverse_then : (k : ℕ) → ((v : ℕ → ℕ) → LeraysKilled p (m k) (n k) (entry k) v → ⊥) → ((u : ℕ → ℕ) → LeraysKilled p (n k) (m k) (transpose (entry k)) u → ⊥) → IsInvertibleInclusion p x a y b k
  inverse_then k right left =
      let same : m k ≡ n k = square p (m k) (n k) (entry k) field right left in
      ⊎_elim
      (λ (w, inv). invertible p k x a y b dc rc (cycles_alone A.basis) B.basis (entry k) one (of_bases p k dc (cycles_alone A.basis) rc B.basis ba B.is_basis one (entry k) (products k) x a y b pair) same w inv)
      (λ (v, q). absurd (right v (subst (λ (r : ℕ). LeraysKilled p r (n k) (entry k) v) (sym same) q)))
      (inverse_or_kernel p (n k) (entry k) field)

  decided : (k : ℕ) → IsNotInvertible p x a y b k ⊎ IsInvertibleInclusion p x a y b k
  decided k = ⊎_elim
      (λ (v, q). inl (inl (killed_chain k v q)))
      (λ right. ⊎_elim
      (λ (u, q). inl (inr (none_killed_in p k dc (cycles_alone A.basis) rc B.basis ba B.is_basis one (entry k) (products k) x a y b pair right, missed_chain k u q)))
      (λ left. inr (inverse_then k right left))
      (kernel_or_none p (n k) (m k) (transpose (entry k)) field))
      (kernel_or_none p (m k) (n k) (entry k) field)

  -- above the dimension of all cells
  abbrev top : ℕ
  top = longest x + longest y

  invertible_above : (k : ℕ) → top < k → IsInvertibleInclusion p x a y b k
  invertible_above k l = invertible_past p k x a y b dc (cycles_alone A.basis) rc B.basis ba B.is_basis one
      (no_cycles_above p top k x a dc (cycles_alone A.basis) A.relative ba (λ q w. omega (arith, at_most x q (In-from x q w))) l)
      (no_cycles_above p top k y b rc (cycles_alone B.basis) B.relative (by_cycles p B.basis B.is_basis) (λ q w. omega (arith, at_most y q (In-from y q w))) l)
      pair

  -- the first of the degrees below a number
  first_below : (d : ℕ) → ((k : ℕ) × IsFirstFailure p x a y b k) ⊎ ((k : ℕ) → k < d → IsInvertibleInclusion p x a y b k)
  first_below zero = inr (λ k l. absurd (omega arith))
  first_below (suc d) = ⊎_elim
      (λ f. inl f)
      (λ below. ⊎_elim
      (λ here. inl (d, record { here = here; below = below }))
      (λ here. inr (λ k l. ⊎_elim (λ q. below k q) (λ q. let e : d ≡ k = omega arith in subst (λ (j : ℕ). IsInvertibleInclusion p x a y b j) e here) (cases_lt k d)))
      (decided d))
      (first_below d)

  first_or_all : ((k : ℕ) × IsFirstFailure p x a y b k) ⊎ ((k : ℕ) → IsInvertibleInclusion p x a y b k)
  first_or_all = ⊎_elim
      (λ f. inl f)
      (λ below. inr (λ k. ⊎_elim (λ l. below k l) (λ l. invertible_above k (omega arith)) (cases_lt k (top + 1))))
      (first_below (top + 1))

pub inclusions_are_decided : InclusionsAreDecided
inclusions_are_decided p x a y b field few_x few_y included = first_or_all p x a y b field included (basis_exists p x a field few_x) (basis_exists p y b field few_y)
