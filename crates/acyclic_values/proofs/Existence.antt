-- Images of cells that are right extend to a whole carried map.
use Rattle.std.proofs.Common.{◌≡◌, ℕ, ◌+◌, ◌-◌, ◌*◌, ◌<◌, ◌≤◌, sym, ap, ◌∙◌, arith, ⊎_elim, inl, List, length, Bool, true, false, cond, subst}
use Rattle.std.proofs.lemmas.Bool.{true≢false, cases_Bool, cases_eq}
use Rattle.field_mod.specs.Sums.{total}
use Rattle.field_mod.specs.Modular.{Same, NonZero}
use Rattle.field_mod.proofs.Sums.{total-same}
use Rattle.field_mod.proofs.Modular.{same_sym, same_trans}
use Rattle.elem_cubes.specs.Cells.{Factor, dimension_of}
use Rattle.elem_cubes.specs.Boundary.{boundary_at, boundary_coefficient}
use Rattle.elem_cubes.specs.Laws.{cell_at}
use Rattle.elem_cubes.specs.OrderLemmas.{cell_cases}
use Rattle.elem_cubes.proofs.Modular.{exact}
use Rattle.elem_cubes.proofs.Boundaries.{boundary-total, at_cell, spread, coefficient-boundary}
use Rattle.elem_cubes.proofs.Zeros.{face_or_zero}
use Rattle.chains.specs.Homology.{IsChain}
use Rattle.cell_complex.specs.RelativeComplex.{complex_on, IsClosed}
use Rattle.cell_complex.proofs.Numbering.{listed, found}
use Rattle.cell_complex.proofs.Deciding.{same_cell_sym}
use Rattle.cell_complex.specs.Acyclic.{sum_over}
use Rattle.acyclic_values.specs.CarriedMaps.{image, IsCarriedAt}
use Rattle.acyclic_values.proofs.Sums.{by_terms, none_by_terms, none_in_front, total_total, face_of_nonzero, boundary_of_boundary, over_facets, edge_pairing}
use Rattle.acyclic_values.proofs.Carrying.{false_below, cycle_of, filled, IsReducedOn, IsCarrying}
use Rattle.acyclic_values.proofs.Stages.{Choice, choose_below, at_most_total}

-- a vertex as a chain: it has no boundary, and augmentation 1
pub vertex_boundary : (p : ℕ) (v r : List Factor) → dimension_of v ≡ 0 → Same p (boundary_at p r (at_cell v)) 0
vertex_boundary p v r d = same_trans (exact p (sym (coefficient-boundary p v r))) (⊎_elim (λ f. absurd (omega (arith, f.1))) (λ z. exact p z) (face_or_zero p v r))

-- the cells of the domain, the values and the range
module _ (p : ℕ) (D R : List Factor → Bool) (ds rs : List (List Factor)) (V : List Factor → List Factor → Bool) (one : 1 ≤ p) (ca : IsCarrying p D R ds rs V) where
  abbrev n : ℕ
  n = length ds

  abbrev at : ℕ → List Factor
  at = cell_at ds

  abbrev bc : List Factor → ℕ → ℕ
  bc s i = boundary_coefficient p s (at i)

  abbrev Image : (List Factor → List Factor → ℕ) → List Factor → Type 0
  Image f s = IsCarriedAt p ds rs (V s) f s

  pub there : (i : ℕ) → i < n → D (at i) ≡ true
  there i l = listed D ds ca.domain i l

  -- the images of the boundary of s, from the images of its facets
  pub image_of_boundary : (f : List Factor → List Factor → ℕ) (s : List Factor) (k : ℕ) → D s ≡ true → k + 1 ≡ dimension_of s → ((r : List Factor) → NonZero p (boundary_coefficient p s r) → Image f r) → IsReducedOn p rs (V s) k (image ds f (boundary_coefficient p s))
  image_of_boundary f s k l e img = record {
    cycle = cycle_of p (V s) (ca.closed s l) k (image ds f (boundary_coefficient p s)) (record {
      on = λ g fa. none_by_terms p n (bc s) (λ i. f (at i) g) (λ i _ z. (img (at i) z).chain.on g (false_below (ca.grows s (at i) g l (face_of_nonzero p s (at i) z).0) fa));
      of_degree = λ g ne. none_by_terms p n (bc s) (λ i. f (at i) g) (λ i _ z. (img (at i) z).chain.of_degree g (λ q. ne (let d = face_of_nonzero p s (at i) z in omega arith)));
    }) (λ r. closed r);
    augmentation = λ o. balanced o;
  }
    where
      closed : (r : List Factor) → Same p (boundary_at p r (image ds f (boundary_coefficient p s))) 0
      closed r =
          same_trans (exact p (boundary-total p r n (bc s) (λ i. f (at i))))
          (same_trans (by_terms p n (bc s) (λ i. boundary_at p r (f (at i))) (λ i. image ds f (boundary_coefficient p (at i)) r) (λ i _ z. (img (at i) z).commutes r))
          (same_trans (exact p (sym (total_total n n (bc s) (λ i j. bc (at i) j) (λ j. f (at j) r))))
          (none_in_front p n (λ j. total n (λ i. bc s i * bc (at i) j)) (λ j. f (at j) r) (λ j _. boundary_of_boundary p ds one ca.domain.once s (at j) (λ t g. found D ds ca.domain t (ca.domain_closed s t g l))))))

      balanced : k ≡ 0 → Same p (sum_over rs (image ds f (boundary_coefficient p s))) 0
      balanced o =
          let m = length rs in
          let a = total_total n m (bc s) (λ i j. f (at i) (cell_at rs j)) (λ j. 1) in
          let b = total-same m (λ j. total n (λ i. bc s i * f (at i) (cell_at rs j))) (λ j. total n (λ i. bc s i * f (at i) (cell_at rs j)) * 1) (λ j _. omega arith) in
          let c = by_terms p n (bc s) (λ i. total m (λ j. f (at i) (cell_at rs j) * 1)) (λ i. 1) (λ i _ z.
          same_trans (exact p (total-same m (λ j. f (at i) (cell_at rs j) * 1) (λ j. f (at i) (cell_at rs j)) (λ j _. omega arith)))
          ((img (at i) z).augmentation (let d = face_of_nonzero p s (at i) z in omega arith))) in
          same_trans (exact p (b ∙ a)) (same_trans c (same_trans (over_facets p ds one ca.domain.once s (λ r. 1) (λ t g. found D ds ca.domain t (ca.domain_closed s t g l))) (edge_pairing p s one (omega arith))))

  -- a chain that is an image of s, where f are the images of its facets
  pub made : (f : List Factor → List Factor → ℕ) (s : List Factor) (c : List Factor → ℕ) → IsChain p (complex_on p (V s)) (dimension_of s) c
      → ((r : List Factor) → Same p (boundary_at p r c) (image ds f (boundary_coefficient p s) r)) → (dimension_of s ≡ 0 → Same p (sum_over rs c) 1)
      → (e : List Factor → List Factor → ℕ) → e s ≡ c → ((r : List Factor) → NonZero p (boundary_coefficient p s r) → e r ≡ f r) → Image e s
  made f s c ch fi au e es same = record {
    chain = subst (λ (x : List Factor → ℕ). IsChain p (complex_on p (V s)) (dimension_of s) x) (sym es) ch;
    commutes = λ r. subst (λ (x : List Factor → ℕ). Same p (boundary_at p r x) (image ds e (boundary_coefficient p s) r)) (sym es) (same_trans (fi r) (by_terms p n (bc s) (λ i. f (at i) r) (λ i. e (at i) r) (λ i _ z. exact p (ap (λ (x : List Factor → ℕ). x r) (sym (same (at i) z))))));
    augmentation = λ q. subst (λ (x : List Factor → ℕ). Same p (sum_over rs x) 1) (sym es) (au q);
  }

  lower : (s r : List Factor) → NonZero p (boundary_coefficient p s r) → dimension_of r < dimension_of s
  lower s r z = omega (arith, face_of_nonzero p s r z)

  below : (s r : List Factor) → D s ≡ true → NonZero p (boundary_coefficient p s r) → D r ≡ true
  below s r l z = ca.domain_closed s r (face_of_nonzero p s r z).0 l

  module _ (Kept : List Factor → Bool) (kept : List Factor → List Factor → ℕ) (closed : IsClosed Kept) (images : (s : List Factor) → Kept s ≡ true → Image kept s) where
    record Good (f : List Factor → List Factor → ℕ) (s : List Factor) : Type 0 where
      same : Kept s ≡ true → f s ≡ kept s
      good : D s ≡ true → Image f s

    abbrev Chosen : (List Factor → List Factor → ℕ) → List Factor → Type 0
    Chosen f s = Choice Good f s

    at_kept : (f : List Factor → List Factor → ℕ) (s : List Factor) → ((r : List Factor) → dimension_of r < dimension_of s → Good f r) → Kept s ≡ true → Chosen f s
    at_kept f s low t = record {
      chain = kept s;
      good = λ e es same. record {
        same = λ _. es;
        good = λ l. let i = images s t in made kept s (kept s) i.chain i.commutes i.augmentation e es (λ r z. same r (lower s r z) ∙ (low r (lower s r z)).same (closed s r (face_of_nonzero p s r z).0 t));
      };
    }

    other : (f : List Factor → List Factor → ℕ) (s : List Factor) (c : List Factor → ℕ) → Kept s ≡ false → IsChain p (complex_on p (V s)) (dimension_of s) c → ((r : List Factor) → Same p (boundary_at p r c) (image ds f (boundary_coefficient p s) r)) → (dimension_of s ≡ 0 → Same p (sum_over rs c) 1) → Chosen f s
    other f s c t ch fi au = record {
      chain = c;
      good = λ e es same. record {
        same = λ u. absurd (true≢false (sym u ∙ t));
        good = λ l. made f s c ch fi au e es (λ r z. same r (lower s r z));
      };
    }

    at_vertex : (f : List Factor → List Factor → ℕ) (s : List Factor) → D s ≡ true → Kept s ≡ false → dimension_of s ≡ 0 → Chosen f s
    at_vertex f s l t e =
        let a = ca.acyclic s l in
        let v : List Factor = a.vertex in
        other f s (at_cell v) t
        (record {
          on = λ g fa. ⊎_elim (λ q. absurd (true≢false (sym a.here ∙ ap (V s) (sym q) ∙ fa))) (λ q. exact p (ap (λ b. cond b 1 0) q)) (cell_cases g v);
          of_degree = λ g ne. ⊎_elim (λ q. absurd (ne (ap dimension_of q ∙ a.lowest ∙ sym e))) (λ q. exact p (ap (λ b. cond b 1 0) q)) (cell_cases g v);
        })
        (λ r. same_trans (vertex_boundary p v r a.lowest) (same_sym (none_by_terms p n (bc s) (λ i. f (at i) r) (λ i _ z. absurd (omega (arith, face_of_nonzero p s (at i) z))))))
        (λ _. exact p (vertex_sum v (ca.inside s v l a.here)))
      where
        vertex_sum : (v : List Factor) → R v ≡ true → sum_over rs (at_cell v) ≡ 1
        vertex_sum v h =
            total-same (length rs) (λ j. at_cell v (cell_at rs j)) (λ j. 1 * at_cell (cell_at rs j) v) (λ j _. ap (λ b. cond b 1 0) (same_cell_sym (cell_at rs j) v) ∙ omega arith)
            ∙ spread (length rs) (cell_at rs) (λ _. 1) v ca.range.once (inl (found R rs ca.range v h))

    at_higher : (f : List Factor → List Factor → ℕ) (s : List Factor) (k : ℕ) → D s ≡ true → ((r : List Factor) → dimension_of r < dimension_of s → Good f r) → Kept s ≡ false → dimension_of s ≡ k + 1 → Chosen f s
    at_higher f s k l low t e =
        let y = image_of_boundary f s k l (sym e) (λ r z. (low r (lower s r z)).good (below s r l z)) in
        let z = (ca.acyclic s l).null k (image ds f (boundary_coefficient p s)) y in
        other f s z.filling t (subst (λ (q : ℕ). IsChain p (complex_on p (V s)) q z.filling) (sym e) z.chain)
        (λ r. same_sym (filled p (V s) (ca.closed s l) k (image ds f (boundary_coefficient p s)) y.cycle.chain z r)) (λ q. absurd (omega arith))

    step : (f : List Factor → List Factor → ℕ) (s : List Factor) → ((r : List Factor) → dimension_of r < dimension_of s → Good f r) → Chosen f s
    step f s low = ⊎_elim
        (λ t. at_kept f s low t)
        (λ t. ⊎_elim
        (λ l. ⊎_elim (λ e. at_vertex f s l t e) (λ ne. at_higher f s (dimension_of s - 1) l low t (omega arith)) (cases_eq (dimension_of s) 0))
        (λ l. record { chain = λ g. 0; good = λ e es same. record { same = λ u. absurd (true≢false (sym u ∙ t)); good = λ b. absurd (true≢false (sym b ∙ l)) } })
        (cases_Bool (D s)))
        (cases_Bool (Kept s))

    pub bound : (s : List Factor) → D s ≡ true → dimension_of s < total n (λ i. dimension_of (at i)) + 1
    bound s l = let w = found D ds ca.domain s l in omega (arith, at_most_total n w.0 (λ i. dimension_of (at i)) w.1, ap dimension_of w.2)

    pub extended : ((s : List Factor) → Kept s ≡ true → D s ≡ true) → (f : List Factor → List Factor → ℕ) × ((s : List Factor) → D s ≡ true → Image f s) × ((s : List Factor) → Kept s ≡ true → f s ≡ kept s)
    extended sub = let w = choose_below Good step (total n (λ i. dimension_of (at i)) + 1) in (w.0, (λ s l. (w.1 s (bound s l)).good l), (λ s t. (w.1 s (bound s (sub s t))).same t))
