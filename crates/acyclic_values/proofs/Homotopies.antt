-- Two carried maps are homotopic, by chains on the values.
use Rattle.std.proofs.Common.{◌≡◌, ℕ, ◌+◌, ◌-◌, ◌*◌, ◌<◌, ◌≤◌, sym, ap, ◌∙◌, arith, ⊎_elim, List, length, Bool, true, subst}
use Rattle.std.proofs.lemmas.Bool.{true≢false, cases_Bool}
use Rattle.field_mod.specs.Sums.{total}
use Rattle.field_mod.specs.Modular.{Same, NonZero, minus}
use Rattle.field_mod.proofs.Sums.{total-add, total-scale, total_same}
use Rattle.field_mod.proofs.Modular.{same_by, same_refl, same_sym, same_trans, same-add, same-scale, neg_cancel}
use Rattle.elem_cubes.specs.Cells.{Factor, dimension_of}
use Rattle.elem_cubes.specs.Boundary.{boundary_at, boundary_coefficient}
use Rattle.elem_cubes.specs.Laws.{cell_at}
use Rattle.elem_cubes.proofs.Modular.{exact}
use Rattle.elem_cubes.proofs.Boundaries.{boundary-total, boundary-add, boundary-scale}
use Rattle.chains.specs.Homology.{IsChain}
use Rattle.cell_complex.specs.RelativeComplex.{complex_on}
use Rattle.cell_complex.proofs.Numbering.{found}
use Rattle.cell_complex.specs.Acyclic.{sum_over}
use Rattle.acyclic_values.specs.CarriedMaps.{image, IsCarriedAt}
use Rattle.acyclic_values.proofs.Sums.{by_terms, none_by_terms, none_in_front, total_total, total_behind, face_of_nonzero, boundary_of_boundary}
use Rattle.acyclic_values.proofs.Carrying.{false_below, cycle_of, filled, IsReducedOn, IsCarrying}
use Rattle.acyclic_values.proofs.Stages.{Choice, choose_below, at_most_total}

-- a chain at the cell s, on its value, that joins the images of s under f and e
pub record IsHomotopyAt (p : ℕ) (ds : List (List Factor)) (V : List Factor → List Factor → Bool) (f e t : List Factor → List Factor → ℕ) (s : List Factor) : Type 0 where
  pub chain : IsChain p (complex_on p (V s)) (dimension_of s + 1) (t s)
  pub joins : (r : List Factor) → Same p (boundary_at p r (t s) + image ds t (boundary_coefficient p s) r + e s r) (f s r)

module _ (p : ℕ) (D R : List Factor → Bool) (ds rs : List (List Factor)) (V : List Factor → List Factor → Bool) (one : 1 ≤ p) (ca : IsCarrying p D R ds rs V) (f e : List Factor → List Factor → ℕ) (mf : (s : List Factor) → D s ≡ true → IsCarriedAt p ds rs (V s) f s) (me : (s : List Factor) → D s ≡ true → IsCarriedAt p ds rs (V s) e s) where
  abbrev n : ℕ
  n = length ds

  abbrev at : ℕ → List Factor
  at = cell_at ds

  abbrev bc : List Factor → ℕ → ℕ
  bc s i = boundary_coefficient p s (at i)

  abbrev Joined : (List Factor → List Factor → ℕ) → List Factor → Type 0
  Joined t s = IsHomotopyAt p ds V f e t s

  -- what the chain at s has to fill
  abbrev gap : (List Factor → List Factor → ℕ) → List Factor → List Factor → ℕ
  gap t s g = f s g + minus p (e s g + image ds t (boundary_coefficient p s) g)

  none : (a b : ℕ) → Same p b a → Same p (a + minus p b) 0
  none a b h = let c = neg_cancel p a one in same_trans (same-add (same_refl p a) (same-scale (p - 1) h)) (same_by p 0 a _ _ (omega arith))

  gap_none : (t : List Factor → List Factor → ℕ) (s g : List Factor) → Same p (f s g) 0 → Same p (e s g) 0 → Same p (image ds t (boundary_coefficient p s) g) 0 → Same p (gap t s g) 0
  gap_none t s g a b c = same_trans (same-add a (same-scale (p - 1) (same-add b c))) (exact p (omega arith))

  gap_is_cycle : (t : List Factor → List Factor → ℕ) (s : List Factor) → D s ≡ true → ((r : List Factor) → NonZero p (boundary_coefficient p s r) → Joined t r) → IsReducedOn p rs (V s) (dimension_of s) (gap t s)
  gap_is_cycle t s l h = record {
    cycle = cycle_of p (V s) (ca.closed s l) (dimension_of s) (gap t s) (record {
      on = λ g fa. gap_none t s g ((mf s l).chain.on g fa) ((me s l).chain.on g fa) (none_by_terms p n (bc s) (λ i. t (at i) g) (λ i _ z. (h (at i) z).chain.on g (false_below (ca.grows s (at i) g l (face_of_nonzero p s (at i) z).0) fa)));
      of_degree = λ g ne. gap_none t s g ((mf s l).chain.of_degree g ne) ((me s l).chain.of_degree g ne) (none_by_terms p n (bc s) (λ i. t (at i) g) (λ i _ z. (h (at i) z).chain.of_degree g (λ q. ne (q ∙ (face_of_nonzero p s (at i) z).1))));
    }) (λ r. closed r);
    augmentation = λ o. balanced o;
  }
    where
      -- the boundary of the chains at the facets
      joined : (r : List Factor) → Same p (boundary_at p r (image ds t (boundary_coefficient p s)) + image ds e (boundary_coefficient p s) r) (image ds f (boundary_coefficient p s) r)
      joined r =
          let a = boundary-total p r n (bc s) (λ i. t (at i)) in
          let b = total_total n n (bc s) (λ i j. bc (at i) j) (λ j. t (at j) r) in
          let z = none_in_front p n (λ j. total n (λ i. bc s i * bc (at i) j)) (λ j. t (at j) r) (λ j _. boundary_of_boundary p ds one ca.domain.once s (at j) (λ u g. found D ds ca.domain u (ca.domain_closed s u g l))) in
          let c = total_behind n (bc s) (λ i. boundary_at p r (t (at i)) + image ds t (boundary_coefficient p (at i)) r) (λ i. e (at i) r) in
          let d = total_behind n (bc s) (λ i. boundary_at p r (t (at i))) (λ i. image ds t (boundary_coefficient p (at i)) r) in
          let j : Same p (total n (λ i. bc s i * (boundary_at p r (t (at i)) + image ds t (boundary_coefficient p (at i)) r + e (at i) r))) (image ds f (boundary_coefficient p s) r) =
          by_terms p n (bc s) (λ i. boundary_at p r (t (at i)) + image ds t (boundary_coefficient p (at i)) r + e (at i) r) (λ i. f (at i) r) (λ i _ w. (h (at i) w).joins r) in
          let x : ℕ = total n (λ i. bc s i * boundary_at p r (t (at i))) in
          let y : ℕ = total n (λ i. bc s i * image ds t (boundary_coefficient p (at i)) r) in
          let u : ℕ = image ds e (boundary_coefficient p s) r in
          let yz : Same p 0 y = same_sym (same_trans (exact p (sym b)) z) in
          same_trans (exact p (ap (λ v. v + u) a)) (same_trans (exact p (let k : x + u ≡ x + 0 + u = omega arith in k)) (same_trans (same-add (same_refl p (x + 0)) (same_refl p u)) (same_trans (same-add (same-add (same_refl p x) yz) (same_refl p u)) (same_trans (exact p (ap (λ v. v + u) (sym d) ∙ sym c)) j))))

      closed : (r : List Factor) → Same p (boundary_at p r (gap t s)) 0
      closed r =
          let a = boundary-add p r (f s) (λ g. (p - 1) * (e s g + image ds t (boundary_coefficient p s) g)) in
          let b = boundary-scale p r (p - 1) (λ g. e s g + image ds t (boundary_coefficient p s) g) in
          let c = boundary-add p r (e s) (image ds t (boundary_coefficient p s)) in
          let x : ℕ = boundary_at p r (image ds t (boundary_coefficient p s)) in
          let u : Same p (boundary_at p r (λ g. e s g + image ds t (boundary_coefficient p s) g)) (boundary_at p r (f s)) =
          same_trans (exact p c) (same_trans (same-add ((me s l).commutes r) (same_refl p x)) (same_trans (exact p (let k : image ds e (boundary_coefficient p s) r + x ≡ x + image ds e (boundary_coefficient p s) r = omega arith in k)) (same_trans (joined r) (same_sym ((mf s l).commutes r))))) in
          same_trans (exact p (a ∙ ap (λ v. boundary_at p r (f s) + v) b)) (none (boundary_at p r (f s)) (boundary_at p r (λ g. e s g + image ds t (boundary_coefficient p s) g)) u)

      balanced : dimension_of s ≡ 0 → Same p (sum_over rs (gap t s)) 0
      balanced o =
          let m = length rs in
          let z : (g : List Factor) → Same p (image ds t (boundary_coefficient p s) g) 0 = λ g. none_by_terms p n (bc s) (λ i. t (at i) g) (λ i _ w. absurd (omega (arith, face_of_nonzero p s (at i) w))) in
          let a = total-add m (λ j. f s (cell_at rs j)) (λ j. (p - 1) * e s (cell_at rs j)) in
          let b = total-scale m (p - 1) (λ j. e s (cell_at rs j)) in
          same_trans (total_same p m (λ j. gap t s (cell_at rs j)) (λ j. f s (cell_at rs j) + (p - 1) * e s (cell_at rs j)) (λ j _. same-add (same_refl p (f s (cell_at rs j))) (same-scale (p - 1) (same_trans (same-add (same_refl p (e s (cell_at rs j))) (z (cell_at rs j))) (exact p (omega arith))))))
          (same_trans (exact p (a ∙ ap (λ v. sum_over rs (f s) + v) b))
          (none (sum_over rs (f s)) (sum_over rs (e s)) (same_trans ((me s l).augmentation o) (same_sym ((mf s l).augmentation o)))))

  abbrev Good : (List Factor → List Factor → ℕ) → List Factor → Type 0
  Good t s = D s ≡ true → Joined t s

  step : (t : List Factor → List Factor → ℕ) (s : List Factor) → ((r : List Factor) → dimension_of r < dimension_of s → Good t r) → Choice Good t s
  step t s low = ⊎_elim (λ l. at_cell l) (λ l. record { chain = λ g. 0; good = λ u es same b. absurd (true≢false (sym b ∙ l)) }) (cases_Bool (D s))
    where
      lower : (r : List Factor) → NonZero p (boundary_coefficient p s r) → dimension_of r < dimension_of s
      lower r z = omega (arith, face_of_nonzero p s r z)

      at_cell : D s ≡ true → Choice Good t s
      at_cell l =
          let y = gap_is_cycle t s l (λ r z. low r (lower r z) (ca.domain_closed s r (face_of_nonzero p s r z).0 l)) in
          let z = (ca.acyclic s l).null (dimension_of s) (gap t s) y in
          record {
            chain = z.filling;
            good = λ u es same _. record {
              chain = subst (λ (x : List Factor → ℕ). IsChain p (complex_on p (V s)) (dimension_of s + 1) x) (sym es) z.chain;
              joins = λ r. subst (λ (x : List Factor → ℕ). Same p (boundary_at p r x + image ds u (boundary_coefficient p s) r + e s r) (f s r)) (sym es) (
                  let q : Same p (image ds u (boundary_coefficient p s) r) (image ds t (boundary_coefficient p s) r) = by_terms p n (bc s) (λ i. u (at i) r) (λ i. t (at i) r) (λ i _ nz. exact p (ap (λ (x : List Factor → ℕ). x r) (same (at i) (lower (at i) nz)))) in
                  let b : ℕ = e s r + image ds t (boundary_coefficient p s) r in
                  let k = neg_cancel p b one in
                  same_trans (same-add (same-add (same_sym (filled p (V s) (ca.closed s l) (dimension_of s) (gap t s) y.cycle.chain z r)) q) (same_refl p (e s r))) (same_by p 0 b _ _ (omega arith)));
            };
          }

  pub homotopic : (t : List Factor → List Factor → ℕ) × ((s : List Factor) → D s ≡ true → Joined t s)
  homotopic = let w = choose_below Good step (total n (λ i. dimension_of (at i)) + 1) in (w.0, (λ s l. w.1 s (below s l) l))
    where
      below : (s : List Factor) → D s ≡ true → dimension_of s < total n (λ i. dimension_of (at i)) + 1
      below s l = let w = found D ds ca.domain s l in omega (arith, at_most_total n w.0 (λ i. dimension_of (at i)) w.1, ap dimension_of w.2)
