-- The coefficients of a class in the cycles of a section are its products with the cocycles.
use Rattle.std.proofs.Common.{◌≡◌, ℕ, ◌+◌, ◌*◌, ◌<◌, ap, ◌∙◌, arith, ⊎_elim, List, length, true, cond, eqb, sym}
use Rattle.std.proofs.lemmas.Bool.{cases_Bool}
use Rattle.field_mod.specs.Sums.{total}
use Rattle.field_mod.specs.Modular.{Same}
use Rattle.field_mod.proofs.Sums.{total-same, total-single, total_same, total_none}
use Rattle.field_mod.proofs.Modular.{same_sym, same_trans, same-add, same-scale}
use Rattle.elem_cubes.specs.Cells.{Factor}
use Rattle.elem_cubes.specs.Boundary.{boundary_coefficient}
use Rattle.elem_cubes.specs.Laws.{cell_at}
use Rattle.elem_cubes.proofs.Modular.{exact}
use Rattle.elem_cubes.proofs.Boundaries.{boundary_at_is_boundary}
use Rattle.chains.specs.Homology.{System, combination}
use Rattle.cell_complex.specs.Acyclic.{sum_over}
use Rattle.cell_complex.specs.RelativeComplex.{is_relative, relative_complex, restriction_to}
use Rattle.cell_complex.proofs.Squares.{restriction-on, restriction-off}
use Rattle.cell_complex.proofs.Numbering.{listed, found}
use Rattle.acyclic_values.specs.CarriedMaps.{IsSameClass}
use Rattle.acyclic_values.proofs.Sums.{total_total, total_behind}
use Rattle.witness_laws.specs.Sections.{Section, IsSection}

pick_one : (m i : ℕ) (x : ℕ → ℕ) → i < m → total m (λ j. x j * cond (eqb i j) 1 0) ≡ x i
pick_one m i x l = total-same m (λ j. x j * cond (eqb i j) 1 0) (λ j. cond (eqb i j) 1 0 * x j) (λ j _. omega arith) ∙ total-single m i 1 x l ∙ omega arith

module _ (p : ℕ) (x a cells : List (List Factor)) (S : Section) (w : IsSection p x a cells S) (k : ℕ) where
  abbrev n : ℕ
  n = length cells

  abbrev at : ℕ → List Factor
  at = cell_at cells

  abbrev K : System (List Factor)
  K = relative_complex p x a

  abbrev m : ℕ
  m = S.size k

  abbrev bc : ℕ → ℕ → ℕ
  bc s t = boundary_coefficient p (at s) (at t)

  on_list : (i : ℕ) → i < n → is_relative x a (at i) ≡ true
  on_list i l = listed (is_relative x a) cells w.listing i l

  -- the boundary of a chain, as a sum over the cells
  boundary_here : (u : List Factor → ℕ) (q : List Factor) → Same p (total n (λ i. u (at i) * boundary_coefficient p (at i) q)) (K.boundary u q)
  boundary_here u q =
      let r = boundary_at_is_boundary p cells (restriction_to (is_relative x a) u) q w.listing.once
      (λ s f nz. ⊎_elim (λ e. found (is_relative x a) cells w.listing s e) (λ e. absurd (nz (restriction-off (is_relative x a) u s e))) (cases_Bool (is_relative x a s))) in
      same_trans (exact p (total-same n (λ i. u (at i) * boundary_coefficient p (at i) q) (λ i. restriction_to (is_relative x a) u (at i) * boundary_coefficient p (at i) q)
      (λ i l. ap (λ v. v * boundary_coefficient p (at i) q) (sym (restriction-on (is_relative x a) u (at i) (on_list i l)))))) r

  -- a cocycle has the value 0 on a boundary
  on_boundary : (i : ℕ) → i < m → (u : List Factor → ℕ) → Same p (sum_over cells (λ q. S.cocycle k i q * K.boundary u q)) 0
  on_boundary i l u =
      let c : ℕ → ℕ = λ g. S.cocycle k i (at g) in
      let e = total_same p n (λ g. c g * K.boundary u (at g)) (λ g. total n (λ h. u (at h) * bc h g) * c g)
      (λ g _. same_trans (same-scale (c g) (same_sym (boundary_here u (at g)))) (exact p (omega arith))) in
      let f = total_total n n (λ h. u (at h)) bc c in
      let z = total_none p n (λ h. u (at h) * total n (λ g. bc h g * c g)) (λ h q. same_trans (same-scale (u (at h)) (w.coclosed k i l (at h) (on_list h q))) (exact p (omega arith))) in
      same_trans e (same_trans (exact p f) z)

  -- and its coefficient on a combination of the cycles
  on_combination : (i : ℕ) → i < m → (v : ℕ → ℕ) → Same p (sum_over cells (λ q. S.cocycle k i q * combination m v (S.cycle k) q)) (v i)
  on_combination i l v =
      let c : ℕ → ℕ = λ g. S.cocycle k i (at g) in
      let z : ℕ → ℕ → ℕ = λ j g. S.cycle k j (at g) in
      let e = total-same n (λ g. c g * total m (λ j. v j * z j g)) (λ g. total m (λ j. v j * z j g) * c g) (λ g _. omega arith) in
      let f = total_total m n v z c in
      let d = total_same p m (λ j. v j * total n (λ g. z j g * c g)) (λ j. v j * cond (eqb i j) 1 0)
      (λ j q. same-scale (v j) (same_trans (exact p (total-same n (λ g. z j g * c g) (λ g. c g * z j g) (λ g _. omega arith))) (w.dual k i l j q))) in
      same_trans (exact p (e ∙ f)) (same_trans d (exact p (pick_one m i v l)))

  pub products_of_class : (c : List Factor → ℕ) (v : ℕ → ℕ) → IsSameClass p K k c (combination m v (S.cycle k)) → (i : ℕ) → i < m → Same p (v i) (sum_over cells (λ g. S.cocycle k i g * c g))
  products_of_class c v s i l =
      let d : ℕ → ℕ = λ g. S.cocycle k i (at g) in
      let here = total_same p n (λ g. d g * c (at g)) (λ g. d g * (combination m v (S.cycle k) (at g) + K.boundary s.filling (at g))) (λ g q. same-scale (d g) (s.differs (at g) (on_list g q))) in
      let parts = total_behind n d (λ g. combination m v (S.cycle k) (at g)) (λ g. K.boundary s.filling (at g)) in
      let sum = same_trans (exact p parts) (same_trans (same-add (on_combination i l v) (on_boundary i l s.filling)) (exact p (let h : v i + 0 ≡ v i = omega arith in h))) in
      same_sym (same_trans here sum)
