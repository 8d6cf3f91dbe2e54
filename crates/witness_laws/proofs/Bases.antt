-- The cycles of a section are a basis, and its cocycles tell the coefficients of each cycle.
use Rattle.std.proofs.Common.{◌≡◌, ℕ, ◌+◌, ◌*◌, ◌<◌, ◌≤◌, sym, ap, ◌∙◌, arith, inl, ⊎_elim, List, length, true, cond, eqb}
use Rattle.std.proofs.lemmas.Bool.{cases_Bool, cases_eq}
use Rattle.field_mod.specs.Sums.{total}
use Rattle.field_mod.specs.Modular.{Same, NonZero}
use Rattle.field_mod.proofs.Sums.{total-same, total-single, total_same, total_none}
use Rattle.field_mod.proofs.Modular.{same_refl, same_sym, same_trans, same-add, same-scale, same-mul}
use Rattle.elem_cubes.specs.Cells.{Factor, dimension_of}
use Rattle.elem_cubes.specs.Boundary.{boundary_coefficient}
use Rattle.elem_cubes.specs.Laws.{cell_at}
use Rattle.elem_cubes.proofs.Modular.{exact}
use Rattle.elem_cubes.proofs.Boundaries.{boundary_at_is_boundary, spread}
use Rattle.chains.specs.Homology.{System, IsChain, IsCycle, IsNull, IsSpanned, IsBasis, combination}
use Rattle.chains.proofs.Systems.{chain-add, boundary-add}
use Rattle.cube_sets.specs.Closures.{cells_of}
use Rattle.cell_complex.specs.Boundaries.{unit_at}
use Rattle.cell_complex.specs.RelativeComplex.{is_relative, relative_complex, restriction_to}
use Rattle.cell_complex.proofs.Squares.{restriction-on, restriction-off, relative_complexes_are_complexes}
use Rattle.cell_complex.proofs.Numbering.{listed, found}
use Rattle.cell_complex.specs.Acyclic.{sum_over}
use Rattle.acyclic_values.specs.CarriedMaps.{image, IsSameClass}
use Rattle.acyclic_values.proofs.Sums.{by_terms, none_by_terms, none_in_front, total_total, total_behind}
use Rattle.acyclic_values.proofs.Carried.{carried_maps_agree, images_are_relative_cycles}
use Rattle.witness_laws.specs.Sections.{Section, IsSection, SectionsAreBases, ProductsWithSectionsAreTheMatrix}

pick_one : (m i : ℕ) (x : ℕ → ℕ) → i < m → total m (λ j. x j * cond (eqb i j) 1 0) ≡ x i
pick_one m i x l = total-same m (λ j. x j * cond (eqb i j) 1 0) (λ j. cond (eqb i j) 1 0 * x j) (λ j _. omega arith) ∙ total-single m i 1 x l ∙ omega arith

module _ (p : ℕ) (x a cells : List (List Factor)) (S : Section) (one : 1 ≤ p) (w : IsSection p x a cells S) (k : ℕ) where
  abbrev n : ℕ
  n = length cells

  abbrev at : ℕ → List Factor
  at = cell_at cells

  abbrev K : System (List Factor)
  K = relative_complex p x a

  abbrev m : ℕ
  m = S.size k

  abbrev bc : ℕ → ℕ → ℕ
  bc s t = boundary_coefficient p (at s) (at t)

  on_list : (i : ℕ) → i < n → is_relative x a (at i) ≡ true
  on_list i l = listed (is_relative x a) cells w.listing i l

  place : (q : List Factor) → is_relative x a q ≡ true → (i : ℕ) × (i < n) × (at i ≡ q)
  place q e = found (is_relative x a) cells w.listing q e

  -- the boundary of a chain, as a sum over the cells
  boundary_here : (u : List Factor → ℕ) (q : List Factor) → Same p (total n (λ i. u (at i) * boundary_coefficient p (at i) q)) (K.boundary u q)
  boundary_here u q =
      let r = boundary_at_is_boundary p cells (restriction_to (is_relative x a) u) q w.listing.once (λ s f nz. ⊎_elim (λ e. place s e) (λ e. absurd (nz (restriction-off (is_relative x a) u s e))) (cases_Bool (is_relative x a s))) in
      same_trans (exact p (total-same n (λ i. u (at i) * boundary_coefficient p (at i) q) (λ i. restriction_to (is_relative x a) u (at i) * boundary_coefficient p (at i) q)
      (λ i l. ap (λ v. v * boundary_coefficient p (at i) q) (sym (restriction-on (is_relative x a) u (at i) (on_list i l)))))) r

  -- a cocycle has the value 0 on a boundary
  on_boundary : (i : ℕ) → i < m → (u : List Factor → ℕ) → Same p (sum_over cells (λ q. S.cocycle k i q * K.boundary u q)) 0
  on_boundary i l u =
      let c : ℕ → ℕ = λ g. S.cocycle k i (at g) in
      let e = total_same p n (λ g. c g * K.boundary u (at g)) (λ g. total n (λ h. u (at h) * bc h g) * c g) (λ g _. same_trans (same-scale (c g) (same_sym (boundary_here u (at g)))) (exact p (omega arith))) in
      let f = total_total n n (λ h. u (at h)) bc c in
      let z = total_none p n (λ h. u (at h) * total n (λ g. bc h g * c g)) (λ h q. same_trans (same-scale (u (at h)) (w.coclosed k i l (at h) (on_list h q))) (exact p (omega arith))) in
      same_trans e (same_trans (exact p f) z)

  -- and its coefficient on a combination of the cycles
  on_combination : (i : ℕ) → i < m → (v : ℕ → ℕ) → Same p (sum_over cells (λ q. S.cocycle k i q * combination m v (S.cycle k) q)) (v i)
  on_combination i l v =
      let c : ℕ → ℕ = λ g. S.cocycle k i (at g) in
      let z : ℕ → ℕ → ℕ = λ j g. S.cycle k j (at g) in
      let e = total-same n (λ g. c g * total m (λ j. v j * z j g)) (λ g. total m (λ j. v j * z j g) * c g) (λ g _. omega arith) in
      let f = total_total m n v z c in
      let d = total_same p m (λ j. v j * total n (λ g. z j g * c g)) (λ j. v j * cond (eqb i j) 1 0) (λ j q. same-scale (v j) (same_trans (exact p (total-same n (λ g. z j g * c g) (λ g. c g * z j g) (λ g _. omega arith))) (w.dual k i l j q))) in
      same_trans (exact p (e ∙ f)) (same_trans d (exact p (pick_one m i v l)))

  free : (v : ℕ → ℕ) → IsNull p K k (combination m v (S.cycle k)) → (i : ℕ) → i < m → Same p (v i) 0
  free v nl i l =
      let c : ℕ → ℕ = λ g. S.cocycle k i (at g) in
      let e = total_same p n (λ g. c g * combination m v (S.cycle k) (at g)) (λ g. c g * K.boundary nl.filling (at g)) (λ g q. same-scale (c g) (nl.fills (at g) (on_list g q))) in
      same_trans (same_sym (on_combination i l v)) (same_trans e (on_boundary i l nl.filling))

  module _ (z : List Factor → ℕ) (cy : IsCycle p K k z) where
    abbrev Z : ℕ → ℕ
    Z s = z (at s)

    abbrev C : ℕ → ℕ → ℕ
    C s i = S.cocycle k i (at s)

    abbrev numbers : ℕ → ℕ
    numbers i = total n (λ s. Z s * C s i)

    abbrev filling : List Factor → ℕ
    filling = combination n Z (λ s. S.homotopy (at s))

    of_degree : (s : ℕ) → NonZero p (Z s) → dimension_of (at s) ≡ k
    of_degree s nz = ⊎_elim (λ e. e) (λ f. absurd (nz (cy.chain.of_degree (at s) f))) (cases_eq (dimension_of (at s)) k)

    is_filling : IsChain p K (k + 1) filling
    is_filling = record {
      on = λ g e. total_none p n (λ s. Z s * S.homotopy (at s) g) (λ s l. same_trans (same-scale (Z s) ((w.homotopy_cells (at s) (on_list s l)).on g e)) (exact p (omega arith)));
      of_degree = λ g f. none_by_terms p n Z (λ s. S.homotopy (at s) g) (λ s l nz. (w.homotopy_cells (at s) (on_list s l)).of_degree g (λ e. f (e ∙ ap (λ d. d + 1) (of_degree s nz))));
    }

    closed : (t : ℕ) → t < n → Same p (total n (λ s. Z s * bc s t)) 0
    closed t l = same_trans (boundary_here z (at t)) (cy.closed (at t) (on_list t l))

    spans : (g : List Factor) → is_relative x a g ≡ true → Same p (z g) (combination m numbers (S.cycle k) g + K.boundary filling g)
    spans g e =
        let P : ℕ → ℕ = λ s. total m (λ i. C s i * S.cycle k i g) in
        let D : ℕ → ℕ = λ s. combination (S.size (dimension_of (at s))) (λ i. S.cocycle (dimension_of (at s)) i (at s)) (S.cycle (dimension_of (at s))) g in
        let B : ℕ → ℕ = λ s. K.boundary (S.homotopy (at s)) g in
        let Y : ℕ → ℕ = λ s. total n (λ t. bc s t * S.homotopy (at t) g) in
        let pick : total n (λ s. Z s * unit_at (at s) g) ≡ z g = spread n at z g w.listing.once (inl (place g e)) in
        let all : Same p (total n (λ s. Z s * (D s + (B s + Y s)))) (total n (λ s. Z s * unit_at (at s) g)) = total_same p n (λ s. Z s * (D s + (B s + Y s))) (λ s. Z s * unit_at (at s) g) (λ s l. same-scale (Z s) (w.contracts (at s) (on_list s l) g e)) in
        let graded : Same p (total n (λ s. Z s * D s)) (total n (λ s. Z s * P s)) =
        by_terms p n Z D P (λ s l nz. exact p (ap (λ d. combination (S.size d) (λ i. S.cocycle d i (at s)) (S.cycle d) g) (of_degree s nz))) in
        let first : total m (λ i. numbers i * S.cycle k i g) ≡ total n (λ s. Z s * P s) = total_total n m Z C (λ i. S.cycle k i g) in
        let second : Same p (K.boundary filling g) (total n (λ s. Z s * B s)) = (relative_complexes_are_complexes.operator p x a).linear n Z (λ s. S.homotopy (at s)) g e in
        let third : Same p (total n (λ s. Z s * Y s)) 0 =
        same_trans (exact p (sym (total_total n n Z bc (λ t. S.homotopy (at t) g)))) (none_in_front p n (λ t. total n (λ s. Z s * bc s t)) (λ t. S.homotopy (at t) g) closed) in
        let s1 = total_behind n Z D (λ s. B s + Y s) in
        let s2 = total_behind n Z B Y in
        let b : ℕ = total n (λ s. Z s * B s) in
        let whole : Same p (total n (λ s. Z s * D s) + (b + total n (λ s. Z s * Y s))) (z g) = same_trans (exact p (sym (s1 ∙ ap (λ v. total n (λ s. Z s * D s) + v) s2))) (same_trans all (exact p pick)) in
        same_sym (same_trans (same-add (exact p first) second) (same_trans (same-add (same_sym graded) (same_trans (exact p (let k : b ≡ b + 0 = omega arith in k)) (same-add (same_refl p b) (same_sym third)))) whole))

  pub basis : IsBasis p K k m (S.cycle k)
  basis = record {
    cycles = λ i l. record { chain = w.cycle_cells k i l; closed = w.closed k i l };
    independent = free;
    spanning = λ z cy. record { x = numbers z cy; filling = filling z cy; chain = is_filling z cy; differs = spans z cy };
  }

  -- a chain whose restriction is a cycle differs by a null chain from the combination of the cycles by its products with the cocycles
  pub class_by_products : (c : List Factor → ℕ) (v : ℕ → ℕ) → IsCycle p K k (restriction_to (is_relative x a) c)
      → ((i : ℕ) → i < m → Same p (v i) (sum_over cells (λ g. S.cocycle k i g * c g))) → IsSameClass p K k c (combination m v (S.cycle k))
  class_by_products c v cy products =
      let r : List Factor → ℕ = restriction_to (is_relative x a) c in
      let s : IsSpanned p K k m (S.cycle k) r = basis.spanning r cy in
      let coefficient_is : (i : ℕ) → i < m → Same p (s.x i) (v i) = λ i l.
      let d : ℕ → ℕ = λ g. S.cocycle k i (at g) in
      let here = total_same p n (λ g. d g * c (at g)) (λ g. d g * (combination m s.x (S.cycle k) (at g) + K.boundary s.filling (at g))) (λ g q. same-scale (d g) (same_trans (exact p (sym (restriction-on (is_relative x a) c (at g) (on_list g q)))) (s.differs (at g) (on_list g q)))) in
      let parts = total_behind n d (λ g. combination m s.x (S.cycle k) (at g)) (λ g. K.boundary s.filling (at g)) in
      let sum = same_trans (exact p parts) (same_trans (same-add (on_combination i l s.x) (on_boundary i l s.filling)) (exact p (let k : s.x i + 0 ≡ s.x i = omega arith in k))) in
      same_sym (same_trans (products i l) (same_trans here sum)) in
      record {
        filling = s.filling;
        chain = s.chain;
        differs = λ q e. same_trans (exact p (sym (restriction-on (is_relative x a) c q e))) (same_trans (s.differs q e)
            (same-add (total_same p m (λ i. s.x i * S.cycle k i q) (λ i. v i * S.cycle k i q) (λ i l. same-mul (coefficient_is i l) (same_refl p (S.cycle k i q)))) (same_refl p (K.boundary s.filling q))));
      }

same_class_trans : (p k : ℕ) (y b : List (List Factor)) (u v w : List Factor → ℕ) → IsSameClass p (relative_complex p y b) k u v → IsSameClass p (relative_complex p y b) k v w → IsSameClass p (relative_complex p y b) k u w
same_class_trans p k y b u v w s t =
    let K : System (List Factor) = relative_complex p y b in
    record {
      filling = λ g. s.filling g + t.filling g;
      chain = chain-add p K (k + 1) s.filling t.filling s.chain t.chain;
      differs = λ g e.
          let a = boundary-add p K (relative_complexes_are_complexes.operator p y b) s.filling t.filling g e in
          let x : ℕ = K.boundary s.filling g in
          let z : ℕ = K.boundary t.filling g in
          same_trans (s.differs g e) (same_trans (same-add (t.differs g e) (same_refl p x)) (same_trans (exact p (let k : w g + z + x ≡ w g + (x + z) = omega arith in k)) (same-add (same_refl p (w g)) (same_sym a))));
    }

pub sections_are_bases : SectionsAreBases
sections_are_bases p x a cells S one w k = basis p x a cells S one w k

pub products_with_sections_are_the_matrix : ProductsWithSectionsAreTheMatrix
products_with_sections_are_the_matrix p map domain range x a y b cells others X Y f k entry one am td tr into sx sy mf products e me j l =
    let c : List Factor → ℕ = image (cells_of domain) f (X.cycle k j) in
    let d : List Factor → ℕ = image (cells_of domain) e (X.cycle k j) in
    let cy = (sections_are_bases p x a cells X one sx k).cycles j l in
    same_class_trans p k y b d c (combination (Y.size k) (λ i. entry i j) (Y.cycle k))
    (carried_maps_agree p map domain range x a y b e f k (X.cycle k j) one am td tr into me mf cy)
    (class_by_products p y b others Y one sy k c (λ i. entry i j) (images_are_relative_cycles p map domain range x a y b f k (X.cycle k j) one am td tr into mf cy) (λ i q. products i j q l))
