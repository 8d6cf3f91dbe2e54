-- The relative complex is a complex: the boundary of each boundary is 0, and the boundary is linear and lowers the degree
use Rattle.std.proofs.Common.{◌≡◌, ℕ, ◌+◌, ◌*◌, ◌≤◌, refl, sym, ap, ◌∙◌, ⊎_elim, List, Bool, true, false, cond, ◌&&◌}
use Rattle.std.specs.Prelude.{not}
use Rattle.std.proofs.lemmas.Bool.{true≢false, cases_Bool, and_parts, and_left, not-true, both_ways}
use native.Mathlib.Nat.{mul-zero}
use Rattle.field_mod.specs.Sums.{total}
use Rattle.field_mod.specs.Modular.{Same}
use Rattle.field_mod.proofs.Sums.{total-same, total-zero}
use Rattle.field_mod.proofs.Modular.{same_sym, same_trans}
use Rattle.elem_cubes.specs.Cells.{Factor, dimension_of}
use Rattle.elem_cubes.specs.Faces.{IsFace, IsFacet}
use Rattle.elem_cubes.specs.Boundary.{boundary_at}
use Rattle.chains.specs.Homology.{IsBoundaryOperator, combination}
use Rattle.cube_sets.specs.Closures.{is_cell_of}
use Rattle.cell_complex.specs.RelativeComplex.{is_relative, restriction_to, complex_on, IsClosed, SquaresToZero}
use Rattle.cell_complex.specs.Laws.{DifferencesAreComplexes, RelativeComplexesAreComplexes}
use Rattle.cell_complex.proofs.Deciding.{closed}
use Rattle.elem_cubes.proofs.Modular.{exact}
use Rattle.elem_cubes.proofs.Boundaries.{boundary-none, boundary-total, boundary_twice}
use Rattle.cell_complex.proofs.Cofaces.{boundary_same}

-- ---- restrictions

pub restriction-on : (on : List Factor → Bool) (c : List Factor → ℕ) (q : List Factor) → on q ≡ true → restriction_to on c q ≡ c q
restriction-on on c q e = ap (λ b. cond b (c q) 0) e

pub restriction-off : (on : List Factor → Bool) (c : List Factor → ℕ) (q : List Factor) → on q ≡ false → restriction_to on c q ≡ 0
restriction-off on c q e = ap (λ b. cond b (c q) 0) e

-- ---- the square

module _ (p : ℕ) (in_x in_a : List Factor → Bool) (closed_x : IsClosed in_x) (closed_a : IsClosed in_a) where
  -- a coface of a cell of the difference that is not there itself is not in the first set
  above : (s r : List Factor) → IsFace s r → (in_x r && not (in_a r)) ≡ true → (in_x s && not (in_a s)) ≡ false → in_x s ≡ false
  above s r f here gone =
      let both = and_parts (in_x r) (not (in_a r)) here in
      let out : in_a s ≡ false = ⊎_elim (λ e. absurd (both_ways (in_a r) (not-true (in_a r) both.1) (closed_a s r f e))) (λ e. e) (cases_Bool (in_a s)) in
      ⊎_elim (λ e. absurd (true≢false (sym (ap (λ v. v && not (in_a s)) e ∙ ap not out) ∙ gone))) (λ e. e) (cases_Bool (in_x s))

  -- and so a chain of the difference has no boundary there
  none_above : (c : List Factor → ℕ) (s : List Factor) → in_x s ≡ false → Same p (boundary_at p s (restriction_to (λ q. in_x q && not (in_a q)) c)) 0
  none_above c s out =
      same_trans (boundary_same p s (restriction_to (λ q. in_x q && not (in_a q)) c) (λ t. 0) (λ t f. exact p (restriction-off (λ q. in_x q && not (in_a q)) c t (and_left (in_x t) (not (in_a t)) (gone t f))))) (exact p (boundary-none p s))
    where
      gone : (t : List Factor) → IsFacet t s → in_x t ≡ false
      gone t f = ⊎_elim (λ e. absurd (both_ways (in_x s) out (closed_x t s f.0 e))) (λ e. e) (cases_Bool (in_x t))

  pub squares : 1 ≤ p → SquaresToZero p (complex_on p (λ q. in_x q && not (in_a q)))
  squares h c r here =
      let on : List Factor → Bool = λ q. in_x q && not (in_a q) in
      let once : List Factor → ℕ = λ s. boundary_at p s (restriction_to on c) in
      same_trans (boundary_same p r (restriction_to on once) once (λ s f. ⊎_elim
      (λ e. exact p (restriction-on on once s e))
      (λ e. same_trans (exact p (restriction-off on once s e)) (same_sym (none_above c s (above s r f.0 here e))))
      (cases_Bool (on s))))
      (boundary_twice p r (restriction_to on c) h)

pub differences_are_complexes : DifferencesAreComplexes
differences_are_complexes p in_x in_a h closed_x closed_a = squares p in_x in_a closed_x closed_a h

-- ---- the operator

pub restriction-combination : (on : List Factor → Bool) (n : ℕ) (x : ℕ → ℕ) (cs : ℕ → List Factor → ℕ) (s : List Factor) → restriction_to on (combination n x cs) s ≡ total n (λ i. x i * restriction_to on (cs i) s)
restriction-combination on n x cs s =
    elim (on s) as (λ b. cond b (total n (λ i. x i * cs i s)) 0 ≡ total n (λ i. x i * cond b (cs i s) 0)) [
      | true ↦ refl
      | false ↦ sym (total-same n (λ i. x i * 0) (λ i. 0) (λ i l. mul-zero (x i)) ∙ total-zero n)
    ]

pub operator : (p : ℕ) (on : List Factor → Bool) → IsBoundaryOperator p (complex_on p on)
operator p on = record {
  linear = λ n x cs g here.
      same_trans (boundary_same p g (restriction_to on (combination n x cs)) (λ s. total n (λ i. x i * restriction_to on (cs i) s)) (λ s f. exact p (restriction-combination on n x cs s)))
      (exact p (boundary-total p g n x (λ i. restriction_to on (cs i))));
  lowers = λ c d g here h. boundary_same p g (restriction_to on c) (restriction_to on d) (λ s f. each c d g h s f);
}
  where
    each : (c d : List Factor → ℕ) (g : List Factor) → ((s : List Factor) → on s ≡ true → dimension_of s ≡ dimension_of g + 1 → Same p (c s) (d s)) → (s : List Factor) → IsFacet s g → Same p (restriction_to on c s) (restriction_to on d s)
    each c d g h s f = ⊎_elim
        (λ e. same_trans (exact p (restriction-on on c s e)) (same_trans (h s e (sym f.1)) (exact p (sym (restriction-on on d s e)))))
        (λ e. exact p (restriction-off on c s e ∙ sym (restriction-off on d s e)))
        (cases_Bool (on s))

pub relative_complexes_are_complexes : RelativeComplexesAreComplexes
relative_complexes_are_complexes = record {
  squares = λ p x a h. squares p (is_cell_of x) (is_cell_of a) (closed x) (closed a) h;
  operator = λ p x a. operator p (is_relative x a);
}
