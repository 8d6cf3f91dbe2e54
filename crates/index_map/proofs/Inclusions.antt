-- The inclusion of a pair keeps cycles and null chains.
use Rattle.std.proofs.Common.{◌≡◌, ℕ, inl, inr, refl, sym, ◌∙◌, ⊎_elim, List, ◌++◌, Bool, true, false, ◌&&◌}
use Rattle.std.specs.Prelude.{not}
use Rattle.std.proofs.lemmas.Bool.{true≢false, cases_Bool, and_parts}
use Rattle.field_mod.specs.Modular.{Same}
use Rattle.field_mod.proofs.Modular.{same_sym, same_trans}
use Rattle.elem_cubes.specs.Cells.{Factor}
use Rattle.elem_cubes.specs.Faces.{IsFace}
use Rattle.elem_cubes.specs.Boundary.{boundary_at}
use Rattle.elem_cubes.proofs.Modular.{exact}
use Rattle.elem_cubes.proofs.Boundaries.{boundary_same, boundary-none}
use Rattle.elem_cubes.proofs.Members.{In-from, from-In, In-append, left-In, right-In}
use Rattle.chains.specs.Homology.{IsChain, IsCycle, IsNull}
use Rattle.cube_sets.specs.Closures.{is_cell_of}
use Rattle.cell_complex.specs.RelativeComplex.{is_relative, relative_complex, restriction_to}
use Rattle.cell_complex.proofs.Deciding.{closed}
use Rattle.cell_complex.proofs.Squares.{restriction-on, restriction-off}
use Rattle.acyclic_values.proofs.Cells.{cell_in, cell_from}
use Rattle.acyclic_values.proofs.Values.{relative_out, relative_rest}
use Rattle.acyclic_values.specs.CarriedMaps.{IsTogether}
use Rattle.index_map.specs.Inclusion.{IsIncluded}

pub together_append : (x a : List (List Factor)) → IsTogether (x ++ a) x a
together_append x a q = (
  (λ w. ⊎_elim (λ l. inl (from-In x q l)) (λ r. inr (from-In a q r)) (In-append x a q (In-from (x ++ a) q w))),
  (λ w. from-In (x ++ a) q (⊎_elim (λ l. left-In x a q (In-from x q l)) (λ r. right-In x a q (In-from a q r)) w)),
)

module _ (p : ℕ) (x a y b : List (List Factor)) (i : IsIncluded x a y b) where
  abbrev K : List Factor → Bool
  K = is_relative x a

  abbrev L : List Factor → Bool
  L = is_relative y b

  in_range : (s : List Factor) → K s ≡ true → is_cell_of (y ++ b) s ≡ true
  in_range s e =
      let w = cell_in x s (and_parts (is_cell_of x s) (not (is_cell_of a s)) e).0 in
      cell_from (y ++ b) w.0 s (In-from (y ++ b) w.0 (i.whole w.0 (from-In (x ++ a) w.0 (left-In x a w.0 w.1)))) w.2

  in_subset : (s : List Factor) → is_cell_of a s ≡ true → is_cell_of b s ≡ true
  in_subset s e = let w = cell_in a s e in cell_from b w.0 s (In-from b w.0 (i.subset w.0 (from-In a w.0 w.1))) w.2

  out_of_b : (r : List Factor) → L r ≡ true → is_cell_of b r ≡ true → ⊥
  out_of_b r e f = true≢false (sym f ∙ relative_out (y ++ b) y b (together_append y b) r e)

  -- the boundary of a chain of the first pair, at a relative cell of the second
  pub same_boundary : (c : List Factor → ℕ) → ((q : List Factor) → K q ≡ false → Same p (c q) 0) → (r : List Factor) → L r ≡ true → Same p (boundary_at p r (restriction_to L c)) (boundary_at p r (restriction_to K c))
  same_boundary c off r here = boundary_same p r (restriction_to L c) (restriction_to K c) (λ s f. ⊎_elim
      (λ k. ⊎_elim
      (λ l. exact p (restriction-on L c s l ∙ sym (restriction-on K c s k)))
      (λ l. absurd (out_of_b r here (closed b s r f (relative_rest (y ++ b) y b (together_append y b) s (in_range s k) l))))
      (cases_Bool (L s)))
      (λ k. same_trans (⊎_elim (λ l. same_trans (exact p (restriction-on L c s l)) (off s k)) (λ l. exact p (restriction-off L c s l)) (cases_Bool (L s))) (exact p (sym (restriction-off K c s k))))
      (cases_Bool (K s)))

  -- it is 0 where the cell is no relative cell of the first
  pub no_boundary : (c : List Factor → ℕ) (r : List Factor) → L r ≡ true → K r ≡ false → Same p (boundary_at p r (restriction_to K c)) 0
  no_boundary c r here out = same_trans (boundary_same p r (restriction_to K c) (λ s. 0) (λ s f. ⊎_elim
      (λ k. absurd (out_of_b r here (in_subset r (face_in_a s f k))))
      (λ k. exact p (restriction-off K c s k))
      (cases_Bool (K s)))) (exact p (boundary-none p r))
    where
      rest : (u v : Bool) → u ≡ true → (u && not v) ≡ false → v ≡ true
      rest true true e f = refl
      rest true false e f = absurd (true≢false f)
      rest false v e f = absurd (true≢false (sym e))

      face_in_a : (s : List Factor) → IsFace s r → K s ≡ true → is_cell_of a r ≡ true
      face_in_a s f k = rest (is_cell_of x r) (is_cell_of a r) (closed x s r f (and_parts (is_cell_of x s) (not (is_cell_of a s)) k).0) out

  twice : (c : List Factor → ℕ) (r : List Factor) → Same p (boundary_at p r (restriction_to L (restriction_to L c))) (boundary_at p r (restriction_to L c))
  twice c r = boundary_same p r (restriction_to L (restriction_to L c)) (restriction_to L c) (λ s _. ⊎_elim (λ e. exact p (restriction-on L (restriction_to L c) s e)) (λ e. exact p (restriction-off L (restriction_to L c) s e ∙ sym (restriction-off L c s e))) (cases_Bool (L s)))

  pub cycle_included : (k : ℕ) (z : List Factor → ℕ) → IsCycle p (relative_complex p x a) k z → IsCycle p (relative_complex p y b) k (restriction_to L z)
  cycle_included k z cy = record {
    chain = record {
      on = λ g e. exact p (restriction-off L z g e);
      of_degree = λ g f. ⊎_elim (λ e. same_trans (exact p (restriction-on L z g e)) (cy.chain.of_degree g f)) (λ e. exact p (restriction-off L z g e)) (cases_Bool (L g));
    };
    closed = λ r here. same_trans (twice z r) (same_trans (same_boundary z cy.chain.on r here) (⊎_elim (λ e. cy.closed r e) (λ e. no_boundary z r here e) (cases_Bool (K r))));
  }

  pub null_included : (k : ℕ) (z : List Factor → ℕ) → IsChain p (relative_complex p x a) k z → IsNull p (relative_complex p x a) k z → IsNull p (relative_complex p y b) k z
  null_included k z ch n = record {
    filling = restriction_to L n.filling;
    chain = record {
      on = λ g e. exact p (restriction-off L n.filling g e);
      of_degree = λ g f. ⊎_elim (λ e. same_trans (exact p (restriction-on L n.filling g e)) (n.chain.of_degree g f)) (λ e. exact p (restriction-off L n.filling g e)) (cases_Bool (L g));
    };
    fills = λ r here. same_trans
        (⊎_elim (λ e. n.fills r e) (λ e. same_trans (ch.on r e) (same_sym (no_boundary n.filling r here e))) (cases_Bool (K r)))
        (same_sym (same_trans (twice n.filling r) (same_boundary n.filling n.chain.on r here)));
  }
