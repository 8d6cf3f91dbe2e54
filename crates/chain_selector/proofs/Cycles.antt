-- What the homotopy of steps that leave no boundary makes of a cycle that is null: a chain that fills the cycle.
use Rattle.std.proofs.Common.{◌≡◌, ℕ, ◌+◌, ◌*◌, ◌^◌, ◌<◌, ◌≤◌, refl, sym, ap, ◌∙◌, subst, arith, ⊎_elim, List, [], length, get_or, Bool, true, false, ◌&&◌}
use mathlib.Core.Path.{fun_ext}
use Rattle.std.proofs.lemmas.Bool.{cases_Bool, cases_lt, ltb-false, le-ltb}
use Rattle.std.proofs.lemmas.List.{get_or-map}
use Rattle.field_mod.specs.Modular.{Same}
use Rattle.field_mod.proofs.Sums.{total_none}
use Rattle.field_mod.proofs.Modular.{same_refl, same_sym, same_trans, same-add, same-scale}
use Rattle.elem_cubes.specs.Cells.{Factor, dimension_of}
use Rattle.elem_cubes.specs.Boundary.{boundary_at}
use Rattle.elem_cubes.specs.Laws.{cell_at}
use Rattle.elem_cubes.proofs.Modular.{exact}
use Rattle.chains.specs.Terms.{coefficient, IsNormal}
use Rattle.chains.specs.ChainComplex.{ChainComplex, IsComplex, system, incidence, boundary}
use Rattle.chains.specs.Homology.{IsChain, IsCycle, IsNull, IsBoundaryOf}
use Rattle.chains.proofs.TermLists.{coefficient-lt}
use Rattle.cube_sets.specs.Closures.{is_cell_of}
use Rattle.cell_complex.specs.RelativeComplex.{is_relative, restriction_to}
use Rattle.cell_complex.specs.Numbering.{IsListing, IsComplexOf, IsRelativeComplex, by_cell}
use Rattle.cell_complex.specs.Acyclic.{complex_of_set}
use Rattle.cell_complex.proofs.Numbering.{listed, boundary_by_cell}
use Rattle.algebraic_reduction.specs.Reduction.{Step}
use Rattle.algebraic_reduction.specs.Laws.{AreStepsOf, NothingLeft, IsReduction, IsLinear, left_of, project_of, include_of, homotopy_of}
use Rattle.algebraic_reduction.specs.LogWords.{Reduced, Gives, homotopy_at}
use Rattle.algebraic_reduction.proofs.LinearMaps.{TellsSame, through}
use Rattle.algebraic_reduction.proofs.Residues.{same_zero}
use Rattle.algebraic_reduction.proofs.Singles.{incidence_off}
use Rattle.acyclic_values.specs.Contractions.{IsCellList}
use Rattle.acyclic_values.proofs.Contracting.{listing, place, by_cell_at, by_cell_off, cx, red}
use Rattle.chain_selector.specs.Multiples.{NamesBelow}
use Rattle.chain_selector.specs.Fillings.{FillsIfNull}

-- ---- by numbers

module _ (p : ℕ) (K : ChainComplex) (ss : List Step) (is : IsComplex p K) (r : IsReduction p K ss) (done : NothingLeft p K ss) where
  abbrev size : ℕ
  size = length K.boundaries

  -- what a linear map gives 0
  of_none : (f : (ℕ → ℕ) → ℕ → ℕ) → IsLinear p f → TellsSame p f → (x : ℕ → ℕ) → ((g : ℕ) → Same p (x g) 0) → (g : ℕ) → Same p (f x g) 0
  of_none f linear same x none g = same_trans (same x (λ h. 0) none g) (through p f linear same 0 (λ i. 0) (λ i h. 0) g)

  pub boundary_past : (x : ℕ → ℕ) (g : ℕ) → size ≤ g → Same p (boundary K.boundaries x g) 0
  boundary_past x g l = total_none p size (λ h. x h * incidence K.boundaries h g) (λ h q. same_trans (same-scale (x h) (exact p (incidence_off p K is h g q l))) (exact p (omega arith)))

  -- the projection of the boundary of y is 0, since no boundary is left
  pub homotopy_fills : (c y : ℕ → ℕ) → ((g : ℕ) → Same p (boundary K.boundaries c g) 0) → ((g : ℕ) → Same p (c g) (boundary K.boundaries y g)) → (g : ℕ) → Same p (c g) (boundary K.boundaries (homotopy_of p K ss c) g)
  homotopy_fills c y closed null g =
      let nothing : (h : ℕ) → Same p (project_of p K ss c h) 0 = λ h. same_trans (r.project_same c (boundary K.boundaries y) null h) (same_trans (same_sym (r.project_boundary y h))
      (total_none p size (λ i. project_of p K ss y i * left_of p K ss i h) (λ i _. same_trans (same-scale (project_of p K ss y i) (done i h)) (exact p (omega arith))))) in
      let a : Same p (include_of p K ss (project_of p K ss c) g) 0 = of_none (include_of p K ss) r.include_linear r.include_same (project_of p K ss c) nothing g in
      let b : Same p (homotopy_of p K ss (boundary K.boundaries c) g) 0 = of_none (homotopy_of p K ss) r.homotopy_linear r.homotopy_same (boundary K.boundaries c) closed g in
      let x : ℕ = boundary K.boundaries (homotopy_of p K ss c) g in
      same_sym (same_trans (exact p (let e : x ≡ 0 + (x + 0) = omega arith in e)) (same_trans (same-add (same_sym a) (same-add (same_refl p x) (same_sym b))) (r.identity c g)))

-- ---- by cells

module _ (p : ℕ) (V : List (List Factor)) (K : ChainComplex) (ss : List Step) (two : 2 ≤ p) (cl : IsCellList V) (ck : IsComplexOf p V K) (st : AreStepsOf p K ss) (done : NothingLeft p K ss) where
  tests : is_relative V [] ≡ is_cell_of V
  tests = fun_ext (λ q. and_true (is_cell_of V q))
    where
      and_true : (b : Bool) → (b && true) ≡ b
      and_true true = refl
      and_true false = refl

  rel : IsRelativeComplex p V [] V K
  rel = record { listing = subst (λ (t : List Factor → Bool). IsListing t V) (sym tests) (listing V cl); complex = ck }

  by_boundary : (c : ℕ → ℕ) (f : List Factor → ℕ) → ((i : ℕ) → i < length V → Same p (c i) (f (cell_at V i))) → (g : ℕ) → Same p (boundary K.boundaries c g) (boundary_at p (cell_at V g) (restriction_to (is_cell_of V) f))
  by_boundary c f same g = subst (λ (t : List Factor → Bool). Same p (boundary K.boundaries c g) (boundary_at p (cell_at V g) (restriction_to t f))) tests (boundary_by_cell p V [] V K rel c f same g)

  complex : IsComplex p K
  complex = cx p V K ss two cl ck st

  reduces : IsReduction p K ss
  reduces = red p V K ss two cl ck st

  here : (i : ℕ) → i < length V → is_cell_of V (cell_at V i) ≡ true
  here i l = listed (is_cell_of V) V (listing V cl) i l

  degree_here : (i : ℕ) → i < length V → get_or K.degrees i 0 ≡ dimension_of (cell_at V i)
  degree_here i l = ap (λ ds. get_or ds i 0) ck.degrees ∙ get_or-map dimension_of V i [] 0 l

  module _ (k : ℕ) (c : ℕ → ℕ) (past : (g : ℕ) → length V ≤ g → c g ≡ 0) (cy : IsCycle p (complex_of_set p V) k (by_cell V c)) (nz : IsNull p (complex_of_set p V) k (by_cell V c)) where
    abbrev y : ℕ → ℕ
    y i = nz.filling (cell_at V i)

    closed : (g : ℕ) → Same p (boundary K.boundaries c g) 0
    closed g = ⊎_elim
        (λ l. same_trans (by_boundary c (by_cell V c) (λ i q. exact p (sym (by_cell_at V cl c i q))) g) (cy.closed (cell_at V g) (here g l)))
        (λ m. boundary_past p K ss complex reduces done c g (omega (arith, m, ck.count)))
        (cases_lt g (length V))

    null : (g : ℕ) → Same p (c g) (boundary K.boundaries y g)
    null g = ⊎_elim
        (λ l. same_trans (exact p (sym (by_cell_at V cl c g l))) (same_trans (nz.fills (cell_at V g) (here g l)) (same_sym (by_boundary y nz.filling (λ i _. same_refl p (nz.filling (cell_at V i))) g))))
        (λ m. same_trans (exact p (past g m)) (same_sym (boundary_past p K ss complex reduces done y g (omega (arith, m, ck.count)))))
        (cases_lt g (length V))

    numbered : IsChain p (system K) k c
    numbered = record {
      on = λ g e. exact p (past g (omega (arith, ltb-false g (length K.boundaries) e, ck.count)));
      of_degree = λ g f. ⊎_elim
          (λ l. same_trans (exact p (sym (by_cell_at V cl c g l))) (cy.chain.of_degree (cell_at V g) (λ e. f (degree_here g l ∙ e))))
          (λ m. exact p (past g m))
          (cases_lt g (length V));
    }

    raised : IsChain p (system K) (k + 1) (homotopy_of p K ss c)
    raised = reduces.homotopy_degree k c numbered

    -- a chain b that the homotopy gives
    module _ (b : ℕ → ℕ) (gives : (g : ℕ) → Same p (b g) (homotopy_of p K ss c g)) where
      pub gives_none : (g : ℕ) → length V ≤ g → Same p (b g) 0
      gives_none g m = same_trans (gives g) (raised.on g (le-ltb g (length K.boundaries) (omega (arith, m, ck.count))))

      pub chain : IsChain p (complex_of_set p V) (k + 1) (by_cell V b)
      chain = record {
        on = λ q e. exact p (by_cell_off V cl b q e);
        of_degree = λ q f. ⊎_elim
            (λ e.
            let w = place V cl q e in
            let at = raised.of_degree w.0 (λ d. f (ap dimension_of (sym w.2) ∙ sym (degree_here w.0 w.1) ∙ d)) in
            same_trans (exact p (ap (by_cell V b) (sym w.2) ∙ by_cell_at V cl b w.0 w.1)) (same_trans (gives w.0) at))
            (λ e. exact p (by_cell_off V cl b q e))
            (cases_Bool (is_cell_of V q));
      }

      fills_at : (i : ℕ) → i < length V → Same p (by_cell V c (cell_at V i)) (boundary_at p (cell_at V i) (restriction_to (is_cell_of V) (by_cell V b)))
      fills_at i l =
          same_trans (exact p (by_cell_at V cl c i l)) (same_trans (homotopy_fills p K ss complex reduces done c y closed null i)
          (by_boundary (homotopy_of p K ss c) (by_cell V b) (λ j q. same_trans (same_sym (gives j)) (exact p (sym (by_cell_at V cl b j q)))) i))

      pub fills : IsBoundaryOf p (complex_of_set p V) (by_cell V c) (by_cell V b)
      fills q e = let w = place V cl q e in subst (λ (x : List Factor). Same p (by_cell V c x) (boundary_at p x (restriction_to (is_cell_of V) (by_cell V b)))) w.2 (fills_at w.0 w.1)

-- what a log that leaves no boundary gives at a chain of places
pub fills_if_null : (p : ℕ) (V : List (List Factor)) (log : Reduced) (c b : List (ℕ × ℕ)) → 2 ≤ p → IsCellList V → IsComplexOf p V log.complex → AreStepsOf p log.complex log.steps → NothingLeft p log.complex log.steps
    → NamesBelow (length V) c → IsNormal p b → Gives p b (homotopy_at p log c) → FillsIfNull p V c b
fills_if_null p V log c b two cl ck st done past normal gives k cy nz = record {
  within = λ g m. same_zero p (coefficient b g) (coefficient-lt p 0 (2 ^ 32) b g (omega arith) normal) (gives_none p V log.complex log.steps two cl ck st done k (coefficient c) past cy nz (coefficient b) gives g m);
  chain = chain p V log.complex log.steps two cl ck st done k (coefficient c) past cy nz (coefficient b) gives;
  fills = fills p V log.complex log.steps two cl ck st done k (coefficient c) past cy nz (coefficient b) gives;
}
