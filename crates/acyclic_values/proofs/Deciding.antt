-- A list of cells is acyclic or has a hole: its complex has steps that leave no boundary, and what they leave decides.
use Rattle.std.proofs.Common.{◌≡◌, ℕ, zero, suc, ◌+◌, ◌%◌, ◌^◌, ◌<◌, ◌≤◌, ◌⊎◌, inl, inr, refl, sym, ap, ◌∙◌, arith, ⊎_elim, cond, eq-eqb, ne_eqb, List, [], ◌∷◌, ◌++◌, length, get_or, map, subst, Option, Some, None, filter, Bool, true, false}
use Rattle.std.proofs.lemmas.Bool.{cases_eq, cases_lt}
use Rattle.std.proofs.lemmas.List.{get_or-map, length-map, get_or_past}
use native.Mathlib.Nat.{mod-mod}
use Rattle.field_mod.specs.Modular.{Same}
use Rattle.field_mod.proofs.Modular.{same_trans}
use Rattle.elem_cubes.specs.Cells.{Factor, dimension_of}
use Rattle.elem_cubes.specs.Boundary.{boundary_coefficient}
use Rattle.elem_cubes.specs.Laws.{cell_at}
use Rattle.elem_cubes.proofs.Modular.{exact}
use Rattle.chains.specs.Terms.{coefficient, IsNormalWithin, IsNormal}
use Rattle.chains.specs.ChainComplex.{ChainComplex}
use Rattle.chains.proofs.TermLists.{coefficient-append, coefficient-above, widened, IsNormalWithin_push}
use Rattle.cell_complex.specs.Acyclic.{IsAcyclic, IsHole}
use Rattle.cell_complex.specs.Numbering.{IsComplexOf, by_cell}
use Rattle.cell_complex.proofs.Numbering.{coefficient-past}
use Rattle.algebraic_reduction.specs.Reduction.{single, Step, IsUnpaired}
use Rattle.algebraic_reduction.specs.Laws.{AreStepsOf, NothingLeft, homotopy_of, include_of, project_of}
use Rattle.acyclic_values.specs.declared.hole.Hole.TheVariants.{Empty, Class}
use Rattle.acyclic_values.specs.Contractions.{IsCellList, LeaveVertex, IsLeftVertex, IsFirstLeft}
use Rattle.acyclic_values.specs.Contracted.{IsBestBelow, IsLower}
use Rattle.acyclic_values.specs.Laws.{less_vertex}
use Rattle.acyclic_values.specs.Deciding.{SomeHole, AcyclicOrHole, HolesHaveOneDegree, ValuesAreDecided}
use Rattle.acyclic_values.specs.Values.{in_value}
use Rattle.acyclic_values.proofs.Values.{value_to, value_from, values_closed, value_inside, value_list, value_list_is}
use Rattle.cube_sets.specs.Closures.{cells_of}
use Rattle.acyclic_values.proofs.Contracting.{cx, hole_not_null, last_vertices_contract, some_vertex_is_left, contractions_are_acyclic, left_generators_are_holes}
use Rattle.acyclic_values.proofs.Making.{best_lower, best_same, hole_same, by_cell_same}
use Rattle.acyclic_values.proofs.Reducing.{reductions_exist}

-- ---- a chain as a list of terms

-- the chain f below n, as a list of terms
pub record Listed (p n : ℕ) (f : ℕ → ℕ) : Type 0 where
  pub terms : List (ℕ × ℕ)
  pub normal : IsNormalWithin p 0 n terms
  pub below : (g : ℕ) → g < n → coefficient terms g ≡ f g % p

pub listed_below : (p n : ℕ) (f : ℕ → ℕ) → 1 ≤ p → Listed p n f
listed_below p zero f one = record { terms = []; normal = omega arith; below = λ g l. absurd (omega arith) }
listed_below p (suc n) f one =
    let r = listed_below p n f one in
    ⊎_elim
    (λ z. record {
      terms = r.terms;
      normal = widened p 0 n (suc n) r.terms r.normal (omega arith);
      below = λ g l. ⊎_elim (λ q. r.below g q) (λ q. let k : n ≡ g = omega arith in coefficient-above p 0 n r.terms g r.normal q ∙ sym z ∙ ap (λ x. f x % p) k) (cases_lt g n);
    })
    (λ nz. record {
      terms = r.terms ++ (n, f n % p) ∷ [];
      normal = let w = IsNormalWithin_push p 0 n n (f n % p) r.terms r.normal (omega arith) (omega arith) (omega arith) in subst (λ (k : ℕ). IsNormalWithin p 0 k (r.terms ++ (n, f n % p) ∷ [])) (let e : n + 1 ≡ suc n = omega arith in e) w;
      below = λ g l. coefficient-append r.terms ((n, f n % p) ∷ []) g ∙ ⊎_elim
          (λ q. ap (λ b. coefficient r.terms g + (cond b (f n % p) 0 + 0)) (ne_eqb n g (omega arith)) ∙ add_none (coefficient r.terms g) ∙ r.below g q)
          (λ q. let k : n ≡ g = omega arith in ap (λ b. coefficient r.terms g + (cond b (f n % p) 0 + 0)) (eq-eqb n g k) ∙ ap (λ x. x + (f n % p + 0)) (coefficient-above p 0 n r.terms g r.normal q) ∙ add_first (f n % p) ∙ ap (λ x. f x % p) k)
          (cases_lt g n);
    })
    (cases_eq (f n % p) 0)
  where
    add_none : (a : ℕ) → a + (0 + 0) ≡ a
    add_none a = omega arith

    add_first : (a : ℕ) → 0 + (a + 0) ≡ a
    add_first a = omega arith

listed_same : (p n : ℕ) (f : ℕ → ℕ) (one : 1 ≤ p) (g : ℕ) → g < n → Same p (coefficient (listed_below p n f one).terms g) (f g)
listed_same p n f one g l = record { same = ap (λ x. x % p) ((listed_below p n f one).below g l) ∙ mod-mod (f g) p }

listed_past : (p n : ℕ) (f : ℕ → ℕ) (one : 1 ≤ p) (g : ℕ) → n ≤ g → coefficient (listed_below p n f one).terms g ≡ 0
listed_past p n f one g l = coefficient-above p 0 n (listed_below p n f one).terms g (listed_below p n f one).normal l

-- ---- the complex of a list of cells

boundary_terms : (p : ℕ) → 1 ≤ p → List (List Factor) → List Factor → List (ℕ × ℕ)
boundary_terms p one V q = (listed_below p (length V) (λ g. boundary_coefficient p q (cell_at V g)) one).terms

pub complex_for : (p : ℕ) → 1 ≤ p → List (List Factor) → ChainComplex
complex_for p one V = record { degrees = map dimension_of V; boundaries = map (boundary_terms p one V) V }

pub is_complex_for : (p : ℕ) (one : 1 ≤ p) (V : List (List Factor)) → length V < 2 ^ 32 → IsComplexOf p V (complex_for p one V)
unfolding complex_for boundary_terms
is_complex_for p one V few = record {
  degrees = refl;
  count = length-map V (boundary_terms p one V);
  short = few;
  normal = λ h l. subst (λ (ts : List (ℕ × ℕ)). IsNormal p ts) (sym (at h l)) (widened p 0 (length V) (2 ^ 32) (boundary_terms p one V (cell_at V h)) (listed_below p (length V) (λ g. boundary_coefficient p (cell_at V h) (cell_at V g)) one).normal (omega arith));
  incidences = λ h g l. same_trans (exact p (ap (λ (ts : List (ℕ × ℕ)). coefficient ts g) (at h l))) (⊎_elim
      (λ q. listed_same p (length V) (λ g. boundary_coefficient p (cell_at V h) (cell_at V g)) one g q)
      (λ q. exact p (listed_past p (length V) (λ g. boundary_coefficient p (cell_at V h) (cell_at V g)) one g q ∙ sym (ap (boundary_coefficient p (cell_at V h)) (get_or_past V g [] q) ∙ coefficient-past p (cell_at V h))))
      (cases_lt g (length V)));
}
  where
    at : (h : ℕ) → h < length V → get_or (map (boundary_terms p one V) V) h [] ≡ boundary_terms p one V (cell_at V h)
    at h l = get_or-map (boundary_terms p one V) V h [] [] l

-- ---- what steps leave

pub unpaired_or : (ss : List Step) (g : ℕ) → IsUnpaired ss g ⊎ (IsUnpaired ss g → ⊥)
unpaired_or [] g = inl tt
unpaired_or (s ∷ ss) g = ⊎_elim
    (λ e. inr (λ w. w.0 e))
    (λ f. ⊎_elim (λ e. inr (λ w. w.1 e)) (λ h. ⊎_elim (λ u. inl (f, h, u)) (λ n. inr (λ w. n w.2)) (unpaired_or ss g)) (cases_eq g s.b))
    (cases_eq g s.a)

-- a vertex below n that the steps leave, or there is none
vertex_below : (K : ChainComplex) (ss : List Step) (n : ℕ) → ((g : ℕ) × (g < n) × (get_or K.degrees g 0 ≡ 0) × IsUnpaired ss g) ⊎ ((g : ℕ) → g < n → get_or K.degrees g 0 ≡ 0 → IsUnpaired ss g → ⊥)
vertex_below K ss zero = inr (λ g l. absurd (omega arith))
vertex_below K ss (suc n) = ⊎_elim
    (λ w. inl (w.0, (omega (arith, w.1)), w.2, w.3))
    (λ none. ⊎_elim
    (λ d. ⊎_elim
    (λ u. inl (n, (omega arith), d, u))
    (λ f. inr (more none (λ _ u. f u)))
    (unpaired_or ss n))
    (λ f. inr (more none (λ d _. f d)))
    (cases_eq (get_or K.degrees n 0) 0))
    (vertex_below K ss n)
  where
    more : ((g : ℕ) → g < n → get_or K.degrees g 0 ≡ 0 → IsUnpaired ss g → ⊥) → (get_or K.degrees n 0 ≡ 0 → IsUnpaired ss n → ⊥) → (g : ℕ) → g < suc n → get_or K.degrees g 0 ≡ 0 → IsUnpaired ss g → ⊥
    more none here g l d u = ⊎_elim
        (λ q. none g q d u)
        (λ q. let k : g ≡ n = omega arith in here (sym (ap (λ x. get_or K.degrees x 0) k) ∙ d) (subst (λ (x : ℕ). IsUnpaired ss x) k u))
        (cases_lt g n)

lower_of_two : (K : ChainComplex) (best : Option ℕ) (g : ℕ) → (r : ℕ) × IsLower K best g r
lower_of_two K None g = (g, refl)
lower_of_two K (Some t) g = ⊎_elim
    (λ l. (g, inr (refl, (omega arith))))
    (λ l. (t, inl (refl, l)))
    (cases_lt (get_or K.degrees g 0) (get_or K.degrees t 0))

best_below : (K : ChainComplex) (ss : List Step) (u n : ℕ) → (best : Option ℕ) × IsBestBelow K ss u n best
best_below K ss u zero = (None, (λ g l. absurd (omega arith)))
best_below K ss u (suc n) =
    let b = best_below K ss u n in
    let to : (best : Option ℕ) → IsBestBelow K ss u (n + 1) best → IsBestBelow K ss u (suc n) best = λ best h. subst (λ (k : ℕ). IsBestBelow K ss u k best) (let e : n + 1 ≡ suc n = omega arith in e) h in
    ⊎_elim
    (λ e. (b.0, to b.0 (best_same K ss u n b.0 b.1 (inr e))))
    (λ other. ⊎_elim
    (λ left. let r = lower_of_two K b.0 n in (Some r.0, to (Some r.0) (best_lower K ss u n r.0 b.0 b.1 left other r.1)))
    (λ f. (b.0, to b.0 (best_same K ss u n b.0 b.1 (inl f))))
    (unpaired_or ss n))
    (cases_eq n u)

-- ---- the decision

module _ (p : ℕ) (V : List (List Factor)) (K : ChainComplex) (ss : List Step) (two : 2 ≤ p) (cl : IsCellList V) (ck : IsComplexOf p V K) (st : AreStepsOf p K ss) (done : NothingLeft p K ss) where
  one : 1 ≤ p
  one = omega arith

  hole_beside : (u t : ℕ) → IsLeftVertex K ss u → IsFirstLeft K ss u t → SomeHole p V
  hole_beside u t lv fl =
      let Z : ℕ → ℕ = include_of p K ss (less_vertex p K u t) in
      let W : ℕ → ℕ = λ g. project_of p K ss (single g) t in
      let z = listed_below p (length V) Z one in
      let w = listed_below p (length V) W one in
      let d = dimension_of (cell_at V t) in
      let h : IsHole p V d (by_cell V Z) (by_cell V W) = left_generators_are_holes p V K ss two cl ck st done u t lv fl in
      let ez = by_cell_same p V (coefficient z.terms) Z (λ g l. listed_same p (length V) Z one g l) in
      let ew = by_cell_same p V (coefficient w.terms) W (λ g l. listed_same p (length V) W one g l) in
      record {
        hole = Class d z.terms w.terms;
        of_cells = (
          hole_same p V d (by_cell V Z) (by_cell V W) (by_cell V (coefficient z.terms)) (by_cell V (coefficient w.terms)) ez ew h,
          (λ g l. exact p (listed_past p (length V) Z one g l)),
          (λ g l. exact p (listed_past p (length V) W one g l)),
        );
        normal = (widened p 0 (length V) (2 ^ 32) z.terms z.normal (omega (arith, ck.short)), widened p 0 (length V) (2 ^ 32) w.terms w.normal (omega (arith, ck.short)));
      }

  beside : (u : ℕ) → IsLeftVertex K ss u → (best : Option ℕ) → IsBestBelow K ss u (length K.boundaries) best → IsAcyclic p V ⊎ SomeHole p V
  beside u lv None b =
      let lone : LeaveVertex p K ss u = record { made = st; inside = lv.inside; lowest = lv.lowest; left = lv.left; alone = b } in
      inl (contractions_are_acyclic p V u (λ m. homotopy_of p K ss (single m)) cl (last_vertices_contract p V K ss u two cl ck lone))
  beside u lv (Some t) b = inr (hole_beside u t lv (record { inside = b.0; left = b.1; other = b.2; first = b.3 }))

  decided : IsAcyclic p V ⊎ SomeHole p V
  decided = ⊎_elim
      (λ w. let best = best_below K ss w.0 (length K.boundaries) in beside w.0 (record { inside = w.1; lowest = w.2; left = w.3 }) best.0 best.1)
      (λ none. inr (record { hole = Empty; normal = tt; of_cells = some_vertex_is_left p V K ss two cl ck st (λ g l d u. none g (omega (arith, l, ck.count)) (ap (λ ds. get_or ds g 0) ck.degrees ∙ get_or-map dimension_of V g [] 0 l ∙ d) u) }))
      (vertex_below K ss (length K.boundaries))

pub acyclic_or_hole : AcyclicOrHole
acyclic_or_hole p V field cl few =
    let two : 2 ≤ p = field.above_one in
    let one : 1 ≤ p = omega arith in
    let K : ChainComplex = complex_for p one V in
    let ck : IsComplexOf p V K = is_complex_for p one V few in
    let r = reductions_exist p K field (cx p V K [] two cl ck tt) in
    decided p V K r.steps two cl ck r.made r.nothing

-- ---- holes and values

pub holes_have_one_degree : HolesHaveOneDegree
holes_have_one_degree p x k l z w y v two h g = ⊎_elim
    (λ less. absurd (hole_not_null p x k z w two (g.least k z less h.cycle) h))
    (λ ge. ⊎_elim
    (λ less. absurd (hole_not_null p x l y v two (h.least l y less g.cycle) g))
    (λ le. omega (arith, ge, le))
    (cases_lt l k))
    (cases_lt k l)

length-filtered : {X : Type 0} (test : X → Bool) (xs : List X) → length (filter test xs) ≤ length xs
length-filtered test [] = omega arith
length-filtered test (x ∷ xs) = elim (test x) as (λ b. length (cond b (x ∷ filter test xs) (filter test xs)) ≤ suc (length xs)) [
  | true ↦ omega (arith, length-filtered test xs)
  | false ↦ omega (arith, length-filtered test xs)
]

pub values_are_decided : ValuesAreDecided
values_are_decided p map domain range s field into few here =
    let V = value_list map domain range s in
    let is = value_list_is map domain range s (λ g h. value_inside map domain domain range (λ q w. w) into s g here h) in
    let closed : IsCellList V = record { sorted = is.sorted; closed = λ q r f w. (is.cells r).1 (value_to map domain s r (values_closed map domain s q r f (value_from map domain s q ((is.cells q).0 w)))) } in
    record {
      value = V;
      is = is;
      decided = acyclic_or_hole p V field closed (omega (arith, length-filtered (in_value map domain s) (cells_of range), few));
    }
