-- The law of the chains of a value, over places and over the witness.
use Rattle.std.proofs.Common.{◌≡◌, ℕ, zero, suc, ◌+◌, ◌*◌, ◌<◌, ◌≤◌, refl, sym, ap, ◌∙◌, arith, ⊎_elim, List, [], ◌∷◌, length, get_or, Bool, true, false, cond, eqb, ne_eqb}
use Rattle.std.proofs.lemmas.Bool.{cases_lt, lt-ltb}
use Rattle.std.proofs.lemmas.List.{get_or_past, get_or-map}
use native.Mathlib.Nat.{mul-zero}
use Rattle.field_mod.specs.Sums.{total}
use Rattle.field_mod.specs.Modular.{Same}
use Rattle.field_mod.proofs.Sums.{total_same, total_none}
use Rattle.field_mod.proofs.Modular.{same_refl, same_sym, same_trans, same-add, same-mul}
use Rattle.elem_cubes.specs.Cells.{Factor, dimension_of}
use Rattle.elem_cubes.specs.Boundary.{boundary_coefficient}
use Rattle.elem_cubes.specs.Laws.{cell_at}
use Rattle.elem_cubes.proofs.Modular.{exact}
use Rattle.chains.specs.Terms.{nth_chain}
use Rattle.chains.specs.ChainComplex.{ChainComplex, boundary, incidence}
use Rattle.cell_complex.proofs.Numbering.{coefficient-past}
use Rattle.acyclic_values.specs.Contractions.{incidence_at, augmentation_at}
use Rattle.algebraic_reduction.specs.Reduction.{single}
use Rattle.witness_laws.specs.declared.law.Law.{Law}
use Rattle.witness_laws.specs.declared.law.Law.TheVariants as laws
use Rattle.witness_laws.specs.declared.law.WitnessFault.TheVariants.{At}
use Rattle.witness_laws.specs.Lines.{filling, each}
use Rattle.witness_laws.specs.Inputs.{Given}
use Rattle.witness_laws.specs.Parts.{chain_of, nth, value_at, range_cells, vertex_of}
use Rattle.witness_laws.specs.Tables.{MapTables, Tables, map_of, holds, filling_of, ValueContractsAt}
use Rattle.witness_sections.specs.Outcomes.{second, AllHold, FailsBy, Meet}
use Rattle.witness_sections.proofs.Lining.{meet_more}
use Rattle.witness_sections.proofs.Loops.{fault_in_row, passed_row}
use Rattle.witness_values.specs.Fillings.{IsValueOf, base, FillsBy, FillingsPassed, IsFillingFault}

module _ (p : ℕ) (K : ChainComplex) (hs : List (List (ℕ × ℕ))) (v : ℕ) (G : Given) (M : MapTables) (i : ℕ) (w : IsValueOf p K hs v G M i) (m : ℕ) (lm : m < length (value_at G i)) where
  abbrev V : List (List Factor)
  V = value_at G i

  abbrev rs : List (List Factor)
  rs = range_cells G

  abbrev fs : List (List (ℕ × ℕ))
  fs = get_or M.fillings i []

  abbrev h : ℕ → ℕ → ℕ
  h = filling_of G M i

  single-past : (j g : ℕ) → j < g → single j g ≡ 0
  single-past j g l = ap (λ b. cond b 1 0) (ne_eqb g j (λ e. omega (arith, e, l)))

  -- a chain at a place of the value
  chain_at : (k t : ℕ) → t < length V → Same p (nth_chain hs k t) (h k t)
  chain_at k t l = same_trans ((w.chains.each k).at t l) (exact p (sym (ap (λ b. cond b (chain_of rs (nth fs k) (cell_at V t)) 0) (lt-ltb t (length V) l))))

  chain_past : (k t : ℕ) → length V ≤ t → nth_chain hs k t ≡ 0
  chain_past k t l = (w.chains.each k).within t l

  incidence_is : (s t : ℕ) → s < length V → Same p (incidence K.boundaries s t) (incidence_at p V s t)
  incidence_is s t l = w.complex.incidences s t l

  incidence_past : (s t : ℕ) → s < length V → length V ≤ t → Same p (incidence K.boundaries s t) 0
  incidence_past s t l past = same_trans (incidence_is s t l) (exact p (ap (boundary_coefficient p (cell_at V s)) (get_or_past V t [] past) ∙ coefficient-past p (cell_at V s)))

  degree_is : get_or K.degrees m 0 ≡ dimension_of (cell_at V m)
  degree_is = ap (λ (ds : List ℕ). get_or ds m 0) w.complex.degrees ∙ get_or-map dimension_of V m [] 0 lm

  base_is : (g : ℕ) → base K.degrees v m g ≡ augmentation_at V m * single (vertex_of G M.vertices i) g
  base_is g = ap (λ d. cond (eqb d 0) (single v g) 0) degree_is ∙ either (eqb (dimension_of (cell_at V m)) 0) ∙ ap (λ u. augmentation_at V m * single u g) w.vertex
    where
      either : (b : Bool) → cond b (single v g) 0 ≡ cond b 1 0 * single v g
      either true = omega arith
      either false = omega arith

  base_past : (g : ℕ) → length V ≤ g → base K.degrees v m g ≡ 0
  base_past g past = either (eqb (get_or K.degrees m 0) 0)
    where
      none : single v g ≡ 0
      none = let l = w.inside in single-past v g (omega (arith, l, past))

      either : (b : Bool) → cond b (single v g) 0 ≡ 0
      either true = none
      either false = refl

  filled : (g : ℕ) → g < length V → Same p (boundary K.boundaries (nth_chain hs m) g) (total (length V) (λ t. h m t * incidence_at p V t g))
  filled g lg = same_trans (exact p (ap (λ n. total n (λ t. nth_chain hs m t * incidence K.boundaries t g)) w.complex.count))
      (total_same p (length V) (λ t. nth_chain hs m t * incidence K.boundaries t g) (λ t. h m t * incidence_at p V t g) (λ t l. same-mul (chain_at m t l) (incidence_is t g l)))

  filled_past : (g : ℕ) → length V ≤ g → Same p (boundary K.boundaries (nth_chain hs m) g) 0
  filled_past g past = same_trans (exact p (ap (λ n. total n (λ t. nth_chain hs m t * incidence K.boundaries t g)) w.complex.count))
      (total_none p (length V) (λ t. nth_chain hs m t * incidence K.boundaries t g) (λ t l. same_trans (same-mul (same_refl p (nth_chain hs m t)) (incidence_past t g l past)) (exact p (mul-zero (nth_chain hs m t)))))

  around : (g : ℕ) → g < length V → Same p (boundary hs (incidence K.boundaries m) g) (total (length V) (λ t. incidence_at p V m t * h t g))
  around g lg = same_trans (exact p (ap (λ n. total n (λ t. incidence K.boundaries m t * incidence hs t g)) (w.chains.count ∙ w.count)))
      (total_same p (length V) (λ t. incidence K.boundaries m t * incidence hs t g) (λ t. incidence_at p V m t * h t g) (λ t l. same-mul (incidence_is m t lm) (chain_at t g lg)))

  around_past : (g : ℕ) → length V ≤ g → Same p (boundary hs (incidence K.boundaries m) g) 0
  around_past g past = total_none p (length hs) (λ t. incidence K.boundaries m t * incidence hs t g) (λ t l. exact p (ap (λ u. incidence K.boundaries m t * u) (chain_past t g past) ∙ mul-zero (incidence K.boundaries m t)))

  whole_is : (g : ℕ) → g < length V → Same p (base K.degrees v m g + (boundary K.boundaries (nth_chain hs m) g + boundary hs (incidence K.boundaries m) g))
      (augmentation_at V m * single (vertex_of G M.vertices i) g + (total (length V) (λ t. h m t * incidence_at p V t g) + total (length V) (λ t. incidence_at p V m t * h t g)))
  whole_is g lg = same-add (exact p (base_is g)) (same-add (filled g lg) (around g lg))

  pub fills_to : FillsBy p K hs v m → ValueContractsAt p V (vertex_of G M.vertices i) h m
  fills_to f g lg = same_trans (same_sym (whole_is g lg)) (f g)

  pub fills_from : ValueContractsAt p V (vertex_of G M.vertices i) h m → FillsBy p K hs v m
  fills_from f g = ⊎_elim
      (λ l. same_trans (whole_is g l) (f g l))
      (λ past. same_trans (same-add (exact p (base_past g past)) (same-add (filled_past g past) (around_past g past))) (exact p (sym (single-past m g (omega (arith, lm, past))))))
      (cases_lt g (length V))

-- ---- lines

nine : length second ≡ 9
nine = refl

module _ (p : ℕ) (G : Given) (W : Tables) (i m : ℕ) where
  abbrev Contracts : Type 0
  Contracts = ValueContractsAt p (value_at G i) (vertex_of G (map_of W).vertices i) (filling_of G (map_of W) i) m

  filling_holds : Contracts → AllHold (holds p G W) (filling i m)
  filling_holds f law _ = every law
    where
      every : (law : Law) → holds p G W law (filling i m)
      every laws.Text = tt
      every laws.Header = tt
      every laws.Cell = tt
      every laws.Cycle = tt
      every laws.Dual = tt
      every laws.Cocycle = tt
      every laws.Contraction = tt
      every laws.ValueContraction = f
      every laws.Carried = tt
      every laws.Augmentation = tt
      every laws.Commutes = tt
      every laws.Matrix = tt

  filling_fails : (Contracts → ⊥) → FailsBy (holds p G W) (filling i m) laws.ValueContraction
  filling_fails f = record { at = 4; inside = omega (arith, nine); named = refl; before = before; here = f }
    where
      before : (j : ℕ) → j < 4 → holds p G W (get_or second j laws.Text) (filling i m)
      before zero l = tt
      before (suc zero) l = tt
      before (suc (suc zero)) l = tt
      before (suc (suc (suc zero))) l = tt
      before (suc (suc (suc (suc j)))) l = absurd (omega (arith, l))

module _ (p : ℕ) (K : ChainComplex) (hs : List (List (ℕ × ℕ))) (v : ℕ) where
  -- the lines so far meet all laws, whatever witness has the value
  abbrev pub FillingsMeet : ℕ → Type 0
  FillingsMeet m = (G : Given) (W : Tables) (i : ℕ) → IsValueOf p K hs v G (map_of W) i → Meet (holds p G W) (each m (λ j. filling i j ∷ []))

  pub fillings_none : FillingsMeet 0
  fillings_none G W i w = tt

  inside : (G : Given) (W : Tables) (i m : ℕ) → IsValueOf p K hs v G (map_of W) i → m < length K.boundaries → m < length (value_at G i)
  inside G W i m w l = let c = w.complex.count in omega (arith, c, l)

  pub fillings_more : (m : ℕ) → m < length K.boundaries → FillsBy p K hs v m → FillingsMeet m → FillingsMeet (m + 1)
  fillings_more m l f so_far G W i w = meet_more (holds p G W) m (λ j. filling i j ∷ []) (so_far G W i w) (filling_holds p G W i m (fills_to p K hs v G (map_of W) i w m (inside G W i m w l) f), tt)

  pub fillings_fault : (m from : ℕ) → m < length K.boundaries → (FillsBy p K hs v m → ⊥) → FillingsMeet m → IsFillingFault p K hs v from (At (from + m) laws.ValueContraction)
  fillings_fault m from l f so_far G W i w = fault_in_row (holds p G W) (filling i) m (length (get_or (map_of W).fillings i [])) from laws.ValueContraction (let c = w.count in let e = inside G W i m w l in omega (arith, c, e)) (so_far G W i w)
      (filling_fails p G W i m (λ c. f (fills_from p K hs v G (map_of W) i w m (inside G W i m w l) c)))

  pub fillings_passed : (m from : ℕ) → m ≡ length K.boundaries → FillingsMeet m → FillingsPassed p K hs v from (from + m)
  fillings_passed m from e so_far G W i w = passed_row (holds p G W) (filling i) m (length (get_or (map_of W).fillings i [])) from (e ∙ w.complex.count ∙ sym w.count) (so_far G W i w)
