-- The classes of all generators that are left, where no boundary is left, are a basis with its cocycles and its contraction.
use Rattle.std.proofs.Common.{◌≡◌, ℕ, ◌+◌, ◌*◌, ◌<◌, ◌≤◌, ◌==◌, if◌then◌else◌, sym, ◌∙◌, arith, ⊎_elim, List, [], length, get_or, map, Bool, true, subst}
use Rattle.std.proofs.lemmas.Bool.{cases_lt}
use Rattle.std.proofs.lemmas.List.{length-map}
use Rattle.std.proofs.lemmas.List as lists
use Rattle.std.proofs.Math.ListN as maths
use Rattle.field_mod.specs.Sums.{total}
use Rattle.field_mod.specs.Modular.{Same}
use Rattle.chains.specs.Terms.{coefficient, product, nth_chain, IsNormal}
use Rattle.chains.specs.Homology.{IsChain, IsBasis, combination}
use Rattle.chains.specs.ChainComplex.{ChainComplex, IsComplex, IsBasisOf, system, incidence, boundary}
use Rattle.chains.proofs.Numbered.{is_boundary_operator}
use Rattle.algebraic_reduction.specs.Reduction.{single, Step}
use Rattle.algebraic_reduction.specs.Laws.{IsReduction, IsLeft, NothingLeft, include_of, project_of, homotopy_of}
use Rattle.algebraic_reduction.proofs.LeftBasis.{left_generators}
use Rattle.homology_basis.specs.Bases.{BasisOfLog, in_degree, BeginsWithOne, AreDualCocycles, IsContraction, IsBasisByCycles, IsBasisWithContraction, AreInclusions}
use Rattle.homology_basis.specs.Classes.{ClassOf, AreClassesBelow, AreClasses, cycles_of, cocycles_of}
use Rattle.homology_basis.proofs.Scaled.{scaled_basis}
use Rattle.homology_basis.proofs.Dual.{is_cochain, product_cycle, product_boundary}
use Rattle.algebraic_reduction.proofs.Singles.{single_chain}
use Rattle.homology_basis.proofs.Contracting.{contracts}

-- u and a are the numbers of a class
record Factors (p : ℕ) (K : ChainComplex) (ss : List Step) (wanted : Bool) (c : ClassOf) (u a : ℕ) : Type 0 where
  pub inverse : Same p (u * a) 1
  pub cycle : (g : ℕ) → Same p (coefficient c.cycle g) (u * include_of p K ss (single c.generator) g)
  pub cocycle : wanted ≡ true → (g : ℕ) → g < length K.boundaries → Same p (coefficient c.cocycle g) (a * project_of p K ss (single g) c.generator)

-- a class that is read past the end of a list
abbrev pub no_class : ClassOf
no_class = record { generator = 0; cycle = []; cocycle = [] }

module _ (p k : ℕ) (K : ChainComplex) (ss : List Step) (wanted : Bool) (two : 2 ≤ p) (cx : IsComplex p K) (r : IsReduction p K ss) (done : NothingLeft p K ss) (cs : List ClassOf) (w : AreClassesBelow p K ss wanted (length K.boundaries) k cs) where
  abbrev pub class : ℕ → ClassOf
  class i = get_or cs i no_class

  abbrev pub at : ℕ → ℕ
  at i = (class i).generator

  abbrev pub cycles : List (List (ℕ × ℕ))
  cycles = map (λ c. c.cycle) cs

  abbrev pub cocycles : List (List (ℕ × ℕ))
  cocycles = map (λ c. c.cocycle) cs

  once : (i j : ℕ) → i < length cs → j < length cs → at i ≡ at j → i ≡ j
  once i j q r e = ⊎_elim
      (λ l. absurd (let s = w.ascending i j no_class l r in omega arith))
      (λ g. ⊎_elim
      (λ l. absurd (let s = w.ascending j i no_class l q in omega arith))
      (λ h. omega arith)
      (cases_lt j i))
      (cases_lt i j)

  pub left : IsLeft K k ss (length cs) at
  left = record {
    inside = λ i q. (w.each i no_class q).inside;
    of_degree = λ i q. w.of_degree i no_class q;
    unpaired = λ i q. (w.each i no_class q).unpaired;
    once = once;
    all = λ g l e u. w.all g no_class l l e u;
  }

  picked : (i : ℕ) → (u : ℕ) × (a : ℕ) × (i < length cs → Factors p K ss wanted (class i) u a)
  picked i = ⊎_elim
      (λ q. let e = w.each i no_class q in (e.multiple, e.first, λ _. record { inverse = e.inverse; cycle = e.cycle; cocycle = e.cocycle }))
      (λ l. (0, 0, λ q. absurd (omega arith)))
      (cases_lt i (length cs))

  abbrev u : ℕ → ℕ
  u i = (picked i).0

  abbrev a : ℕ → ℕ
  a i = (picked i).1

  factors : (i : ℕ) → i < length cs → Factors p K ss wanted (class i) (u i) (a i)
  factors i q = (picked i).2 q

  cycle_at : (i : ℕ) → i < length cs → get_or cycles i [] ≡ (class i).cycle
  cycle_at i q = lists.get_or-map (λ (c : ClassOf). c.cycle) cs i no_class [] q

  cocycle_at : (i : ℕ) → i < length cs → get_or cocycles i [] ≡ (class i).cocycle
  cocycle_at i q = lists.get_or-map (λ (c : ClassOf). c.cocycle) cs i no_class [] q

  multiple : (i : ℕ) → i < length cs → (g : ℕ) → Same p (nth_chain cycles i g) (u i * include_of p K ss (single (at i)) g)
  multiple i q g = subst (λ (z : List (ℕ × ℕ)). Same p (coefficient z g) (u i * include_of p K ss (single (at i)) g)) (sym (cycle_at i q)) ((factors i q).cycle g)

  pub basis : IsBasisOf p K k cycles
  basis = subst (λ (m : ℕ). IsBasis p (system K) k m (nth_chain cycles)) (sym (length-map cs (λ (c : ClassOf). c.cycle)))
      (scaled_basis p k (length cs) (system K) u a (λ i. include_of p K ss (single (at i))) (nth_chain cycles) (is_boundary_operator p K cx)
      (λ i q. (factors i q).inverse) multiple (left_generators p k (length cs) K ss at two cx r.steps done left))

  pub few : length cycles ≤ length K.boundaries
  few = let e = length-map cs (λ (c : ClassOf). c.cycle) in omega (arith, w.few)

  -- a place of the cycles is one of the classes
  inner : (j : ℕ) → j < length cycles → j < length cs
  inner j q = let e = length-map cs (λ (c : ClassOf). c.cycle) in omega arith

  inner_co : (j : ℕ) → j < length cocycles → j < length cs
  inner_co j q = let e = length-map cs (λ (c : ClassOf). c.cocycle) in omega arith

  pub normal : (j : ℕ) → j < length cycles → IsNormal p (get_or cycles j [])
  normal j q = subst (IsNormal p) (sym (cycle_at j (inner j q))) (w.each j no_class (inner j q)).cycle_normal

  pub first : (j : ℕ) → j < length cycles → BeginsWithOne (get_or cycles j [])
  first j q = subst BeginsWithOne (sym (cycle_at j (inner j q))) (w.each j no_class (inner j q)).begins

  pub dual : wanted ≡ true → AreDualCocycles p K k cycles cocycles
  dual on = record {
    count = length-map cs (λ (c : ClassOf). c.cocycle) ∙ sym (length-map cs (λ (c : ClassOf). c.cycle));
    cochains = λ i q. let l = inner_co i q in let e = w.each i no_class l in
        subst (λ (c : List (ℕ × ℕ)). IsChain p (system K) k (coefficient c)) (sym (cocycle_at i l)) (is_cochain p k (length cs) K ss at two cx r done left (class i).cocycle i (a i) l ((factors i l).cocycle on) (e.cocycle_past on));
    dual = λ i j q q'. let l = inner_co i q in let l' = inner j q' in let e = w.each i no_class l in
        subst (λ (c : List (ℕ × ℕ)). Same p (product c (get_or cycles j [])) (if i == j then 1 else 0)) (sym (cocycle_at i l))
        (subst (λ (z : List (ℕ × ℕ)). Same p (product (class i).cocycle z) (if i == j then 1 else 0)) (sym (cycle_at j l'))
        (product_cycle p k (length cs) K ss at two cx r done left (class i).cocycle (class j).cycle i j (a i) (u j) l l' (e.cocycle_normal on) ((factors i l).cocycle on) (e.cocycle_past on) (factors j l').cycle (λ s. subst (λ (v : ℕ). Same p (u v * a i) 1) s (factors i l).inverse)));
    closed = λ i s q b. let l = inner_co i q in let e = w.each i no_class l in
        subst (λ (c : List (ℕ × ℕ)). Same p (product c (get_or K.boundaries s [])) 0) (sym (cocycle_at i l))
        (product_boundary p k (length cs) K ss at two cx r done left (class i).cocycle i (a i) s b (e.cocycle_normal on) ((factors i l).cocycle on) (e.cocycle_past on));
  }

  pub identity : wanted ≡ true → (s g : ℕ) → s < length K.boundaries → get_or K.degrees s 0 ≡ k
      → Same p (combination (length cycles) (λ i. nth_chain cocycles i s) (nth_chain cycles) g + (boundary K.boundaries (homotopy_of p K ss (single s)) g + total (length K.boundaries) (λ t. incidence K.boundaries s t * homotopy_of p K ss (single t) g))) (single s g)
  identity on s g q e = subst (λ (m : ℕ). Same p (combination m (λ i. nth_chain cocycles i s) (nth_chain cycles) g + (boundary K.boundaries (homotopy_of p K ss (single s)) g + total (length K.boundaries) (λ t. incidence K.boundaries s t * homotopy_of p K ss (single t) g))) (single s g)) (sym (length-map cs (λ (c : ClassOf). c.cycle)))
      (contracts p k (length cs) K ss at cx r left (nth_chain cycles) (nth_chain cocycles) u a s g q e
      (λ i l. (factors i l).inverse) (λ i l. multiple i l g)
      (λ i l. subst (λ (c : List (ℕ × ℕ)). Same p (coefficient c s) (a i * project_of p K ss (single s) (at i))) (sym (cocycle_at i l)) ((factors i l).cocycle on s q)))

  pub inclusions : AreInclusions p K ss k cycles
  inclusions = record {
    at = at;
    left = subst (λ (m : ℕ). IsLeft K k ss m at) (sym (length-map cs (λ (c : ClassOf). c.cycle))) left;
    ascending = λ i j l q. w.ascending i j no_class l (inner j q);
    multiple = u;
    scaled = λ i q. multiple i (inner i q);
    first = first;
  }

cycles_in : (css : List (List ClassOf)) (k : ℕ) → in_degree (cycles_of css) k ≡ map (λ c. c.cycle) (in_degree css k)
cycles_in css k = maths.get_or-map (λ (cs : List ClassOf). map (λ c. c.cycle) cs) css k []

cocycles_in : (css : List (List ClassOf)) (k : ℕ) → in_degree (cocycles_of css) k ≡ map (λ c. c.cocycle) (in_degree css k)
cocycles_in css k = maths.get_or-map (λ (cs : List ClassOf). map (λ c. c.cocycle) cs) css k []

-- what a basis is seen as that keeps these classes
abbrev pub seen : ChainComplex → List Step → List (List ClassOf) → BasisOfLog
seen K ss css = record { log = record { complex = K; steps = ss }; cycles = cycles_of css; cocycles = cocycles_of css }

module _ (p : ℕ) (K : ChainComplex) (ss : List Step) (wanted : Bool) (two : 2 ≤ p) (cx : IsComplex p K) (r : IsReduction p K ss) (done : NothingLeft p K ss) (css : List (List ClassOf)) (w : AreClasses p K ss wanted css) where
  inclusions_of : (k : ℕ) → AreInclusions p K ss k (in_degree (cycles_of css) k)
  inclusions_of k = subst (AreInclusions p K ss k) (sym (cycles_in css k)) (inclusions p k K ss wanted two cx r done (in_degree css k) (w k))

  contraction : wanted ≡ true → IsContraction p K (cycles_of css) (cocycles_of css) (λ g. homotopy_of p K ss (single g))
  contraction on = record {
    raises = λ s q. r.homotopy_degree (get_or K.degrees s 0) (single s) (single_chain p K s q);
    identity = λ s k q e g.
        subst (λ (zs : List (List (ℕ × ℕ))). Same p (combination (length zs) (λ i. nth_chain (in_degree (cocycles_of css) k) i s) (nth_chain zs) g + (boundary K.boundaries (homotopy_of p K ss (single s)) g + total (length K.boundaries) (λ t. incidence K.boundaries s t * homotopy_of p K ss (single t) g))) (single s g)) (sym (cycles_in css k))
        (subst (λ (cs : List (List (ℕ × ℕ))). Same p (combination (length (map (λ c. c.cycle) (in_degree css k))) (λ i. nth_chain cs i s) (nth_chain (map (λ c. c.cycle) (in_degree css k))) g + (boundary K.boundaries (homotopy_of p K ss (single s)) g + total (length K.boundaries) (λ t. incidence K.boundaries s t * homotopy_of p K ss (single t) g))) (single s g)) (sym (cocycles_in css k))
        (identity p k K ss wanted two cx r done (in_degree css k) (w k) on s g q e));
  }

  pub by_cycles : IsBasisByCycles p (record { log = record { complex = K; steps = ss }; cycles = cycles_of css })
  by_cycles = record {
    complex = cx;
    reduction = r;
    nothing_left = done;
    cycles = λ k. subst (IsBasisOf p K k) (sym (cycles_in css k)) (basis p k K ss wanted two cx r done (in_degree css k) (w k));
    few = λ k. subst (λ (zs : List (List (ℕ × ℕ))). length zs ≤ length K.boundaries) (sym (cycles_in css k)) (few p k K ss wanted two cx r done (in_degree css k) (w k));
    normal = λ k. subst (λ (zs : List (List (ℕ × ℕ))). (j : ℕ) → j < length zs → IsNormal p (get_or zs j [])) (sym (cycles_in css k)) (normal p k K ss wanted two cx r done (in_degree css k) (w k));
    first = λ k. subst (λ (zs : List (List (ℕ × ℕ))). (j : ℕ) → j < length zs → BeginsWithOne (get_or zs j [])) (sym (cycles_in css k)) (first p k K ss wanted two cx r done (in_degree css k) (w k));
    inclusions = inclusions_of;
  }

  pub whole : wanted ≡ true → IsBasisWithContraction p (seen K ss css)
  whole on = record {
    complex = cx;
    reduction = r;
    nothing_left = done;
    cycles = by_cycles.cycles;
    few = by_cycles.few;
    normal = by_cycles.normal;
    first = by_cycles.first;
    inclusions = by_cycles.inclusions;
    cocycles = λ k. subst (λ (zs : List (List (ℕ × ℕ))). AreDualCocycles p K k zs (in_degree (cocycles_of css) k)) (sym (cycles_in css k)) (subst (AreDualCocycles p K k (map (λ c. c.cycle) (in_degree css k))) (sym (cocycles_in css k)) (dual p k K ss wanted two cx r done (in_degree css k) (w k) on));
    contraction = contraction on;
  }
