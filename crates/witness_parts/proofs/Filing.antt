-- Chains by the numbers of a file, from chains by other numbers.
use Rattle.std.proofs.Common.{◌≡◌, ℕ, suc, ◌+◌, ◌-◌, ◌<◌, ◌≤◌, ◌^◌, ◌%◌, refl, sym, ap, ◌∙◌, arith, ⊎_elim, List, [], ◌∷◌, ◌++◌, length, get_or, take, Bool, true, false, cond, eqb, eq-eqb, ne_eqb, subst}
use Rattle.std.specs.List.{Contains}
use Rattle.std.specs.List.Sorted.{IsStrictlySortedBy}
use Rattle.std.specs.Prelude.{nat_lt}
use Rattle.std.proofs.lemmas.Bool.{cases_lt, cases_eq, le-ltb}
use Rattle.std.proofs.lemmas.List.{take_more, map-append, get_or_default}
use Rattle.std.proofs.lemmas.List.Sums.{passes_at_first}
use native.Mathlib.Nat.{mod-mod}
use Rattle.field_mod.specs.Modular.{Same, NonZero}
use Rattle.field_mod.proofs.Modular.{same_refl, same_trans}
use Rattle.elem_cubes.specs.Cells.{Factor, same_cell}
use Rattle.elem_cubes.specs.Order.{cell_cmp}
use Rattle.elem_cubes.specs.OrderLemmas.{cell_refl, cell_cases}
use Rattle.elem_cubes.specs.Laws.{cell_at}
use Rattle.elem_cubes.proofs.Modular.{exact}
use Rattle.chains.specs.Terms.{coefficient, IsNormal, IsNormalWithin}
use Rattle.chains.proofs.TermLists.{lowered, widened, coefficient-lt, one_list, named_at, number_at}
use Rattle.algebraic_reduction.proofs.Residues.{same_zero}
use Rattle.homology_basis.proofs.Beginning.{same_small}
use Rattle.homology_basis.specs.Bases.{BasisOfLog, IsBasisWithContraction, in_degree, homotopy_in}
use Rattle.cube_sets.specs.Sorted.{has}
use Rattle.cell_complex.specs.Numbering.{IsListing, by_cell, number_of}
use Rattle.cell_complex.proofs.Deciding.{cell_true}
use Rattle.cell_complex.proofs.Numbering.{number_at as listed_number}
use Rattle.cell_complex.proofs.Sorting.{number_below}
use Rattle.chain_selector.specs.Renumbered.{IsRenumbered}
use Rattle.chain_selector.proofs.OtherNumbers.{sorted_listing, by_cell-past}
use Rattle.witness_laws.specs.Parts.{AreTerms, NameCells, chain_of, nth}
use Rattle.witness_parts.specs.Filed.{IsFiled, AreFiled, from_one}

-- a cell that stands at a place is in the list
found : (cells : List (List Factor)) (q : List Factor) (i : ℕ) → i < length cells → cell_at cells i ≡ q → Contains cells q
found cells q i within at = (i, within, get_or_default cells i q [] within ∙ at)

-- ---- numbers one more

shifted : (p low high : ℕ) (ts : List (ℕ × ℕ)) → IsNormalWithin p low high ts → IsNormalWithin p (low + 1) (high + 1) (from_one ts)
shifted p low high [] h = omega arith
shifted p low high (t ∷ ts) h = ((let l = h.0 in omega (arith, l)), h.1, h.2, shifted p (t.0 + 1) high ts h.3)

narrowed : (p low high m : ℕ) (ts : List (ℕ × ℕ)) → IsNormalWithin p low high ts → ((g : ℕ) → m ≤ g → coefficient ts g ≡ 0) → low ≤ m → IsNormalWithin p low m ts
narrowed p low high m [] h none l = l
narrowed p low high m (t ∷ ts) h none l =
    let b : t.0 < m = ⊎_elim (λ q. q)
    (λ q. absurd (let z : cond (eqb t.0 t.0) t.1 0 + coefficient ts t.0 ≡ 0 = none t.0 q in let e : cond (eqb t.0 t.0) t.1 0 ≡ t.1 = ap (λ v. cond v t.1 0) (eq-eqb t.0 t.0 refl) in let k = h.1 in omega (arith, z, e, k)))
    (cases_lt t.0 m) in
    (h.0, h.1, h.2, narrowed p (t.0 + 1) high m ts h.3 (λ g q. let z : cond (eqb t.0 g) t.1 0 + coefficient ts g ≡ 0 = none g q in omega (arith, z)) (omega (arith, b)))

-- what is made of the terms is their list
pub shifted_list : (p : ℕ) (ts us : List (ℕ × ℕ)) → 1 ≤ p → IsNormal p ts → ((g : ℕ) → 4096 ≤ g → coefficient ts g ≡ 0) → IsNormal p us
    → ((g : ℕ) → coefficient us g ≡ coefficient (from_one ts) g % p) → us ≡ from_one ts
shifted_list p ts us one normal none made same =
    let n : IsNormalWithin p 1 4097 (from_one ts) = shifted p 0 4096 ts (narrowed p 0 (2 ^ 32) 4096 ts normal none (omega arith)) in
    let w : IsNormal p (from_one ts) = widened p 0 4097 (2 ^ 32) (from_one ts) (lowered p 1 0 4097 (from_one ts) n (omega arith)) (omega arith) in
    one_list p 0 (2 ^ 32) us (from_one ts) made w (λ g. same_small p (coefficient us g) (coefficient (from_one ts) g) (coefficient-lt p 0 (2 ^ 32) us g (omega (arith, one)) made)
    (coefficient-lt p 0 (2 ^ 32) (from_one ts) g (omega (arith, one)) w) (same_trans (exact p (same g)) (record { same = mod-mod (coefficient (from_one ts) g) p })))

-- one more term
pub shifted_more : (ts now new : List (ℕ × ℕ)) (i number c : ℕ) → i < length ts → ◌≡◌ {A = ℕ × ℕ} (number, c) (get_or ts i (0, 0)) → new ≡ now ++ (number + 1, c) ∷ [] → now ≡ from_one (take i ts) → new ≡ from_one (take (i + 1) ts)
shifted_more ts now new i number c l e a b =
    a ∙ ap (λ (us : List (ℕ × ℕ)). us ++ (number + 1, c) ∷ []) b ∙ ap (λ (t : ℕ × ℕ). from_one (take i ts) ++ (t.0 + 1, t.1) ∷ []) e
    ∙ sym (map-append (λ (t : ℕ × ℕ). (t.0 + 1, t.1)) (take i ts) (get_or ts i (0, 0) ∷ [])) ∙ ap from_one (sym (take_more ts i (0, 0) l))

pub small_number : (ts : List (ℕ × ℕ)) (number c : ℕ) → ((g : ℕ) → 4096 ≤ g → coefficient ts g ≡ 0) → coefficient ts number ≡ c → 0 < c → number < 4096
small_number ts number c none e pos = ⊎_elim (λ l. l) (λ l. absurd (let z = none number l in omega (arith, z, e, pos))) (cases_lt number 4096)

-- ---- such a chain of cells

normal_terms : (p low high : ℕ) (ts : List (ℕ × ℕ)) → IsNormalWithin p low high ts → AreTerms p low ts
normal_terms p low high [] h = tt
normal_terms p low high (t ∷ ts) h = (h.0, h.1, h.2, normal_terms p (t.0 + 1) high ts h.3)

lower_terms : (p low m : ℕ) (ts : List (ℕ × ℕ)) → AreTerms p low ts → m ≤ low → AreTerms p m ts
lower_terms p low m [] h l = tt
lower_terms p low m (t ∷ ts) h l = ((let k = h.0 in omega (arith, k, l)), h.1, h.2, h.3)

name_all : (all : List (List Factor)) (P : List Factor → Type 0) (ts : List (ℕ × ℕ)) → ((i : ℕ) → i < length ts → ((get_or ts i (0, 0)).0 < length all) × P (cell_at all (get_or ts i (0, 0)).0)) → NameCells all P (from_one ts)
name_all all P [] h = tt
name_all all P (t ∷ ts) h =
    let w = h 0 (omega arith) in
    let e : t.0 ≡ t.0 + 1 - 1 = omega arith in
    ((omega arith), (let l = w.0 in omega (arith, l)), subst (λ (k : ℕ). P (cell_at all k)) e w.1, name_all all P ts (λ i l. h (suc i) (omega (arith, l))))

module _ (p : ℕ) (of all : List (List Factor)) (cs ts : List (ℕ × ℕ)) (one : 1 ≤ p) (r : IsRenumbered p of all cs ts) (s : IsStrictlySortedBy cell_cmp all)
    (inside : (q : List Factor) → Contains of q → Contains all q) where
  abbrev c : List Factor → ℕ
  c = by_cell of (coefficient cs)

  numbers_are : (g : ℕ) → g < length all → number_of all (cell_at all g) ≡ g
  numbers_are g l = listed_number (has cell_cmp all) all (sorted_listing all s) g l

  there : (q : List Factor) → number_of all q < length all → cell_at all (number_of all q) ≡ q
  there q l = sym (cell_true q (cell_at all (number_of all q)) (passes_at_first (same_cell q) all [] l))

  same_number : (g : ℕ) (q : List Factor) → g < length all → same_cell (cell_at all g) q ≡ eqb g (number_of all q)
  same_number g q l = ⊎_elim
      (λ e. ap (λ u. same_cell (cell_at all u) q) e ∙ ap (λ u. same_cell u q) (there q (let l' : g < length all = l in omega (arith, l', e))) ∙ cell_refl q ∙ sym (eq-eqb g (number_of all q) e))
      (λ n. ⊎_elim (λ e. absurd (n (sym (numbers_are g l) ∙ ap (number_of all) e))) (λ f. f) (cell_cases (cell_at all g) q) ∙ sym (ne_eqb g (number_of all q) n))
      (cases_eq g (number_of all q))

  at_number : (us : List (ℕ × ℕ)) (q : List Factor) → ((i : ℕ) → i < length us → (get_or us i (0, 0)).0 < length all) → chain_of all (from_one us) q ≡ coefficient us (number_of all q)
  at_number [] q h = refl
  at_number (u ∷ us) q h =
      let e : u.0 + 1 - 1 ≡ u.0 = omega arith in
      ap (λ (k : ℕ). cond (same_cell (cell_at all k) q) u.1 0 + chain_of all (from_one us) q) e
      ∙ ap (λ v. cond v u.1 0 + chain_of all (from_one us) q) (same_number u.0 q (h 0 (omega arith)))
      ∙ ap (λ v. cond (eqb u.0 (number_of all q)) u.1 0 + v) (at_number us q (λ i l. h (suc i) (omega (arith, l))))

  low : (i : ℕ) → i < length ts → (get_or ts i (0, 0)).0 < length all
  low i l =
      let n = named_at p 0 (2 ^ 32) ts i r.normal l in
      ⊎_elim (λ q. q) (λ q. absurd (let z = r.within (get_or ts i (0, 0)).0 q in let k = n.1 in let e = n.2 in omega (arith, z, k, e))) (cases_lt (get_or ts i (0, 0)).0 (length all))

  named : (i : ℕ) → i < length ts → NonZero p (c (cell_at all (get_or ts i (0, 0)).0))
  named i l z =
      let n = named_at p 0 (2 ^ 32) ts i r.normal l in
      let v = number_at p 0 (2 ^ 32) ts i r.normal l in
      let g : ℕ = (get_or ts i (0, 0)).0 in
      let m : Same p (coefficient ts g) 0 = same_trans (r.at g (low i l)) z in
      let e : coefficient ts g ≡ 0 = same_zero p (coefficient ts g) (let f = n.2 in omega (arith, f, v)) m in
      let f = n.2 in let k = n.1 in omega (arith, e, f, k)

  pub filed : IsFiled p all c (from_one ts)
  filed = record {
    terms = lower_terms p 1 0 (from_one ts) (normal_terms p 1 (2 ^ 32 + 1) (from_one ts) (shifted p 0 (2 ^ 32) ts r.normal)) (omega arith);
    names = name_all all (λ q. NonZero p (c q)) ts (λ i l. (low i l, named i l));
    same = λ q. same_trans (exact p (at_number ts q low)) (⊎_elim
        (λ l. same_trans (r.at (number_of all q) l) (exact p (ap c (there q l))))
        (λ l. exact p (r.within (number_of all q) l ∙ sym (outside q l)))
        (cases_lt (number_of all q) (length all)));
  }
    where
      outside : (q : List Factor) → length all ≤ number_of all q → c q ≡ 0
      outside q l = ⊎_elim
          (λ m. absurd (let e : cell_at of (number_of of q) ≡ q = sym (cell_true q (cell_at of (number_of of q)) (passes_at_first (same_cell q) of [] m)) in
          let b = number_below all q (inside q (found of q (number_of of q) m e)) in omega (arith, b, l)))
          (λ m. by_cell-past of (coefficient cs) q m)
          (cases_lt (number_of of q) (length of))

-- the same of a chain that is the same modulo p
pub filed_same : (p : ℕ) (all : List (List Factor)) (c d : List Factor → ℕ) (ts : List (ℕ × ℕ)) → ((q : List Factor) → Same p (c q) (d q)) → IsFiled p all c ts → IsFiled p all d ts
filed_same p all c d ts h f = record {
  terms = f.terms;
  names = go ts f.names;
  same = λ q. same_trans (f.same q) (h q);
}
  where
    go : (us : List (ℕ × ℕ)) → NameCells all (λ q. NonZero p (c q)) us → NameCells all (λ q. NonZero p (d q)) us
    go [] w = tt
    go (u ∷ us) w = (w.0, w.1, (λ z. w.2 (same_trans (h (cell_at all (u.0 - 1))) z)), go us w.3)

-- ---- what a basis has names its generators alone

pub exact_none : (p n : ℕ) (ts : List (ℕ × ℕ)) → 2 ≤ p → IsNormal p ts → ((g : ℕ) → n ≤ g → Same p (coefficient ts g) 0) → (g : ℕ) → n ≤ g → coefficient ts g ≡ 0
exact_none p n ts two normal h g l = same_zero p (coefficient ts g) (coefficient-lt p 0 (2 ^ 32) ts g (omega (arith, two)) normal) (h g l)

pub by_cell_same : (p : ℕ) (cells : List (List Factor)) (c d : ℕ → ℕ) → ((g : ℕ) → Same p (c g) (d g)) → (q : List Factor) → Same p (by_cell cells c q) (by_cell cells d q)
by_cell_same p cells c d h q = go (nat_lt (number_of cells q) (length cells))
  where
    go : (b : Bool) → Same p (cond b (c (number_of cells q)) 0) (cond b (d (number_of cells q)) 0)
    go true = h (number_of cells q)
    go false = same_refl p 0

module _ (p n : ℕ) (b : BasisOfLog) (w : IsBasisWithContraction p b) (count : length b.log.complex.boundaries ≡ n) where
  past : (g : ℕ) → n ≤ g → nat_lt g (length b.log.complex.boundaries) ≡ false
  past g l = le-ltb g (length b.log.complex.boundaries) (omega (arith, count, l))

  pub cycle_none : (k j : ℕ) (ts : List (ℕ × ℕ)) → j < length (in_degree b.cycles k) → ts ≡ get_or (in_degree b.cycles k) j [] → (g : ℕ) → n ≤ g → Same p (coefficient ts g) 0
  cycle_none k j ts l e g m = same_trans (exact p (ap (λ (us : List (ℕ × ℕ)). coefficient us g) e)) (((w.cycles k).cycles j l).chain.on g (past g m))

  pub cocycle_none : (k j : ℕ) (ts : List (ℕ × ℕ)) → j < length (in_degree b.cycles k) → ts ≡ get_or (in_degree b.cocycles k) j [] → (g : ℕ) → n ≤ g → Same p (coefficient ts g) 0
  cocycle_none k j ts l e g m = same_trans (exact p (ap (λ (us : List (ℕ × ℕ)). coefficient us g) e)) (((w.cocycles k).cochains j (let c = (w.cocycles k).count in omega (arith, c, l))).on g (past g m))

  pub row_none : (s : ℕ) (ts : List (ℕ × ℕ)) → s < n → ((x : ℕ) → Same p (coefficient ts x) (homotopy_in p b s x)) → (g : ℕ) → n ≤ g → Same p (coefficient ts g) 0
  row_none s ts l h g m = same_trans (h g) ((w.contraction.raises s (omega (arith, count, l))).on g (past g m))

-- the chains that contract, cell by cell of the relative cells
pub rows_are : (p : ℕ) (b : BasisOfLog) (test : List Factor → Bool) (all others cells rel : List (List Factor)) (rows : List (List (ℕ × ℕ))) → all ≡ others → cells ≡ rel → IsListing test cells
    → AreFiled p all (length cells) (λ s. by_cell cells (homotopy_in p b s)) rows → AreFiled p others (length rel) (λ i. by_cell cells (homotopy_in p b (number_of cells (cell_at rel i)))) rows
rows_are p b test all others cells rel rows e f l w = record {
  count = w.count ∙ ap length f;
  at = λ i m.
      let m' : i < length cells = (let k = ap length f in omega (arith, k, m)) in
      let n : number_of cells (cell_at rel i) ≡ i = ap (λ (r : List (List Factor)). number_of cells (cell_at r i)) (sym f) ∙ listed_number test cells l i m' in
      subst (λ (s : ℕ). IsFiled p others (by_cell cells (homotopy_in p b s)) (nth rows i)) (sym n) (subst (λ (q : List (List Factor)). IsFiled p q (by_cell cells (homotopy_in p b i)) (nth rows i)) e (w.at i m'));
}
