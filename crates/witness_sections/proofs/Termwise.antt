-- Chains over the numbers of a file, term by term.
use Rattle.std.proofs.Common.{◌≡◌, ◌≢◌, ℕ, suc, ◌+◌, ◌-◌, ◌%◌, ◌<◌, ◌≤◌, refl, sym, ap, ◌∙◌, subst, arith, ⊎_elim, List, [], ◌∷◌, ◌++◌, length, get_or, take, min, Bool, true, false, cond, eqb, eq-eqb, ne_eqb}
use Rattle.std.specs.List.{Contains}
use Rattle.std.specs.List.Sorted.{IsStrictlySortedBy}
use Rattle.std.proofs.lemmas.Bool.{cases_lt, cases_eq}
use Rattle.std.proofs.lemmas.List.{take_more, take_all, get_or_past, get_or_default, get_or_append_left, length-append, length-take}
use Rattle.std.proofs.lemmas.List.Elements.{Contains-get_or}
use Rattle.std.proofs.Math.Seq.{get_or-append_seam}
use native.Mathlib.Nat.{mod-mod}
use Rattle.field_mod.proofs.Modular.{same_trans}
use Rattle.elem_cubes.specs.Cells.{Factor, same_cell}
use Rattle.elem_cubes.specs.Order.{cell_cmp}
use Rattle.elem_cubes.specs.OrderLemmas.{cell_refl, cell_cases}
use Rattle.elem_cubes.specs.Laws.{cell_at}
use Rattle.elem_cubes.proofs.Modular.{exact}
use Rattle.chains.specs.Terms.{coefficient, IsNormal}
use Rattle.chains.proofs.TermLists.{coefficient-append}
use Rattle.cell_complex.proofs.Sorting.{apart}
use Rattle.witness_laws.specs.Parts.{chain_of}
use Rattle.witness_types.specs.Parts.{beside}
use Rattle.witness_sections.specs.Readings.{IsRead, AreRead, IsNamed, AreNamed}

pub chain-append : (cells : List (List Factor)) (ts us : List (ℕ × ℕ)) (q : List Factor) → chain_of cells (ts ++ us) q ≡ chain_of cells ts q + chain_of cells us q
chain-append cells [] us q = omega arith
chain-append cells (t ∷ ts) us q = omega (arith, chain-append cells ts us q)

-- the terms read from the first terms of a chain
pub record IsReadTo (cells to : List (List Factor)) (cs ts : List (ℕ × ℕ)) : Type 0 where
  pub within : (g : ℕ) → length to ≤ g → coefficient ts g ≡ 0
  pub at : (g : ℕ) → g < length to → coefficient ts g ≡ chain_of cells cs (cell_at to g)

pub read_none : (cells to : List (List Factor)) (cs ts : List (ℕ × ℕ)) → ts ≡ [] → IsReadTo cells to (take 0 cs) ts
read_none cells to cs ts e = record {
  within = λ g l. ap (λ us. coefficient us g) e;
  at = λ g l. ap (λ us. coefficient us g) e;
}

module _ (cells to : List (List Factor)) (st : IsStrictlySortedBy cell_cmp to) where
  step : (cs ts : List (ℕ × ℕ)) (i n v : ℕ) → i < length cs → n ≡ (get_or cs i (0, 0)).0 → v ≡ (get_or cs i (0, 0)).1 → IsReadTo cells to (take i cs) ts → (g : ℕ) → g < length to
      → chain_of cells (take (i + 1) cs) (cell_at to g) ≡ coefficient ts g + (cond (same_cell (cell_at cells (n - 1)) (cell_at to g)) v 0 + 0)
  step cs ts i n v l en ev so_far g lg =
      let term : (n, v) ≡ get_or cs i (0, 0) = λ j. (en j, ev j) in
      ap (λ us. chain_of cells us (cell_at to g)) (take_more cs i (0, 0) l) ∙ chain-append cells (take i cs) (get_or cs i (0, 0) ∷ []) (cell_at to g)
      ∙ ap (λ (t : ℕ × ℕ). chain_of cells (take i cs) (cell_at to g) + chain_of cells (t ∷ []) (cell_at to g)) (sym term)
      ∙ ap (λ k. k + (cond (same_cell (cell_at cells (n - 1)) (cell_at to g)) v 0 + 0)) (sym (so_far.at g lg))

  pub read_more : (cs ts new : List (ℕ × ℕ)) (i n v place : ℕ) → i < length cs → n ≡ (get_or cs i (0, 0)).0 → v ≡ (get_or cs i (0, 0)).1 → place < length to → cell_at to place ≡ cell_at cells (n - 1)
      → new ≡ ts ++ (place, v) ∷ [] → IsReadTo cells to (take i cs) ts → IsReadTo cells to (take (i + 1) cs) new
  read_more cs ts new i n v place l en ev lp at e so_far = record {
    within = λ g past. pushed g ∙ ap (λ b. coefficient ts g + (cond b v 0 + 0)) (ne_eqb place g (λ q. omega (arith, q, lp, past))) ∙ (let z = so_far.within g past in omega (arith, z));
    at = λ g lg. pushed g ∙ ap (λ b. coefficient ts g + (cond b v 0 + 0)) (alike g lg) ∙ sym (step cs ts i n v l en ev so_far g lg);
  }
    where
      pushed : (g : ℕ) → coefficient new g ≡ coefficient ts g + (cond (eqb place g) v 0 + 0)
      pushed g = ap (λ us. coefficient us g) e ∙ coefficient-append ts ((place, v) ∷ []) g

      alike : (g : ℕ) → g < length to → eqb place g ≡ same_cell (cell_at cells (n - 1)) (cell_at to g)
      alike g lg = ⊎_elim
          (λ same. eq-eqb place g same ∙ sym (ap (λ (q : List Factor). same_cell q (cell_at to g)) (sym at ∙ ap (cell_at to) same) ∙ cell_refl (cell_at to g)))
          (λ other. ne_eqb place g other ∙ sym (⊎_elim (λ q. absurd (other (apart to st place g lp lg (at ∙ q)))) (λ f. f) (cell_cases (cell_at cells (n - 1)) (cell_at to g))))
          (cases_eq place g)

  pub read_skip : (cs ts : List (ℕ × ℕ)) (i n v : ℕ) → i < length cs → n ≡ (get_or cs i (0, 0)).0 → v ≡ (get_or cs i (0, 0)).1 → (Contains to (cell_at cells (n - 1)) → ⊥)
      → IsReadTo cells to (take i cs) ts → IsReadTo cells to (take (i + 1) cs) ts
  read_skip cs ts i n v l en ev none so_far = record {
    within = so_far.within;
    at = λ g lg.
        let off : same_cell (cell_at cells (n - 1)) (cell_at to g) ≡ false = ⊎_elim (λ q. absurd (none (subst (λ (r : List Factor). Contains to r) (sym q) (Contains-get_or to g [] lg)))) (λ f. f) (cell_cases (cell_at cells (n - 1)) (cell_at to g)) in
        let s = step cs ts i n v l en ev so_far g lg in
        let z = ap (λ b. cond b v 0 + 0) off in
        omega (arith, s, z);
  }

pub read_end : (p : ℕ) (cells to : List (List Factor)) (cs ts new : List (ℕ × ℕ)) (i : ℕ) → length cs ≤ i → IsReadTo cells to (take i cs) ts → IsNormal p new → ((g : ℕ) → coefficient new g ≡ coefficient ts g % p) → IsRead p cells to cs new
read_end p cells to cs ts new i l so_far normal sum = record {
  normal = normal;
  within = λ g past. sum g ∙ ap (λ v. v % p) (so_far.within g past) ∙ zero_mod;
  at = λ g lg. same_trans (record { same = ap (λ v. v % p) (sum g) ∙ mod-mod (coefficient ts g) p }) (exact p (so_far.at g lg ∙ ap (λ vs. chain_of cells vs (cell_at to g)) (take_all i cs l)));
}
  where
    zero_mod : 0 % p ≡ 0
    zero_mod = omega arith

-- ---- lists of chains

pub empty_read : (p : ℕ) (cells to : List (List Factor)) → IsRead p cells to [] []
empty_read p cells to = record { normal = omega arith; within = λ g l. refl; at = λ g l. exact p refl }

pub none_read : (p : ℕ) (cells to : List (List Factor)) (ds : List (List (ℕ × ℕ))) → ds ≡ [] → AreRead p cells to [] ds
none_read p cells to ds e = record {
  count = ap length e;
  each = λ i. subst (λ (us : List (ℕ × ℕ)). IsRead p cells to [] us) (sym (ap (λ (xs : List (List (ℕ × ℕ))). get_or xs i []) e)) (empty_read p cells to);
}

-- one more chain
pub one_more : (p : ℕ) (cells to : List (List Factor)) (cs ds es : List (List (ℕ × ℕ))) (c d : List (ℕ × ℕ)) → es ≡ ds ++ d ∷ [] → IsRead p cells to c d → AreRead p cells to cs ds → AreRead p cells to (cs ++ c ∷ []) es
one_more p cells to cs ds es c d e r so_far = record {
  count = ap length e ∙ length-append ds (d ∷ []) ∙ ap (λ n. n + 1) so_far.count ∙ sym (length-append cs (c ∷ []));
  each = λ i. ⊎_elim
      (λ l. both i (get_or_append_left cs (c ∷ []) [] i l) (get_or_append_left ds (d ∷ []) [] i (omega (arith, l, so_far.count))) (so_far.each i))
      (λ l. ⊎_elim
      (λ (q : i ≡ length cs). both i (ap (λ n. get_or (cs ++ c ∷ []) n []) q ∙ get_or-append_seam cs c [] []) (ap (λ n. get_or (ds ++ d ∷ []) n []) (q ∙ sym so_far.count) ∙ get_or-append_seam ds d [] []) r)
      (λ f. both i (get_or_past (cs ++ c ∷ []) i [] (let a = length-append cs (c ∷ []) in omega (arith, a, l, f))) (get_or_past (ds ++ d ∷ []) i [] (let a = length-append ds (d ∷ []) in omega (arith, a, l, f, so_far.count))) (empty_read p cells to))
      (cases_eq i (length cs)))
      (cases_lt i (length cs));
}
  where
    both : (i : ℕ) {c0 d0 : List (ℕ × ℕ)} → get_or (cs ++ c ∷ []) i [] ≡ c0 → get_or (ds ++ d ∷ []) i [] ≡ d0 → IsRead p cells to c0 d0 → IsRead p cells to (get_or (cs ++ c ∷ []) i []) (get_or es i [])
    both i {c0} {d0} a b w = subst (λ (us : List (ℕ × ℕ)). IsRead p cells to us (get_or es i [])) (sym a) (subst (λ (us : List (ℕ × ℕ)). IsRead p cells to c0 us) (sym (ap (λ (xs : List (List (ℕ × ℕ))). get_or xs i []) e ∙ b)) w)

-- those beside a degree
beside-either : (y : List (ℕ × ℕ)) (b : Bool) (us vs ws : List (List (ℕ × ℕ))) → us ≡ vs ++ ws → cond b (y ∷ us) us ≡ cond b (y ∷ vs) vs ++ ws
beside-either y true us vs ws e = ap (λ (zs : List (List (ℕ × ℕ))). y ∷ zs) e
beside-either y false us vs ws e = e

pub beside-more : (k d : ℕ) (x : List (ℕ × ℕ)) (ds : List ℕ) (xs : List (List (ℕ × ℕ))) → length ds ≡ length xs → beside k (ds ++ d ∷ []) (xs ++ x ∷ []) ≡ beside k ds xs ++ cond (eqb d k) (x ∷ []) []
beside-more k d x [] [] e = refl
beside-more k d x [] (y ∷ xs) e = absurd (omega (arith, e))
beside-more k d x (c ∷ ds) [] e = absurd (omega (arith, e))
beside-more k d x (c ∷ ds) (y ∷ xs) e = beside-either y (eqb c k) (beside k (ds ++ d ∷ []) (xs ++ x ∷ [])) (beside k ds xs) (cond (eqb d k) (x ∷ []) []) (beside-more k d x ds xs (omega (arith, e)))

-- of the first ones of both lists
pub beside-next : (k i : ℕ) (ds : List ℕ) (xs : List (List (ℕ × ℕ))) → length ds ≡ length xs → i < length xs → beside k (take (i + 1) ds) (take (i + 1) xs) ≡ beside k (take i ds) (take i xs) ++ cond (eqb (get_or ds i 0) k) (get_or xs i [] ∷ []) []
beside-next k i ds xs e l =
    ap (λ (es : List ℕ). beside k es (take (i + 1) xs)) (take_more ds i 0 (omega (arith, e, l)))
    ∙ ap (λ (ys : List (List (ℕ × ℕ))). beside k (take i ds ++ get_or ds i 0 ∷ []) ys) (take_more xs i [] l)
    ∙ beside-more k (get_or ds i 0) (get_or xs i []) (take i ds) (take i xs) (length-take i ds ∙ ap (λ n. min i n) e ∙ sym (length-take i xs))

-- as many stand beside a degree in two lists of one length, and no more than there are
pub beside-sizes : (k : ℕ) (ds : List ℕ) (xs ys : List (List (ℕ × ℕ))) → length xs ≡ length ys → length (beside k ds xs) ≡ length (beside k ds ys)
beside-sizes k [] xs ys e = refl
beside-sizes k (d ∷ ds) [] [] e = refl
beside-sizes k (d ∷ ds) [] (y ∷ ys) e = absurd (omega (arith, e))
beside-sizes k (d ∷ ds) (x ∷ xs) [] e = absurd (omega (arith, e))
beside-sizes k (d ∷ ds) (x ∷ xs) (y ∷ ys) e = sizes (eqb d k) (beside k ds xs) (beside k ds ys) (beside-sizes k ds xs ys (omega (arith, e)))
  where
    sizes : (b : Bool) (us vs : List (List (ℕ × ℕ))) → length us ≡ length vs → length (cond b (x ∷ us) us) ≡ length (cond b (y ∷ vs) vs)
    sizes true us vs f = ap suc f
    sizes false us vs f = f

pub beside-few : (k : ℕ) (ds : List ℕ) (xs : List (List (ℕ × ℕ))) → length (beside k ds xs) ≤ length xs
beside-few k [] xs = omega arith
beside-few k (d ∷ ds) [] = omega arith
beside-few k (d ∷ ds) (x ∷ xs) = few (eqb d k) (beside k ds xs) (beside-few k ds xs)
  where
    few : (b : Bool) (us : List (List (ℕ × ℕ))) → length us ≤ length xs → length (cond b (x ∷ us) us) ≤ length (x ∷ xs)
    few true us f = omega (arith, f)
    few false us f = omega (arith, f)

-- a chain of a list whose chains name cells
pub named_at : (n : ℕ) (cs : List (List (ℕ × ℕ))) (c : List (ℕ × ℕ)) (i : ℕ) → AreNamed n cs → i < length cs → c ≡ get_or cs i c → IsNamed n c
named_at n cs c i named l e = subst (λ (ts : List (ℕ × ℕ)). IsNamed n ts) (sym (e ∙ get_or_default cs i c [] l)) (named i l)

-- one more chain of a list
pub all_more : (p : ℕ) (cells to : List (List Factor)) (cs ds es : List (List (ℕ × ℕ))) (c d : List (ℕ × ℕ)) (i : ℕ) → i < length cs → c ≡ get_or cs i c → es ≡ ds ++ d ∷ [] → IsRead p cells to c d
    → AreRead p cells to (take i cs) ds → AreRead p cells to (take (i + 1) cs) es
all_more p cells to cs ds es c d i l e new r so_far =
    subst (λ (xs : List (List (ℕ × ℕ))). AreRead p cells to xs es) (sym (take_more cs i [] l ∙ ap (λ (u : List (ℕ × ℕ)). take i cs ++ u ∷ []) (sym (e ∙ get_or_default cs i c [] l)))) (one_more p cells to (take i cs) ds es c d new r so_far)

pub all_end : (p : ℕ) (cells to : List (List Factor)) (cs ds : List (List (ℕ × ℕ))) (i : ℕ) → length cs ≤ i → AreRead p cells to (take i cs) ds → AreRead p cells to cs ds
all_end p cells to cs ds i l so_far = subst (λ (xs : List (List (ℕ × ℕ))). AreRead p cells to xs ds) (take_all i cs l) so_far

-- one more of those beside a degree, or one that is not
module _ (p : ℕ) (cells to : List (List Factor)) (k : ℕ) (ns : List ℕ) (cs : List (List (ℕ × ℕ))) (sizes : length ns ≡ length cs) (n i : ℕ) (l : i < length cs) (here : n ≡ get_or ns i 0) where
  pub beside_here : (ds es : List (List (ℕ × ℕ))) (c d : List (ℕ × ℕ)) → n ≡ k → c ≡ get_or cs i c → es ≡ ds ++ d ∷ [] → IsRead p cells to c d
      → AreRead p cells to (beside k (take i ns) (take i cs)) ds → AreRead p cells to (beside k (take (i + 1) ns) (take (i + 1) cs)) es
  beside_here ds es c d same e new r so_far =
      subst (λ (xs : List (List (ℕ × ℕ))). AreRead p cells to xs es)
      (sym (beside-next k i ns cs sizes l ∙ ap (λ b. beside k (take i ns) (take i cs) ++ cond b (get_or cs i [] ∷ []) []) (eq-eqb (get_or ns i 0) k (sym here ∙ same)) ∙ ap (λ (u : List (ℕ × ℕ)). beside k (take i ns) (take i cs) ++ u ∷ []) (sym (e ∙ get_or_default cs i c [] l))))
      (one_more p cells to (beside k (take i ns) (take i cs)) ds es c d new r so_far)

  pub beside_other : (ds : List (List (ℕ × ℕ))) → n ≢ k → AreRead p cells to (beside k (take i ns) (take i cs)) ds → AreRead p cells to (beside k (take (i + 1) ns) (take (i + 1) cs)) ds
  beside_other ds other so_far =
      subst (λ (xs : List (List (ℕ × ℕ))). AreRead p cells to xs ds)
      (sym (beside-next k i ns cs sizes l ∙ ap (λ b. beside k (take i ns) (take i cs) ++ cond b (get_or cs i [] ∷ []) []) (ne_eqb (get_or ns i 0) k (λ e. other (here ∙ e))) ∙ nothing (beside k (take i ns) (take i cs))))
      so_far
    where
      nothing : (xs : List (List (ℕ × ℕ))) → xs ++ [] ≡ xs
      nothing [] = refl
      nothing (x ∷ xs) = ap (λ (ys : List (List (ℕ × ℕ))). x ∷ ys) (nothing xs)
