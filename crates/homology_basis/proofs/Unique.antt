-- The cycles that a log gives are one list: the generators that are left ascend, and each cycle begins with the coefficient 1
use Rattle.std.proofs.Common.{◌≡◌, ℕ, zero, suc, ◌*◌, ◌^◌, ◌<◌, ◌≤◌, refl, sym, ap, ◌∙◌, arith, ⊎_elim, List, [], ◌∷◌, length, get_or, subst}
use Rattle.std.proofs.lemmas.Bool.{cases_lt}
use Rattle.field_mod.specs.Modular.{Same}
use Rattle.field_mod.proofs.Modular.{same_refl, same_sym, same_trans, same-scale, same-mul, one_nonzero}
use Rattle.chains.specs.Terms.{coefficient, IsNormal}
use Rattle.chains.specs.ChainComplex.{ChainComplex}
use Rattle.chains.proofs.TermLists.{coefficient-below, coefficient-lt, raised, one_list}
use Rattle.algebraic_reduction.specs.Reduction.{single, Step}
use Rattle.algebraic_reduction.specs.Laws.{IsLeft, include_of}
use Rattle.algebraic_reduction.proofs.LinearMaps.{exact}
use Rattle.homology_basis.specs.Bases.{AreInclusions, BeginsWithOne, CyclesOfLog, BasisOfLog, IsBasisByCycles, IsBasisWithContraction, in_degree}
use Rattle.homology_basis.proofs.Beginning.{same_small, first_at}

-- ---- one chain

vanish : (p a b x y : ℕ) → 2 ≤ p → Same p (a * x) 1 → Same p (b * x) 0 → Same p (b * y) 1 → ⊥
vanish p a b x y two one none other =
    let turn : b * (a * x) ≡ a * (b * x) = omega arith in
    let b_zero : Same p b 0 = same_trans (exact p b (b * 1) (omega arith)) (same_trans (same_sym (same-scale b one)) (same_trans (exact p _ _ turn) (same_trans (same-scale a none) (exact p (a * 0) 0 (omega arith))))) in
    one_nonzero p two (same_trans (same_sym other) (same_trans (same-mul b_zero (same_refl p y)) (exact p (0 * y) 0 (omega arith))))

pub one_chain : (p u v : ℕ) (ι : ℕ → ℕ) (zs ws : List (ℕ × ℕ)) → 2 ≤ p → IsNormal p zs → IsNormal p ws → BeginsWithOne zs → BeginsWithOne ws
    → ((g : ℕ) → Same p (coefficient zs g) (u * ι g)) → ((g : ℕ) → Same p (coefficient ws g) (v * ι g)) → zs ≡ ws
one_chain p u v ι [] ws two nz nw bz bw sz sw = absurd bz
one_chain p u v ι (z ∷ zs) [] two nz nw bz bw sz sw = absurd bw
one_chain p u v ι (z ∷ zs) (w ∷ ws) two nz nw bz bw sz sw =
    one_list p 0 (2 ^ 32) (z ∷ zs) (w ∷ ws) nz nw (λ g. same_small p (coefficient (z ∷ zs) g) (coefficient (w ∷ ws) g) (coefficient-lt p 0 (2 ^ 32) (z ∷ zs) g (omega arith) nz) (coefficient-lt p 0 (2 ^ 32) (w ∷ ws) g (omega arith) nw)
    (same_trans (sz g) (same_trans (same-mul same_unit (same_refl p (ι g))) (same_sym (sw g)))))
  where
    unit_z : Same p (u * ι z.0) 1
    unit_z = same_trans (same_sym (sz z.0)) (exact p _ 1 (first_at p 0 (2 ^ 32) z zs nz ∙ bz))

    unit_w : Same p (v * ι w.0) 1
    unit_w = same_trans (same_sym (sw w.0)) (exact p _ 1 (first_at p 0 (2 ^ 32) w ws nw ∙ bw))

    heads : z.0 ≡ w.0
    heads = ⊎_elim
        (λ l. absurd (vanish p u v (ι z.0) (ι w.0) two unit_z (same_trans (same_sym (sw z.0)) (exact p _ 0 (coefficient-below p w.0 (2 ^ 32) (w ∷ ws) z.0 (raised p 0 w.0 (2 ^ 32) w ws nw (omega arith)) l))) unit_w))
        (λ l. ⊎_elim
        (λ m. absurd (vanish p v u (ι w.0) (ι z.0) two unit_w (same_trans (same_sym (sz w.0)) (exact p _ 0 (coefficient-below p z.0 (2 ^ 32) (z ∷ zs) w.0 (raised p 0 z.0 (2 ^ 32) z zs nz (omega arith)) m))) unit_z))
        (λ m. omega arith)
        (cases_lt w.0 z.0))
        (cases_lt z.0 w.0)

    same_unit : Same p u v
    same_unit =
        let at : Same p (v * ι z.0) 1 = subst (λ (h : ℕ). Same p (v * ι h) 1) (sym heads) unit_w in
        let turn : u * (v * ι z.0) ≡ v * (u * ι z.0) = omega arith in
        same_trans (exact p u (u * 1) (omega arith)) (same_trans (same_sym (same-scale u at)) (same_trans (exact p _ _ turn) (same_trans (same-scale v unit_z) (exact p (v * 1) v (omega arith)))))

-- ---- one enumeration

module _ (K : ChainComplex) (k m n : ℕ) (ss : List Step) (f h : ℕ → ℕ) (lf : IsLeft K k ss m f) (lh : IsLeft K k ss n h)
    (up : (i j : ℕ) → i < j → j < m → f i < f j) (along : (i j : ℕ) → i < j → j < n → h i < h j) where
  agree : (b i : ℕ) → i < b → i < m → (i < n) × (f i ≡ h i)
  agree zero i l q = absurd (omega arith)
  agree (suc b) i l q =
      let w = lh.all (f i) (lf.inside i q) (lf.of_degree i q) (lf.unpaired i q) in
      ⊎_elim
      (λ before. absurd (let c = agree b w.0 (omega arith) (omega arith) in let e = w.2 in let d = up w.0 i before q in let x = c.1 in omega arith))
      (λ past. ⊎_elim
      (λ after.
      let inside : i < n = let e = w.1 in omega arith in
      let v = lf.all (h i) (lh.inside i inside) (lh.of_degree i inside) (lh.unpaired i inside) in
      let less = along i w.0 after w.1 in
      absurd (⊎_elim
      (λ low. let c = agree b v.0 (omega arith) v.1 in let e : i ≡ v.0 = lh.once i v.0 inside c.0 (sym v.2 ∙ c.1) in omega arith)
      (λ high. ⊎_elim
      (λ more. let d = up i v.0 more v.1 in let e = v.2 in let x = w.2 in omega arith)
      (λ same. let e : v.0 ≡ i = omega arith in let x : f i ≡ h i = ap f (sym e) ∙ v.2 in let y = w.2 in omega arith)
      (cases_lt i v.0))
      (cases_lt v.0 i)))
      (λ here. let e : w.0 ≡ i = omega arith in (subst (λ (j : ℕ). j < n) e w.1, sym w.2 ∙ ap h e))
      (cases_lt i w.0))
      (cases_lt w.0 i)

  pub no_more : m ≤ n
  no_more = ⊎_elim (λ l. absurd (let w = (agree (suc n) n (omega arith) l).0 in omega arith)) (λ l. l) (cases_lt n m)

  pub same_at : (i : ℕ) → i < m → f i ≡ h i
  same_at i l = (agree (suc i) i (omega arith) l).1

-- ---- one list of cycles

alike : (zs ws : List (List (ℕ × ℕ))) → length zs ≡ length ws → ((i : ℕ) → i < length zs → get_or zs i [] ≡ get_or ws i []) → zs ≡ ws
alike [] [] e h = refl
alike [] (w ∷ ws) e h = absurd (omega arith)
alike (z ∷ zs) [] e h = absurd (omega arith)
alike (z ∷ zs) (w ∷ ws) e h = let first : z ≡ w = h 0 (omega arith) in let rest = alike zs ws (omega arith) (λ i l. h (suc i) (omega arith)) in λ j. first j ∷ rest j

pub one_list_of_cycles : (p k : ℕ) (K : ChainComplex) (ss : List Step) (zs ws : List (List (ℕ × ℕ))) → 2 ≤ p → AreInclusions p K ss k zs → AreInclusions p K ss k ws
    → ((j : ℕ) → j < length zs → IsNormal p (get_or zs j [])) → ((j : ℕ) → j < length ws → IsNormal p (get_or ws j [])) → zs ≡ ws
one_list_of_cycles p k K ss zs ws two a b nz nw =
    let le = no_more K k (length zs) (length ws) ss a.at b.at a.left b.left a.ascending b.ascending in
    let ge = no_more K k (length ws) (length zs) ss b.at a.at b.left a.left b.ascending a.ascending in
    alike zs ws (omega arith) (λ i l.
    let m : i < length ws = omega arith in
    let e = same_at K k (length zs) (length ws) ss a.at b.at a.left b.left a.ascending b.ascending i l in
    one_chain p (a.multiple i) (b.multiple i) (include_of p K ss (single (a.at i))) (get_or zs i []) (get_or ws i []) two (nz i l) (nw i m) (a.first i l) (b.first i m)
    (a.scaled i l) (λ g. subst (λ (h : ℕ). Same p (coefficient (get_or ws i []) g) (b.multiple i * include_of p K ss (single h) g)) (sym e) (b.scaled i m g)))

pub same_cycles : (p : ℕ) (c : CyclesOfLog) (b : BasisOfLog) → 2 ≤ p → b.log ≡ c.log → IsBasisByCycles p c → IsBasisWithContraction p b → (k : ℕ) → in_degree c.cycles k ≡ in_degree b.cycles k
same_cycles p c b two e h d k = one_list_of_cycles p k c.log.complex c.log.steps (in_degree c.cycles k) (in_degree b.cycles k) two (h.inclusions k)
    (subst (λ (l : Rattle.algebraic_reduction.specs.LogWords.Reduced). AreInclusions p l.complex l.steps k (in_degree b.cycles k)) e (d.inclusions k)) (h.normal k) (d.normal k)
