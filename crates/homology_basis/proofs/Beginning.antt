-- One class: its cycle and its cocycle, divided and multiplied by the first coefficient of the inclusion.
use Rattle.std.proofs.Common.{◌≡◌, ◌≢◌, ℕ, ◌+◌, ◌*◌, ◌%◌, ◌<◌, ◌≤◌, ◌^◌, refl, sym, ap, ◌∙◌, arith, ⊎_elim, cond, eqb, eq-eqb, ne_eqb, List, [], ◌∷◌, length, get_or, Bool, true}
use Rattle.std.proofs.lemmas.Bool.{cases_eq, cases_lt}
use Rattle.std.proofs.Math.Nat.{mod-eq_of_lt}
use Rattle.field_mod.specs.Sums.{total}
use Rattle.field_mod.specs.Modular.{Same}
use Rattle.field_mod.proofs.Sums.{total_same}
use Rattle.field_mod.proofs.Modular.{same_refl, same_sym, same_trans, same-scale, same-mul}
use Rattle.chains.specs.Terms.{coefficient, IsNormal, IsNormalWithin}
use Rattle.chains.specs.ChainComplex.{ChainComplex}
use Rattle.chains.proofs.TermLists.{coefficient-below, coefficient-lt, raised}
use Rattle.algebraic_reduction.specs.Reduction.{single, Step, IsUnpaired}
use Rattle.algebraic_reduction.specs.Laws.{IsReduction, include_of, project_of}
use Rattle.algebraic_reduction.proofs.Residues.{reduced, same_zero}
use Rattle.homology_basis.specs.Bases.{BeginsWithOne}
use Rattle.homology_basis.specs.Classes.{IsClass}
use Rattle.algebraic_reduction.proofs.LinearMaps.{exact, through, single-self, single-other, total_picked_other}
use Rattle.algebraic_reduction.proofs.Singles.{single_left}

pub same_small : (p a b : ℕ) → a < p → b < p → Same p a b → a ≡ b
same_small p a b l m s = sym (mod-eq_of_lt l) ∙ s.same ∙ mod-eq_of_lt m

-- once a normal chain is that chain
pub times_one : (p s : ℕ) (ts : List (ℕ × ℕ)) → s < p → s ≡ 1 → IsNormal p ts → (h : ℕ) → coefficient ts h ≡ s * coefficient ts h % p
times_one p s ts l e n h =
    let below = coefficient-lt p 0 (2 ^ 32) ts h (omega arith) n in
    sym (mod-eq_of_lt below) ∙ ap (λ v. v % p) (sym (ap (λ v. v * coefficient ts h) e ∙ omega arith))

-- the chain of one term is its generator
pub one_term : (p g : ℕ) (ts : List (ℕ × ℕ)) → ((h : ℕ) → coefficient ts h ≡ coefficient ((g, 1) ∷ []) h % p) → (h : ℕ) → Same p (coefficient ts h) (single g h)
one_term p g ts sum h = same_trans (reduced p (coefficient ts h) (coefficient ((g, 1) ∷ []) h) (sum h)) (exact p (coefficient ((g, 1) ∷ []) h) (single g h) either)
  where
    either : coefficient ((g, 1) ∷ []) h ≡ single g h
    either = ⊎_elim
        (λ e. rw (eq-eqb g h (sym e), eq-eqb h g e) refl)
        (λ f. let a = ne_eqb g h (λ e. f (sym e)) in let b = ne_eqb h g f in rw a (rw b refl))
        (cases_eq h g)

pub one_term_other : (p g : ℕ) (ts : List (ℕ × ℕ)) → ((h : ℕ) → coefficient ts h ≡ coefficient ((g, 1) ∷ []) h % p) → (h : ℕ) → h ≢ g → Same p (coefficient ts h) 0
one_term_other p g ts sum h f = same_trans (one_term p g ts sum h) (exact p _ 0 (single-other g h f))

-- the first term of a normal chain is the coefficient at its generator
pub first_at : (p low high : ℕ) (t : ℕ × ℕ) (ts : List (ℕ × ℕ)) → IsNormalWithin p low high (t ∷ ts) → coefficient (t ∷ ts) t.0 ≡ t.1
first_at p low high t ts w =
    let a = coefficient-below p (t.0 + 1) high ts t.0 w.3 (omega arith) in
    let b : cond (eqb t.0 t.0) t.1 0 ≡ t.1 = rw (eq-eqb t.0 t.0 refl) refl in
    omega arith

-- a multiple of a chain that makes the first coefficient 1 begins with 1
begins : (p s high : ℕ) (ts us : List (ℕ × ℕ)) → 2 ≤ p → IsNormalWithin p 0 high ts → IsNormalWithin p 0 high us → 0 < length ts
    → ((g : ℕ) → Same p (coefficient us g) (s * coefficient ts g)) → Same p (s * (get_or ts 0 (0, 0)).1) 1 → BeginsWithOne us
begins p s high [] us two nt nu some same one = absurd (omega arith)
begins p s high (t ∷ ts) [] two nt nu some same one =
    let e = same_small p 0 1 (omega arith) (omega arith) (same_trans (same t.0) (same_trans (exact p _ _ (ap (λ v. s * v) (first_at p 0 high t ts nt))) one)) in absurd (omega arith)
begins p s high (t ∷ ts) (v ∷ us) two nt nu some same one = ⊎_elim
    (λ less. let z = coefficient-below p t.0 high (t ∷ ts) v.0 (raised p 0 t.0 high t ts nt (omega arith)) less in
    let e = same_zero p v.1 nu.2 (same_trans (exact p _ _ (sym (first_at p 0 high v us nu))) (same_trans (same v.0) (exact p _ 0 (ap (λ w. s * w) z ∙ omega arith)))) in
    let f = nu.1 in absurd (omega arith))
    (λ least. ⊎_elim
    (λ more. let z = coefficient-below p v.0 high (v ∷ us) t.0 (raised p 0 v.0 high v us nu (omega arith)) more in
    let e = same_small p 0 1 (omega arith) (omega arith) (same_trans (exact p _ _ (sym z)) (same_trans (same t.0) (same_trans (exact p _ _ (ap (λ w. s * w) (first_at p 0 high t ts nt))) one))) in absurd (omega arith))
    (λ most. let at : v.0 ≡ t.0 = omega arith in
    same_small p v.1 1 nu.2 (omega arith) (same_trans (exact p _ _ (sym (first_at p 0 high v us nu))) (same_trans (same v.0) (same_trans (exact p _ _ (ap (λ w. s * coefficient (t ∷ ts) w) at ∙ ap (λ w. s * w) (first_at p 0 high t ts nt))) one))))
    (cases_lt t.0 v.0))
    (cases_lt v.0 t.0)

module _ (p : ℕ) (K : ChainComplex) (ss : List Step) (g : ℕ) (two : 2 ≤ p) (r : IsReduction p K ss) (left : IsUnpaired ss g) (x ι : List (ℕ × ℕ))
    (one : (h : ℕ) → Same p (coefficient x h) (single g h)) (inclusion : (h : ℕ) → Same p (coefficient ι h) (include_of p K ss (coefficient x) h)) where
  included : (h : ℕ) → Same p (coefficient ι h) (include_of p K ss (single g) h)
  included h = same_trans (inclusion h) (r.include_same (coefficient x) (single g) one h)

  -- the inclusion of a generator that is left has a term
  pub some_term : 0 < length ι
  some_term = ⊎_elim
      (λ l. absurd (one_is_zero (λ h. empty ι (omega arith) h)))
      (λ l. l)
      (cases_lt (length ι) 1)
    where
      empty : (ts : List (ℕ × ℕ)) → length ts ≤ 0 → (h : ℕ) → coefficient ts h ≡ 0
      empty [] l h = refl
      empty (t ∷ ts) l h = absurd (omega arith)

      one_is_zero : ((h : ℕ) → coefficient ι h ≡ 0) → ⊥
      one_is_zero none =
          let a = r.round_trip (single g) (single_left p ss g left) g in
          let b = r.project_same (include_of p K ss (single g)) (λ h. 0) (λ h. same_trans (same_sym (included h)) (exact p _ 0 (none h))) g in
          let c = through p (project_of p K ss) r.project_linear r.project_same 0 (λ i. 0) (λ i h. 0) g in
          let e = same_small p 1 0 (omega arith) (omega arith) (same_trans (exact p 1 _ (sym (single-self g))) (same_trans (same_sym a) (same_trans b c))) in
          absurd (omega arith)

  pub is_class : (wanted : Bool) (z c : List (ℕ × ℕ)) (u a : ℕ) → g < length K.boundaries
      → (u * a) % p ≡ 1 → a ≡ (get_or ι 0 (0, 0)).1 → IsNormal p ι → IsNormal p z → IsNormal p c
      → ((h : ℕ) → coefficient z h ≡ (u * coefficient ι h) % p)
      → (wanted ≡ true → (h : ℕ) → h < length K.boundaries → Same p (coefficient c h) (a * total (length K.boundaries) (λ t. coefficient x t * project_of p K ss (single h) t)))
      → (wanted ≡ true → (h : ℕ) → length K.boundaries ≤ h → Same p (coefficient c h) (a * coefficient x h))
      → IsClass p K ss wanted (record { generator = g; cycle = z; cocycle = c })
  is_class wanted z c u a inside inverse head nι nz nc cycle cocycle past = record {
    inside = inside;
    unpaired = left;
    cycle_normal = nz;
    multiple = u;
    first = a;
    inverse = unit;
    cycle = λ h. same_trans (reduced p _ _ (cycle h)) (same-scale u (included h));
    begins = begins p u (2 ^ 32) ι z two nι nz some_term (λ h. reduced p _ _ (cycle h)) (same_trans (exact p _ _ (ap (λ v. u * v) (sym head))) unit);
    cocycle_normal = λ on. nc;
    cocycle = λ on h l. same_trans (cocycle on h l) (same-scale a
        (same_trans (total_same p (length K.boundaries) (λ t. coefficient x t * project_of p K ss (single h) t) (λ t. single g t * project_of p K ss (single h) t) (λ t _. same-mul (one t) (same_refl p (project_of p K ss (single h) t))))
        (exact p _ _ (total_picked_other (length K.boundaries) g (project_of p K ss (single h)) inside))));
    cocycle_past = λ on h l. same_zero p (coefficient c h) (coefficient-lt p 0 (2 ^ 32) c h (omega arith) nc)
        (same_trans (past on h l) (same_trans (same-scale a (same_trans (one h) (exact p _ 0 (single-other g h (λ e. absurd (omega arith)))))) (exact p (a * 0) 0 (omega arith))));
  }
    where
      unit : Same p (u * a) 1
      unit = record { same = inverse ∙ sym (mod-eq_of_lt (omega arith)) }

-- a multiple of a transposed projection, as the numbers modulo p
pub scaled_projection : (p n a : ℕ) (x π c : List (ℕ × ℕ)) (f : ℕ → ℕ)
    → ((h : ℕ) → h < n → Same p (coefficient π h) (f h)) → ((h : ℕ) → n ≤ h → Same p (coefficient π h) (coefficient x h))
    → ((h : ℕ) → coefficient c h ≡ (a * coefficient π h) % p)
    → ((h : ℕ) → h < n → Same p (coefficient c h) (a * f h)) × ((h : ℕ) → n ≤ h → Same p (coefficient c h) (a * coefficient x h))
scaled_projection p n a x π c f inside past value = (
  (λ h l. same_trans (reduced p _ _ (value h)) (same-scale a (inside h l))),
  (λ h l. same_trans (reduced p _ _ (value h)) (same-scale a (past h l))),
)
