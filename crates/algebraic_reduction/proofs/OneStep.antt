-- One step of reduction: its projection, inclusion and homotopy, and what it leaves.
use Rattle.std.proofs.Common.{◌≡◌, ◌≢◌, ℕ, zero, suc, ◌+◌, ◌-◌, ◌*◌, ◌<◌, ◌≤◌, ◌⊎◌, inl, inr, refl, sym, ap, ◌∙◌, arith, ⊎_elim, true, false, cond, eqb, eqb-true, eq-eqb, ne_eqb, subst, true≢false}
use Rattle.std.proofs.lemmas.Bool.{cases_eq}
use Rattle.field_mod.specs.Sums.{total}
use Rattle.field_mod.specs.Modular.{Same, minus}
use Rattle.field_mod.proofs.Sums.{total-same, total-zero, total-add, total-scale, total-swap, total_same, total-single}
use Rattle.field_mod.proofs.Modular.{same_by, same_refl, same_sym, same_trans, same-add, same-scale, same-mul, neg_cancel, one_nonzero}
use Rattle.algebraic_reduction.specs.Reduction.{boundary_by, Step, project, include, homotopy, left, IsBoundary, IsStep, IsOff}
use Rattle.chains.proofs.TermLists.{eqb_cases}

pub eqb_sym : (a b : ℕ) → eqb a b ≡ eqb b a
eqb_sym a b = elim (eqb b a) as (λ v. eqb b a ≡ v → eqb a b ≡ v) [ true ↦ λ e. eq-eqb a b (sym (eqb-true b a e)) | false ↦ λ e. ne_eqb a b (λ q. let r = eq-eqb b a (sym q) in absurd (true≢false (sym r ∙ e))) ] refl

-- a sum over generators of which one has more
apply-single : (n b m : ℕ) (D : ℕ → ℕ → ℕ) (x y : ℕ → ℕ) → b < n → ((h : ℕ) → x h + cond (eqb b h) m 0 ≡ y h) → (g : ℕ) → boundary_by n D x g + m * D b g ≡ boundary_by n D y g
apply-single n b m D x y l e g =
    let t = total-single n b m (λ h. D h g) l in
    let u = total-add n (λ h. x h * D h g) (λ h. cond (eqb b h) m 0 * D h g) in
    let v = total-same n (λ h. x h * D h g + cond (eqb b h) m 0 * D h g) (λ h. y h * D h g) (λ h k. let q = ap (λ z. z * D h g) (e h) in omega arith) in
    omega arith

apply-combine : (n m : ℕ) (D : ℕ → ℕ → ℕ) (x y : ℕ → ℕ) (g : ℕ) → boundary_by n D (λ h. x h + m * y h) g ≡ boundary_by n D x g + m * boundary_by n D y g
apply-combine n m D x y g =
    let u = total-add n (λ h. x h * D h g) (λ h. m * (y h * D h g)) in
    let w = total-scale n m (λ h. y h * D h g) in
    let v = total-same n (λ h. (x h + m * y h) * D h g) (λ h. x h * D h g + m * (y h * D h g)) (λ h k. omega arith) in
    omega arith

module _ (p n : ℕ) (degree : ℕ → ℕ) (D : ℕ → ℕ → ℕ) (s : Step) (two : 2 ≤ p) (bd : IsBoundary p n degree D) (st : IsStep p n D s) where
  pos : 1 ≤ p
  pos = omega arith

  off_diagonal : (h : ℕ) → Same p (D h h) 0
  off_diagonal h = bd.lowers h h (λ e. absurd (omega arith))

  -- the boundary of a projected chain
  pub boundary-project : (x : ℕ → ℕ) (g : ℕ) → Same p (boundary_by n D (project p D s x) g + x s.b * D s.b g) (boundary_by n D x g)
  boundary-project x g =
      let m = (p - 1) * (s.inverse * x s.a) in
      let e1 = apply-single n s.b (x s.b + m * D s.b s.b) D (project p D s x) (λ h. x h + m * D s.b h) st.b_in (λ h. at h) g in
      let e2 = apply-combine n m D x (D s.b) g in
      let z1 = same-scale m (bd.squares_to_zero s.b g) in
      let z2 = same-scale (m * D s.b g) (off_diagonal s.b) in
      same_trans (same_by p 0 0 _ _ (omega arith)) (same_trans (same-add (same_refl p (boundary_by n D (project p D s x) g + x s.b * D s.b g)) (same_sym z2)) (same_trans (same_by p 0 0 _ (boundary_by n D x g + m * boundary_by n D (D s.b) g) (omega arith)) (same_trans (same-add (same_refl p (boundary_by n D x g)) z1) (same_by p 0 0 _ _ (omega arith)))))
    where
      at : (h : ℕ) → project p D s x h + cond (eqb s.b h) (x s.b + (p - 1) * (s.inverse * x s.a) * D s.b s.b) 0 ≡ x h + (p - 1) * (s.inverse * x s.a) * D s.b h
      at h = ⊎_elim
          (λ e. let u = ap (λ k. x k + (p - 1) * (s.inverse * x s.a) * D s.b k) e in rw (eq-eqb h s.b e, eq-eqb s.b h (sym e)) (omega arith))
          (λ f. let k : eqb s.b h ≡ false = eqb_sym s.b h ∙ f in rw f (rw k (omega arith)))
          (eqb_cases h s.b)

  pub apply-none : (g : ℕ) → boundary_by n D (λ h. 0) g ≡ 0
  apply-none g = total-same n (λ h. 0 * D h g) (λ h. 0) (λ h k. omega arith) ∙ total-zero n

  pub boundary-homotopy : (x : ℕ → ℕ) (g : ℕ) → boundary_by n D (homotopy s x) g ≡ s.inverse * x s.a * D s.b g
  boundary-homotopy x g =
      let e = apply-single n s.b (s.inverse * x s.a) D (λ h. 0) (homotopy s x) st.b_in (λ h. ap (λ v. 0 + cond v (s.inverse * x s.a) 0) (eqb_sym s.b h) ∙ omega arith) g in
      omega (arith, apply-none g)

  -- the identity less its image is a boundary and the homotopy of one
  pub identity : (x : ℕ → ℕ) (g : ℕ) → Same p (include p n D s (project p D s x) g + (boundary_by n D (homotopy s x) g + homotopy s (boundary_by n D x) g)) (x g)
  identity x g =
      let k = boundary-homotopy x g in
      ⊎_elim
      (λ e.
      let ba = boundary-project x s.a in
      let u : boundary_by n D (project p D s x) s.a + x s.b * D s.b s.a ≡ boundary_by n D (project p D s x) s.a + x s.b * D s.b s.a = refl in
      let w = boundary_by n D (project p D s x) s.a in
      let z1 = same-scale s.inverse (same_sym ba) in
      let z2 = same-scale (x s.b) st.inverts in
      let z3 = same-scale (s.inverse * x s.a) (off_diagonal s.b) in
      let c1 = neg_cancel p (s.inverse * w) pos in
      let q = ap (λ v. s.inverse * x s.a * D s.b v) e in
      let r = ap x e in
      rw (eq-eqb g s.b e) (
      same_trans (same_by p 0 0 _ ((p - 1) * (s.inverse * w) + (s.inverse * x s.a * D s.b s.b + s.inverse * boundary_by n D x s.a)) (omega arith))
      (same_trans (same-add (same_refl p ((p - 1) * (s.inverse * w))) (same-add z3 z1))
      (same_trans (same_by p 0 (s.inverse * w) _ (x s.b * (s.inverse * D s.b s.a)) (omega arith)) (same_trans z2 (same_by p 0 0 _ _ (omega arith)))))))
      (λ f. let c = neg_cancel p (s.inverse * x s.a * D s.b g) pos in rw f (same_by p 0 (s.inverse * x s.a * D s.b g) _ _ (omega arith)))
      (eqb_cases g s.b)

  pub boundary-include : (y : ℕ → ℕ) (g : ℕ) → boundary_by n D (include p n D s y) g ≡ boundary_by n D y g + (p - 1) * (s.inverse * boundary_by n D y s.a) * D s.b g
  boundary-include y g = sym (apply-single n s.b ((p - 1) * (s.inverse * boundary_by n D y s.a)) D y (include p n D s y) st.b_in (λ h. at h) g)
    where
      at : (h : ℕ) → y h + cond (eqb s.b h) ((p - 1) * (s.inverse * boundary_by n D y s.a)) 0 ≡ include p n D s y h
      at h = rw (eqb_sym s.b h) (elim (eqb h s.b) as (λ v. y h + cond v ((p - 1) * (s.inverse * boundary_by n D y s.a)) 0 ≡ cond v (y h + (p - 1) * (s.inverse * boundary_by n D y s.a)) (y h)) [ true ↦ refl | false ↦ omega arith ])

  -- the boundary that is left, of a chain that has nothing at the pair
  pub boundary-left : (y : ℕ → ℕ) → IsOff p s y → (g : ℕ) → Same p (boundary_by n (left p D s) y g) (project p D s (boundary_by n D y) g)
  boundary-left y off g =
      ⊎_elim
      (λ e. let f = eq-eqb g s.b e in rw f (same_by p 0 0 _ _ (omega (arith, total-same n (λ h. y h * 0) (λ h. 0) (λ h k. omega arith), total-zero n))))
      (λ f.
      let v = total-add n (λ h. y h * D h g) (λ h. ((p - 1) * (s.inverse * D s.b g)) * (y h * D h s.a)) in
      let w = total-scale n ((p - 1) * (s.inverse * D s.b g)) (λ h. y h * D h s.a) in
      let u = total-same n (λ h. y h * (D h g + minus p (s.inverse * D h s.a * D s.b g))) (λ h. y h * D h g + ((p - 1) * (s.inverse * D s.b g)) * (y h * D h s.a)) (λ h k. omega arith) in
      same_trans (total_same p n (λ h. y h * left p D s h g) (λ h. y h * (D h g + minus p (s.inverse * D h s.a * D s.b g))) (λ h k. at h f)) (rw f (same_by p 0 0 _ _ (omega arith))))
      (eqb_cases g s.b)
    where
      at : (h : ℕ) → eqb g s.b ≡ false → Same p (y h * left p D s h g) (y h * (D h g + minus p (s.inverse * D h s.a * D s.b g)))
      at h f =
          let q = D h g + minus p (s.inverse * D h s.a * D s.b g) in
          rw f (⊎_elim
          (λ e. rw (eq-eqb h s.b e) (gone h q (rw e off.at_b)))
          (λ k. rw k (⊎_elim (λ e. rw (eq-eqb h s.a e) (gone h q (rw e off.at_a))) (λ m. rw m (same_refl p (y h * q))) (eqb_cases h s.a)))
          (eqb_cases h s.b))
        where
          gone : (h q : ℕ) → Same p (y h) 0 → Same p (y h * 0) (y h * q)
          gone h q z = same_trans (same_by p 0 0 _ _ (omega arith)) (same_sym (same-mul z (same_refl p q)))

  -- what the projection keeps of the sense of p
  pub project-same : (x y : ℕ → ℕ) → ((h : ℕ) → Same p (x h) (y h)) → (g : ℕ) → Same p (project p D s x g) (project p D s y g)
  project-same x y e g = elim (eqb g s.b) as (λ v. Same p (cond v 0 (x g + minus p (s.inverse * x s.a * D s.b g))) (cond v 0 (y g + minus p (s.inverse * y s.a * D s.b g)))) [
    | true ↦ same_refl p 0
    | false ↦ same-add (e g) (same-scale (p - 1) (same-mul (same-scale s.inverse (e s.a)) (same_refl p (D s.b g))))
  ]

  pub apply-same : (E : ℕ → ℕ → ℕ) (x y : ℕ → ℕ) → ((h : ℕ) → Same p (x h) (y h)) → (g : ℕ) → Same p (boundary_by n E x g) (boundary_by n E y g)
  apply-same E x y e g = total_same p n (λ h. x h * E h g) (λ h. y h * E h g) (λ h l. same-mul (e h) (same_refl p (E h g)))

  -- a projected chain has nothing at the pair
  pub project-off : (x : ℕ → ℕ) → IsOff p s (project p D s x)
  project-off x = record {
    at_a = rw (ne_eqb s.a s.b st.apart) (
        let z = same-scale ((p - 1) * x s.a) st.inverts in
        let c = neg_cancel p (x s.a) pos in
        same_trans (same_by p 0 0 _ (x s.a + (p - 1) * x s.a * (s.inverse * D s.b s.a)) (omega arith)) (same_trans (same-add (same_refl p (x s.a)) z) (same_by p 0 (x s.a) _ _ (omega arith))));
    at_b = rw (eq-eqb s.b s.b refl) (same_refl p 0);
  }

  -- the projection of a chain of what is left is that chain
  pub round_trip : (y : ℕ → ℕ) → IsOff p s y → (g : ℕ) → Same p (project p D s (include p n D s y) g) (y g)
  round_trip y off g =
      ⊎_elim
      (λ e. rw (eq-eqb g s.b e) (same_trans (same_sym off.at_b) (same_by p 0 0 _ _ (ap (λ h. y h + p * 0) (sym e)))))
      (λ f. rw f (rw (ne_eqb s.a s.b st.apart) (
      let z = same-scale ((p - 1) * s.inverse * D s.b g) off.at_a in
      same_trans (same_by p 0 0 _ (y g + (p - 1) * s.inverse * D s.b g * y s.a) (omega arith)) (same_trans (same-add (same_refl p (y g)) z) (same_by p 0 0 _ _ (omega arith))))))
      (eqb_cases g s.b)

  pub squares : (x : ℕ → ℕ) (g : ℕ) → Same p (boundary_by n D (boundary_by n D x) g) 0
  squares x g =
      let u : boundary_by n D (boundary_by n D x) g ≡ total n (λ h. x h * boundary_by n D (D h) g) =
      total-same n (λ k. total n (λ h. x h * D h k) * D k g) (λ k. total n (λ h. x h * (D h k * D k g))) (λ k l. let a = total-scale n (D k g) (λ h. x h * D h k) in let b = total-same n (λ h. D k g * (x h * D h k)) (λ h. x h * (D h k * D k g)) (λ h m. omega arith) in omega arith)
      ∙ total-swap n n (λ k h. x h * (D h k * D k g))
      ∙ total-same n (λ h. total n (λ k. x h * (D h k * D k g))) (λ h. x h * boundary_by n D (D h) g) (λ h l. total-scale n (x h) (λ k. D h k * D k g)) in
      same_trans (same_by p 0 0 _ _ (ap (λ v. v + p * 0) u)) (same_trans (total_same p n (λ h. x h * boundary_by n D (D h) g) (λ h. 0) (λ h l. same_trans (same-scale (x h) (bd.squares_to_zero h g)) (same_by p 0 0 _ _ (omega arith)))) (same_by p 0 0 _ _ (omega (arith, total-zero n))))

  -- the projection of a boundary is the boundary that is left of the projection
  pub project-boundary : (x : ℕ → ℕ) (g : ℕ) → Same p (boundary_by n (left p D s) (project p D s x) g) (project p D s (boundary_by n D x) g)
  project-boundary x g =
      let w = boundary_by n D (project p D s x) in
      let u = boundary_by n D x in
      same_trans (boundary-left (project p D s x) (project-off x) g) (
      ⊎_elim
      (λ e. rw (eq-eqb g s.b e) (same_refl p 0))
      (λ f. rw f (
      let bg = same_sym (boundary-project x g) in
      let ba = same-scale ((p - 1) * (s.inverse * D s.b g)) (same_sym (boundary-project x s.a)) in
      let z = same-scale ((p - 1) * (x s.b * D s.b g)) st.inverts in
      let c = neg_cancel p (x s.b * D s.b g) pos in
      same_sym (same_trans (same_by p 0 0 _ (u g + (p - 1) * (s.inverse * D s.b g) * u s.a) (omega arith)) (same_trans (same-add bg ba) (same_trans (same_by p 0 0 _ (w g + minus p (s.inverse * w s.a * D s.b g) + x s.b * D s.b g + (p - 1) * (x s.b * D s.b g) * (s.inverse * D s.b s.a)) (omega arith)) (same_trans (same-add (same_refl p (w g + minus p (s.inverse * w s.a * D s.b g) + x s.b * D s.b g)) z) (same_by p 0 (x s.b * D s.b g) _ _ (omega arith))))))))
      (eqb_cases g s.b))

  include-at_b : (z : ℕ → ℕ) → include p n D s z s.b ≡ z s.b + minus p (s.inverse * boundary_by n D z s.a)
  include-at_b z = rw (eq-eqb s.b s.b refl)

  include-other : (z : ℕ → ℕ) (g : ℕ) → eqb g s.b ≡ false → include p n D s z g ≡ z g
  include-other z g f = rw f

  project-other : (z : ℕ → ℕ) (g : ℕ) → eqb g s.b ≡ false → project p D s z g ≡ z g + minus p (s.inverse * z s.a * D s.b g)
  project-other z g f = rw f

  -- the boundary of an included chain is the inclusion of the boundary that is left
  pub include-boundary : (y : ℕ → ℕ) → IsOff p s y → (g : ℕ) → Same p (boundary_by n D (include p n D s y) g) (include p n D s (boundary_by n (left p D s) y) g)
  include-boundary y off g =
      let v = boundary_by n D y in
      let k = boundary-include y g in
      ⊎_elim
      (λ e.
      let w = boundary_by n D (project p D s v) s.a in
      -- the boundary that is left, at a
      let wl : Same p (boundary_by n D (boundary_by n (left p D s) y) s.a) w = apply-same D (boundary_by n (left p D s) y) (project p D s v) (boundary-left y off) s.a in
      let ww : Same p (w + v s.b * D s.b s.a) 0 = same_trans (boundary-project v s.a) (squares y s.a) in
      let z1 = same-scale s.inverse ww in
      let z2 = same-scale (v s.b) (same_sym st.inverts) in
      let z3 = same-scale ((p - 1) * (s.inverse * v s.a)) (off_diagonal s.b) in
      let c = neg_cancel p (s.inverse * w) pos in
      let l0 : Same p (boundary_by n (left p D s) y s.b) 0 = same_trans (boundary-left y off s.b) (rw (eq-eqb s.b s.b refl) (same_refl p 0)) in
      let right : Same p (minus p (s.inverse * boundary_by n D (boundary_by n (left p D s) y) s.a)) (minus p (s.inverse * w)) = same-scale (p - 1) (same-scale s.inverse wl) in
      let value : Same p (v s.b) (minus p (s.inverse * w)) =
      same_trans (same_by p 0 0 _ (v s.b * 1 + 0) (omega arith)) (same_trans (same-add z2 (same_sym (same_by p 0 (s.inverse * w) ((p - 1) * (s.inverse * w) + s.inverse * w) 0 (omega arith)))) (same_trans (same_by p 0 0 _ (minus p (s.inverse * w) + s.inverse * (w + v s.b * D s.b s.a)) (omega arith)) (same_trans (same-add (same_refl p (minus p (s.inverse * w))) z1) (same_by p 0 0 _ _ (omega arith))))) in
      let lhs : Same p (boundary_by n D (include p n D s y) s.b) (v s.b) = same_trans (same_by p 0 0 _ _ (ap (λ q. q + p * 0) (boundary-include y s.b))) (same_trans (same-add (same_refl p (v s.b)) z3) (same_by p 0 0 _ _ (omega arith))) in
      let rhs : Same p (boundary_by n (left p D s) y s.b + minus p (s.inverse * boundary_by n D (boundary_by n (left p D s) y) s.a)) (minus p (s.inverse * w)) = same_trans (same-add l0 right) (same_by p 0 0 _ _ (omega arith)) in
      subst (λ (k : ℕ). Same p (boundary_by n D (include p n D s y) k) (include p n D s (boundary_by n (left p D s) y) k)) (sym e) (same_trans lhs (same_trans value (same_sym (same_trans (same_by p 0 0 _ _ (ap (λ q. q + p * 0) (include-at_b (boundary_by n (left p D s) y)))) rhs)))))
      (λ f. let q = include-other (boundary_by n (left p D s) y) g f in let r = project-other v g f in same_trans (same_by p 0 0 _ (project p D s v g) (omega arith)) (same_trans (same_sym (boundary-left y off g)) (same_by p 0 0 _ _ (omega arith))))
      (eqb_cases g s.b)

  pub include-same : (x y : ℕ → ℕ) → ((h : ℕ) → Same p (x h) (y h)) → (g : ℕ) → Same p (include p n D s x g) (include p n D s y g)
  include-same x y e g = elim (eqb g s.b) as (λ v. Same p (cond v (x g + minus p (s.inverse * boundary_by n D x s.a)) (x g)) (cond v (y g + minus p (s.inverse * boundary_by n D y s.a)) (y g))) [
    | true ↦ same-add (e g) (same-scale (p - 1) (same-scale s.inverse (apply-same D x y e s.a)))
    | false ↦ e g
  ]

  pub homotopy-same : (x y : ℕ → ℕ) → ((h : ℕ) → Same p (x h) (y h)) → (g : ℕ) → Same p (homotopy s x g) (homotopy s y g)
  homotopy-same x y e g = elim (eqb g s.b) as (λ v. Same p (cond v (s.inverse * x s.a) 0) (cond v (s.inverse * y s.a) 0)) [ true ↦ same-scale s.inverse (e s.a) | false ↦ same_refl p 0 ]

  pub apply-add : (E : ℕ → ℕ → ℕ) (x y : ℕ → ℕ) (g : ℕ) → boundary_by n E (λ h. x h + y h) g ≡ boundary_by n E x g + boundary_by n E y g
  apply-add E x y g = total-same n (λ h. (x h + y h) * E h g) (λ h. x h * E h g + y h * E h g) (λ h l. omega arith) ∙ total-add n (λ h. x h * E h g) (λ h. y h * E h g)

  pub include-add : (x y : ℕ → ℕ) (g : ℕ) → include p n D s (λ h. x h + y h) g ≡ include p n D s x g + include p n D s y g
  include-add x y g = let a = apply-add D x y s.a in elim (eqb g s.b) as (λ v. cond v (x g + y g + minus p (s.inverse * boundary_by n D (λ h. x h + y h) s.a)) (x g + y g) ≡ cond v (x g + minus p (s.inverse * boundary_by n D x s.a)) (x g) + cond v (y g + minus p (s.inverse * boundary_by n D y s.a)) (y g)) [
    | true ↦ let b = ap (λ q. minus p (s.inverse * q)) a in omega arith
    | false ↦ refl
  ]

  include-scale : (c : ℕ) (x : ℕ → ℕ) (g : ℕ) → include p n D s (λ h. c * x h) g ≡ c * include p n D s x g
  include-scale c x g =
      let a : boundary_by n D (λ h. c * x h) s.a ≡ c * boundary_by n D x s.a = total-same n (λ h. c * x h * D h s.a) (λ h. c * (x h * D h s.a)) (λ h l. omega arith) ∙ total-scale n c (λ h. x h * D h s.a) in
      elim (eqb g s.b) as (λ v. cond v (c * x g + minus p (s.inverse * boundary_by n D (λ h. c * x h) s.a)) (c * x g) ≡ c * cond v (x g + minus p (s.inverse * boundary_by n D x s.a)) (x g)) [
        | true ↦ let b = ap (λ q. minus p (s.inverse * q)) a in omega arith
        | false ↦ refl
      ]

  include-none : (g : ℕ) → include p n D s (λ h. 0) g ≡ 0
  include-none g =
      let a = apply-none s.a in
      elim (eqb g s.b) as (λ v. cond v (0 + minus p (s.inverse * boundary_by n D (λ h. 0) s.a)) 0 ≡ 0) [
        | true ↦ let b = ap (λ q. minus p (s.inverse * q)) a in omega arith
        | false ↦ refl
      ]

  pub include-combination : (m : ℕ) (x : ℕ → ℕ) (y : ℕ → ℕ → ℕ) (g : ℕ) → include p n D s (λ h. total m (λ i. x i * y i h)) g ≡ total m (λ i. x i * include p n D s (y i) g)
  include-combination zero x y g = include-none g
  include-combination (suc m) x y g =
      include-add (λ h. x 0 * y 0 h) (λ h. total m (λ i. x (suc i) * y (suc i) h)) g
      ∙ (let a = include-scale (x 0) (y 0) g in let b = include-combination m (λ i. x (suc i)) (λ i. y (suc i)) g in omega arith)

  pub degrees : degree s.a + 1 ≡ degree s.b
  degrees = ⊎_elim (λ e. e) (λ f. absurd (one_nonzero p two (same_trans (same_sym st.inverts) (same_trans (same-scale s.inverse (bd.lowers s.b s.a f)) (same_by p 0 0 _ _ (omega arith)))))) (cases_eq (degree s.a + 1) (degree s.b))

  -- a row of what is left is the projection of a row
  pub row : (h g : ℕ) → h ≢ s.a → h ≢ s.b → left p D s h g ≡ project p D s (D h) g
  row h g na nb = rw (ne_eqb h s.a na, ne_eqb h s.b nb)

  pub row_none : (h g : ℕ) → (h ≡ s.a) ⊎ (h ≡ s.b) → left p D s h g ≡ 0
  row_none h g c = elim (eqb g s.b) as (λ v. cond v 0 (cond (eqb h s.b) 0 (cond (eqb h s.a) 0 (D h g + minus p (s.inverse * D h s.a * D s.b g)))) ≡ 0) [
    | true ↦ refl
    | false ↦ ⊎_elim (λ e. rw (eq-eqb h s.a e) (elim (eqb h s.b) as (λ v. ◌≡◌ {A = ℕ} (cond v 0 0) 0) [ true ↦ refl | false ↦ refl ])) (λ e. rw (eq-eqb h s.b e)) c
  ]

  pub left_is_boundary : IsBoundary p n degree (left p D s)
  left_is_boundary = record {
    squares_to_zero = λ h g. ⊎_elim
        (λ c. same_by p 0 0 _ _ (omega (arith, total-same n (λ k. left p D s h k * left p D s k g) (λ k. 0) (λ k l. ap (λ v. v * left p D s k g) (row_none h k c) ∙ omega arith), total-zero n)))
        (λ w. same_trans (apply-same (left p D s) (left p D s h) (project p D s (D h)) (λ k. same_by p 0 0 _ _ (ap (λ v. v + p * 0) (row h k w.0 w.1))) g) (same_trans (project-boundary (D h) g) (same_trans (project-same (boundary_by n D (D h)) (λ k. 0) (bd.squares_to_zero h) g) (project_zero g))))
        (pair h);
    lowers = λ h g f. ⊎_elim
        (λ c. same_by p 0 0 _ _ (ap (λ v. v + p * 0) (row_none h g c)))
        (λ w. same_trans (same_by p 0 0 _ _ (ap (λ v. v + p * 0) (row h g w.0 w.1))) (project_lowers h g f))
        (pair h);
  }
    where
      pair : (h : ℕ) → ((h ≡ s.a) ⊎ (h ≡ s.b)) ⊎ ((h ≢ s.a) × (h ≢ s.b))
      pair h = ⊎_elim (λ e. inl (inl e)) (λ f. ⊎_elim (λ e. inl (inr e)) (λ k. inr (f, k)) (cases_eq h s.b)) (cases_eq h s.a)

      project_zero : (g : ℕ) → Same p (project p D s (λ k. 0) g) 0
      project_zero g = elim (eqb g s.b) as (λ v. Same p (cond v 0 (0 + minus p (s.inverse * 0 * D s.b g))) 0) [ true ↦ same_refl p 0 | false ↦ same_by p 0 0 _ _ (omega arith) ]

      project_lowers : (h g : ℕ) → degree g + 1 ≢ degree h → Same p (project p D s (D h) g) 0
      project_lowers h g f =
          let z1 = bd.lowers h g f in
          let z2 : Same p (D h s.a * D s.b g) 0 = ⊎_elim
          (λ e. let d = degrees in same_trans (same-scale (D h s.a) (bd.lowers s.b g (λ q. f (omega arith)))) (same_by p 0 0 _ _ (omega arith)))
          (λ k. same_trans (same-mul (bd.lowers h s.a k) (same_refl p (D s.b g))) (same_by p 0 0 _ _ (omega arith)))
          (cases_eq (degree s.a + 1) (degree h)) in
          elim (eqb g s.b) as (λ v. Same p (cond v 0 (D h g + minus p (s.inverse * D h s.a * D s.b g))) 0) [
            | true ↦ same_refl p 0
            | false ↦ same_trans (same_by p 0 0 _ (D h g + (p - 1) * s.inverse * (D h s.a * D s.b g)) (omega arith)) (same_trans (same-add z1 (same-scale ((p - 1) * s.inverse) z2)) (same_by p 0 0 _ _ (omega arith)))
          ]
