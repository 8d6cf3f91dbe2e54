-- Two bases have one length: a longer list of cycles has a null combination that is not 0
use Rattle.std.proofs.Common.{◌≡◌, ℕ, ◌+◌, ◌*◌, ◌<◌, sym, ◌∙◌, arith, mul_comm, ⊎_elim, true}
use Rattle.std.proofs.lemmas.Bool.{cases_lt}
use Rattle.field_mod.specs.Sums.{total}
use Rattle.field_mod.specs.Modular.{Same, IsField}
use Rattle.field_mod.proofs.Sums.{total-same, total-zero, total-add, total-scale, total-swap, total_same}
use Rattle.field_mod.proofs.Modular.{same_by, same_refl, same_sym, same_trans, same-add, same-scale, same-mul}
use Rattle.chains.specs.Homology.{System, IsChain, IsBasis, combination, IsBoundaryOperator}
use Rattle.chains.proofs.Systems.{chain-zero, chain-combination}
use Rattle.field_mod.proofs.Solutions.{solve}

-- how a cycle w of one basis is spanned by the other, where it is one
record Spanning {G : Type 0} (p : ℕ) (K : System G) (k m : ℕ) (z : ℕ → G → ℕ) (w : G → ℕ) (inside : Type 0) : Type 0 where
  x : ℕ → ℕ
  filling : G → ℕ
  chain : IsChain p K (k + 1) filling
  differs : inside → (g : G) → K.on g ≡ true → Same p (w g) (combination m x z g + K.boundary filling g)

spanning : {G : Type 0} (p : ℕ) (K : System G) (k m n : ℕ) (z w : ℕ → G → ℕ) → IsBasis p K k m z → IsBasis p K k n w → (j : ℕ) → Spanning p K k m z (w j) (j < n)
spanning p K k m n z w bz bw j = ⊎_elim
    (λ l. let s = bz.spanning (w j) (bw.cycles j l) in record { x = s.x; filling = s.filling; chain = s.chain; differs = λ _. s.differs })
    (λ l. record { x = λ i. 0; filling = λ h. 0; chain = chain-zero p K (k + 1); differs = λ q. absurd (omega arith) })
    (cases_lt j n)

-- a combination y of spanned cycles, where y solves the equations of their coefficients, is the combination of the boundaries
fills_at : (p m n : ℕ) (y : ℕ → ℕ) (a : ℕ → ℕ → ℕ) (z w c : ℕ → ℕ) → ((i : ℕ) → i < m → Same p (total n (λ j. y j * a i j)) 0) → ((j : ℕ) → j < n → Same p (w j) (total m (λ i. a i j * z i) + c j)) → Same p (total n (λ j. y j * w j)) (total n (λ j. y j * c j))
fills_at p m n y a z w c solves spans =
    let t : ℕ → ℕ = λ j. total m (λ i. a i j * z i) in
    let e1 : Same p (total n (λ j. y j * w j)) (total n (λ j. y j * (t j + c j))) = total_same p n (λ j. y j * w j) (λ j. y j * (t j + c j)) (λ j q. same-scale (y j) (spans j q)) in
    let e2 = total-same n (λ j. y j * (t j + c j)) (λ j. y j * t j + y j * c j) (λ j q. omega arith) in
    let e3 = total-add n (λ j. y j * t j) (λ j. y j * c j) in
    let e5 : total n (λ j. y j * t j) ≡ total m (λ i. total n (λ j. y j * a i j) * z i) =
    total-same n (λ j. y j * t j) (λ j. total m (λ i. y j * (a i j * z i))) (λ j q. sym (total-scale m (y j) (λ i. a i j * z i)))
    ∙ total-swap n m (λ j i. y j * (a i j * z i))
    ∙ total-same m (λ i. total n (λ j. y j * (a i j * z i))) (λ i. total n (λ j. y j * a i j) * z i) (λ i q. total-same n (λ j. y j * (a i j * z i)) (λ j. z i * (y j * a i j)) (λ j q. omega arith) ∙ total-scale n (z i) (λ j. y j * a i j) ∙ mul_comm (z i) (total n (λ j. y j * a i j))) in
    let e6 : Same p (total m (λ i. total n (λ j. y j * a i j) * z i)) (total m (λ i. 0 * z i)) = total_same p m (λ i. total n (λ j. y j * a i j) * z i) (λ i. 0 * z i) (λ i q. same-mul (solves i q) (same_refl p (z i))) in
    let e7 = total-same m (λ i. 0 * z i) (λ i. 0) (λ i q. omega arith) in
    let e8 = total-zero m in
    let rest = total n (λ j. y j * c j) in
    same_trans e1 (same_trans (same_by p 0 0 _ (total m (λ i. total n (λ j. y j * a i j) * z i) + rest) (omega arith)) (same_trans (same-add e6 (same_refl p rest)) (same_by p 0 0 _ _ (omega arith))))

no_longer : {G : Type 0} (p : ℕ) (K : System G) (k m n : ℕ) (z w : ℕ → G → ℕ) → IsField p → IsBoundaryOperator p K → IsBasis p K k m z → IsBasis p K k n w → m < n → ⊥
no_longer p K k m n z w field b bz bw l =
    let sp : (j : ℕ) → Spanning p K k m z (w j) (j < n) = spanning p K k m n z w bz bw in
    let a : ℕ → ℕ → ℕ = λ i j. (sp j).x i in
    let s = solve p field m n l a in
    s.nonzero (bw.independent s.at (record {
      filling = combination n s.at (λ j. (sp j).filling);
      chain = chain-combination p K (k + 1) n s.at (λ j. (sp j).filling) (λ j q. (sp j).chain);
      fills = λ g o. same_trans
          (fills_at p m n s.at a (λ i. z i g) (λ j. w j g) (λ j. K.boundary (sp j).filling g) s.solves (λ j q. (sp j).differs q g o))
          (same_sym (b.linear n s.at (λ j. (sp j).filling) g o));
    }) s.place s.within)

pub one_length : {G : Type 0} (p k m n : ℕ) (K : System G) (z w : ℕ → G → ℕ) → IsField p → IsBoundaryOperator p K → IsBasis p K k m z → IsBasis p K k n w → m ≡ n
one_length p k m n K z w field b bz bw =
    let no : m < n → ⊥ = no_longer p K k m n z w field b bz bw in
    let on : n < m → ⊥ = no_longer p K k n m w z field b bw bz in
    ⊎_elim (λ l. absurd (no l)) (λ h. ⊎_elim (λ l. absurd (on l)) (λ q. omega arith) (cases_lt n m)) (cases_lt m n)
