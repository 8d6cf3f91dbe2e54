-- Cycles with dual cocycles are no more than the cells; so matrices are small.
use Rattle.std.proofs.Common.{◌≡◌, ℕ, zero, suc, ◌+◌, ◌*◌, ◌<◌, ◌≤◌, sym, ap, ◌∙◌, arith, ⊎_elim, List, length, get_or, map, cond, eqb, Bool, true, false, filter, [], ◌∷◌}
use Rattle.std.proofs.lemmas.Bool.{cases_lt}
use Rattle.field_mod.specs.Sums.{total}
use Rattle.field_mod.specs.Modular.{Same, IsField}
use Rattle.field_mod.proofs.Sums.{total-same, total-single, total_same, total_none}
use Rattle.field_mod.proofs.Modular.{same_refl, same_sym, same_trans, same-scale}
use Rattle.field_mod.proofs.Solutions.{Solution, solve}
use Rattle.elem_cubes.specs.Cells.{Factor}
use Rattle.elem_cubes.specs.Laws.{cell_at}
use Rattle.elem_cubes.proofs.Modular.{exact}
use Rattle.acyclic_values.proofs.Sums.{total_total}
use Rattle.witness_laws.specs.Sections.{Section, IsDualAt}

pick_one : (m i : ℕ) (x : ℕ → ℕ) → i < m → total m (λ j. x j * cond (eqb i j) 1 0) ≡ x i
pick_one m i x l = total-same m (λ j. x j * cond (eqb i j) 1 0) (λ j. cond (eqb i j) 1 0 * x j) (λ j _. omega arith) ∙ total-single m i 1 x l ∙ omega arith

pub filter_short : (test : List Factor → Bool) (xs : List (List Factor)) → length (filter test xs) ≤ length xs
filter_short test [] = omega arith
filter_short test (x ∷ xs) = few (test x) (filter test xs) (filter_short test xs)
  where
    few : (b : Bool) (ys : List (List Factor)) → length ys ≤ length xs → length (cond b (x ∷ ys) ys) ≤ length (x ∷ xs)
    few true ys h = omega (arith, h)
    few false ys h = omega (arith, h)

pub total_bound : (n b : ℕ) (f : ℕ → ℕ) → ((i : ℕ) → i < n → f i ≤ b) → total n f ≤ n * b
total_bound zero b f h = omega arith
total_bound (suc n) b f h = let a = h 0 (omega arith) in let r = total_bound n b (λ i. f (suc i)) (λ i l. h (suc i) (omega (arith, l))) in let e : suc n * b ≡ b + n * b = omega arith in omega (arith, a, r, e)

module _ (p : ℕ) (field : IsField p) (cells : List (List Factor)) (S : Section) (k : ℕ) (dual : (i : ℕ) → i < S.size k → IsDualAt p cells S k i) where
  abbrev n : ℕ
  n = length cells

  abbrev m : ℕ
  m = S.size k

  abbrev z : ℕ → ℕ → ℕ
  z j i = S.cycle k j (cell_at cells i)

  no_more : n < m → ⊥
  no_more l =
      let s : Solution p m n (λ i j. z j i) = solve p field n m l (λ i j. z j i) in
      let d : ℕ → ℕ = λ i. S.cocycle k s.place (cell_at cells i) in
      let by_cocycle : Same p (total m (λ j. s.at j * total n (λ i. d i * z j i))) (s.at s.place) = same_trans
      (total_same p m (λ j. s.at j * total n (λ i. d i * z j i)) (λ j. s.at j * cond (eqb s.place j) 1 0) (λ j q. same-scale (s.at j) (dual s.place s.within j q)))
      (exact p (pick_one m s.place s.at s.within)) in
      let turned : total m (λ j. s.at j * total n (λ i. d i * z j i)) ≡ total n (λ i. total m (λ j. s.at j * z j i) * d i) =
      total-same m (λ j. s.at j * total n (λ i. d i * z j i)) (λ j. s.at j * total n (λ i. z j i * d i)) (λ j q. ap (λ v. s.at j * v) (total-same n (λ i. d i * z j i) (λ i. z j i * d i) (λ i r. omega arith)))
      ∙ sym (total_total m n s.at (λ j i. z j i) d) in
      let none : Same p (total n (λ i. total m (λ j. s.at j * z j i) * d i)) 0 = total_none p n (λ i. total m (λ j. s.at j * z j i) * d i) (λ i q.
      same_trans (exact p (let v : ℕ = total m (λ j. s.at j * z j i) in let c : v * d i ≡ d i * v = omega arith in c)) (same_trans (same-scale (d i) (s.solves i q)) (exact p (let e : d i * 0 ≡ 0 = omega arith in e)))) in
      s.nonzero (same_trans (same_sym by_cocycle) (same_trans (exact p turned) none))

  pub dual_few : m ≤ n
  dual_few = ⊎_elim (λ l. absurd (no_more l)) (λ l. l) (cases_lt n m)
