-- How many cycles a degree has, in lists by degree that are laid flat.
use Rattle.std.proofs.Common.{◌≡◌, ℕ, zero, suc, ◌+◌, ◌<◌, ◌≤◌, refl, sym, ap, ◌∙◌, arith, ⊎_elim, List, [], ◌∷◌, ◌++◌, length, map, false, cond, ne_eqb}
use Rattle.std.proofs.lemmas.List.{get_or_past}
use Rattle.std.proofs.lemmas.Bool.{true≢false, cases_Bool, cases_lt, eqb-true, eq-eqb}
use Rattle.std.specs.Prelude.{◌==◌}
use Rattle.homology_basis.specs.Bases.{in_degree}
use Rattle.witness_types.specs.Parts.{beside, by_degree, degrees_of}
use Rattle.witness_runs.specs.Cycles.{AreCycles}
use Rattle.witness_reading.proofs.Flat.{flat_from}
use Rattle.witness_reading.proofs.Degrees.{each_at, each_past}
use Rattle.map_lines.specs.Matrices.{size_in}

block_here : (k : ℕ) (xs : List (List (ℕ × ℕ))) (us : List (ℕ × List (ℕ × ℕ))) → size_in (map (λ x. (k, x)) xs ++ us) k ≡ length xs + size_in us k
block_here k [] us = omega arith
block_here k (x ∷ xs) us =
    ap (λ b. length (cond b (x ∷ beside k (degrees_of (map (λ x. (k, x)) xs ++ us)) (map (λ (z : ℕ × List (ℕ × ℕ)). z.1) (map (λ x. (k, x)) xs ++ us)))
    (beside k (degrees_of (map (λ x. (k, x)) xs ++ us)) (map (λ (z : ℕ × List (ℕ × ℕ)). z.1) (map (λ x. (k, x)) xs ++ us))))) (eq-eqb k k refl)
    ∙ (let r = block_here k xs us in omega arith)

block_other : (low k : ℕ) (xs : List (List (ℕ × ℕ))) (us : List (ℕ × List (ℕ × ℕ))) → (low ≡ k → ⊥) → size_in (map (λ x. (low, x)) xs ++ us) k ≡ size_in us k
block_other low k [] us n = refl
block_other low k (x ∷ xs) us n =
    ap (λ b. length (cond b (x ∷ beside k (degrees_of (map (λ x. (low, x)) xs ++ us)) (map (λ (z : ℕ × List (ℕ × ℕ)). z.1) (map (λ x. (low, x)) xs ++ us)))
    (beside k (degrees_of (map (λ x. (low, x)) xs ++ us)) (map (λ (z : ℕ × List (ℕ × ℕ)). z.1) (map (λ x. (low, x)) xs ++ us))))) (ne_eqb low k n)
    ∙ block_other low k xs us n

flat_outside : (low n k : ℕ) (f : ℕ → List (List (ℕ × ℕ))) → ((i : ℕ) → low ≤ i → i < low + n → i ≡ k → ⊥) → size_in (flat_from low n f) k ≡ 0
flat_outside low zero k f h = refl
flat_outside low (suc n) k f h =
    block_other low k (f low) (flat_from (suc low) n f) (h low (omega arith) (omega arith)) ∙ flat_outside (suc low) n k f (λ i l m e. h i (omega arith) (omega arith) e)

flat_inside : (low n k : ℕ) (f : ℕ → List (List (ℕ × ℕ))) → low ≤ k → k < low + n → size_in (flat_from low n f) k ≡ length (f k)
flat_inside low zero k f l m = absurd (omega arith)
flat_inside low (suc n) k f l m = ⊎_elim
    (λ e. let q : low ≡ k = eqb-true low k e in
    ap (λ (i : ℕ). size_in (map (λ x. (i, x)) (f i) ++ flat_from (suc low) n f) k) q
    ∙ block_here k (f k) (flat_from (suc low) n f)
    ∙ (let z : size_in (flat_from (suc low) n f) k ≡ 0 = flat_outside (suc low) n k f (λ i a b c. omega arith) in omega arith))
    (λ e. let q : low ≡ k → ⊥ = other e in
    block_other low k (f low) (flat_from (suc low) n f) q ∙ flat_inside (suc low) n k f (further q) (omega arith))
    (cases_Bool (low == k))
  where
    other : (low == k) ≡ false → low ≡ k → ⊥
    other e q = absurd (true≢false (sym (eq-eqb low k q) ∙ e))

    further : (low ≡ k → ⊥) → suc low ≤ k
    further q = ⊎_elim (λ m. m) (λ m. absurd (q (omega arith))) (cases_lt low k)

-- lists by degree, laid flat, have as many cycles in each degree
pub flat_size : (n : ℕ) (lists : List (List (List (ℕ × ℕ)))) → length lists ≡ n → (k : ℕ) → size_in (flat_from 0 n (in_degree lists)) k ≡ length (in_degree lists k)
flat_size n lists e k = ⊎_elim
    (λ l. flat_inside 0 n k (in_degree lists) (omega arith) (omega arith))
    (λ l. flat_outside 0 n k (in_degree lists) (λ i a b c. omega arith) ∙ sym (ap length (get_or_past lists k [] (omega arith))))
    (cases_lt k n)

-- cycles of degrees up to top have none above
none_above : (p low top k : ℕ) (zs : List (ℕ × List (ℕ × ℕ))) → AreCycles p low top zs → top < k → size_in zs k ≡ 0
none_above p low top k [] a l = refl
none_above p low top k (z ∷ zs) a l =
    let w = within z.0 zs a.2 in
    let n : z.0 ≡ k → ⊥ = λ e. omega arith in
    ap (λ b. length (cond b (z.1 ∷ beside k (degrees_of zs) (map (λ (y : ℕ × List (ℕ × ℕ)). y.1) zs)) (beside k (degrees_of zs) (map (λ (y : ℕ × List (ℕ × ℕ)). y.1) zs)))) (ne_eqb z.0 k n)
    ∙ none_above p z.0 top k zs a.2 l
  where
    within : (from : ℕ) (ds : List (ℕ × List (ℕ × ℕ))) → AreCycles p from top ds → from ≤ top
    within from [] b = b
    within from (d ∷ ds) b = let x = b.0 in let y = within d.0 ds b.2 in omega arith

-- and lists by degree of flat ones have them
pub degree_size : (p top : ℕ) (zs : List (ℕ × List (ℕ × ℕ))) → AreCycles p 0 top zs → (k : ℕ)
    → length (in_degree (by_degree top (degrees_of zs) (map (λ (z : ℕ × List (ℕ × ℕ)). z.1) zs)) k) ≡ size_in zs k
degree_size p top zs a k = ⊎_elim
    (λ l. ap length (each_at (suc top) (λ i. beside i (degrees_of zs) (map (λ (z : ℕ × List (ℕ × ℕ)). z.1) zs)) k [] l))
    (λ l. ap length (each_past (suc top) (λ i. beside i (degrees_of zs) (map (λ (z : ℕ × List (ℕ × ℕ)). z.1) zs)) k [] (omega arith)) ∙ sym (none_above p 0 top k zs a (omega arith)))
    (cases_lt k (suc top))

pub size_above : (p top : ℕ) (zs : List (ℕ × List (ℕ × ℕ))) → AreCycles p 0 top zs → (k : ℕ) → suc top ≤ k → size_in zs k ≡ 0
size_above p top zs a k l = none_above p 0 top k zs a (omega arith)
