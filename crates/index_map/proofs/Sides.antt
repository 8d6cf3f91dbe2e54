-- Killed cycles and missed cocycles, from vectors that the matrix of an inclusion kills.
use Rattle.std.proofs.Common.{◌≡◌, ℕ, ◌*◌, subst, arith, ⊎_elim, List, length}
use Rattle.std.proofs.lemmas.Bool.{cases_lt}
use Rattle.field_mod.specs.Modular.{Same, IsField}
use Rattle.field_mod.proofs.Sums.{total-same, total_same}
use Rattle.field_mod.proofs.Modular.{same_sym, same_trans, same-scale}
use Rattle.field_mod.proofs.Solutions.{Solution, solve}
use Rattle.elem_cubes.specs.Cells.{Factor}
use Rattle.elem_cubes.specs.Boundary.{boundary_coefficient}
use Rattle.elem_cubes.specs.Laws.{cell_at}
use Rattle.elem_cubes.proofs.Modular.{exact}
use Rattle.chains.specs.Homology.{System, IsBoundaryOperator, IsChain, IsCycle}
use Rattle.chains.proofs.Systems.{boundary-same, null-same}
use Rattle.cube_sets.specs.Closures.{cells_of}
use Rattle.cell_complex.specs.RelativeComplex.{relative_complex}
use Rattle.cell_complex.proofs.Squares.{relative_complexes_are_complexes}
use Rattle.leray_conley.specs.Products.{transpose}
use Rattle.leray_conley.specs.Kernels.{IsKilled as LeraysKilled}
use Rattle.index_map.specs.Inclusion.{IsKilled, IsMissed, product_on}

-- ---- chains of the same residues

chain_same : {G : Type 0} (p k : ℕ) (K : System G) (z w : G → ℕ) → ((g : G) → Same p (w g) (z g)) → IsChain p K k z → IsChain p K k w
chain_same p k K z w e c = record { on = λ g o. same_trans (e g) (c.on g o); of_degree = λ g f. same_trans (e g) (c.of_degree g f) }

cycle_same : {G : Type 0} (p k : ℕ) (K : System G) (z w : G → ℕ) → IsBoundaryOperator p K → ((g : G) → Same p (w g) (z g)) → IsCycle p K k z → IsCycle p K k w
cycle_same p k K z w op e cy = record { chain = chain_same p k K z w e cy.chain; closed = λ g o. same_trans (boundary-same p K op w z e g o) (cy.closed g o) }

product_same : (p : ℕ) (y : List (List Factor)) (c d e : List Factor → ℕ) → ((g : List Factor) → Same p (e g) (d g)) → Same p (product_on y c e) (product_on y c d)
product_same p y c d e same = total_same p (length (cells_of y)) (λ i. c (cell_at (cells_of y) i) * e (cell_at (cells_of y) i)) (λ i. c (cell_at (cells_of y) i) * d (cell_at (cells_of y) i)) (λ i _. same-scale (c (cell_at (cells_of y) i)) (same (cell_at (cells_of y) i)))

module _ (p k : ℕ) (x a y b : List (List Factor)) (z w : List Factor → ℕ) (e : (g : List Factor) → Same p (w g) (z g)) where
  pub killed_same : IsKilled p x a y b k z → IsKilled p x a y b k w
  killed_same q = record {
    cycle = cycle_same p k (relative_complex p x a) z w (relative_complexes_are_complexes.operator p x a) e q.cycle;
    lives = λ null. q.lives (null-same p (relative_complex p x a) k w z (λ g _. same_sym (e g)) null);
    dies = null-same p (relative_complex p y b) k z w (λ g _. e g) q.dies;
  }

  pub missed_same : IsMissed p x a y b k z → IsMissed p x a y b k w
  missed_same q = record {
    chain = chain_same p k (relative_complex p y b) z w e q.chain;
    coclosed = λ h o. same_trans (product_same p y (boundary_coefficient p h) z w e) (q.coclosed h o);
    images = λ c cy. same_trans (product_same p y c z w e) (q.images c cy);
    seen = q.seen;
    cycle = q.cycle;
    nonzero = λ zero. q.nonzero (same_trans (same_sym (product_same p y q.seen z w e)) zero);
  }

-- ---- matrices that kill no vector

pub killed_sized : (p rows columns m n : ℕ) (entry : ℕ → ℕ → ℕ) (v : ℕ → ℕ) → rows ≡ m → columns ≡ n → LeraysKilled p rows columns entry v → LeraysKilled p m n entry v
killed_sized p rows columns m n entry v e f q = subst (λ r. LeraysKilled p r n entry v) e (subst (λ c. LeraysKilled p rows c entry v) f q)

-- one that kills none on either side is square
pub square : (p m n : ℕ) (entry : ℕ → ℕ → ℕ) → IsField p → ((v : ℕ → ℕ) → LeraysKilled p m n entry v → ⊥) → ((v : ℕ → ℕ) → LeraysKilled p n m (transpose entry) v → ⊥) → m ≡ n
square p m n entry field right left = ⊎_elim
    (λ l. absurd (right (solve p field m n l entry).at (killing m n entry (solve p field m n l entry))))
    (λ l. ⊎_elim
    (λ g. absurd (left (solve p field n m g (transpose entry)).at (killing n m (transpose entry) (solve p field n m g (transpose entry)))))
    (λ g. omega (arith, l, g))
    (cases_lt n m))
    (cases_lt m n)
  where
    killing : (r c : ℕ) (f : ℕ → ℕ → ℕ) (s : Solution p c r f) → LeraysKilled p r c f s.at
    killing r c f s = record {
      place = s.place;
      within = s.within;
      nonzero = s.nonzero;
      kills = λ i l. same_trans (exact p (total-same c (λ j. f i j * s.at j) (λ j. s.at j * f i j) (λ j _. omega arith))) (s.solves i l);
    }
