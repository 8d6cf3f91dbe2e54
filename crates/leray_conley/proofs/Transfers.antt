-- Facts of a matrix pass to one with the same entries
use Rattle.std.proofs.Common.{◌≡◌, ℕ, ◌+◌, ◌*◌, ◌%◌, ◌<◌, sym, ap, List, arith, subst, Option, None, Some, MatchOption}
use Rattle.field_mod.proofs.Sums.{total-same}
use Rattle.field_mod.proofs.Modular.{same_trans}
use Rattle.leray_conley.specs.Kernels.{IsInKernel, IsKilled, IsKernelVector}
use Rattle.leray_conley.specs.Products.{product, power, AreSame}
use Rattle.leray_conley.specs.Inverses.{IsInverse}
use Rattle.leray_conley.specs.Tables.{Table, HasEntries, entry}
use Rattle.leray_conley.proofs.Algebra.{by, chain, mul_left, mul_right}
use Rattle.leray_conley.proofs.Echelons.{same_mod}
use Rattle.leray_conley.proofs.Powers.{power-add}
use Rattle.leray_conley.proofs.Totals.{exact}

module _ (p m n : ℕ) (a b : ℕ → ℕ → ℕ) (h : (i j : ℕ) → i < m → j < n → a i j ≡ b i j) where
  pub kernel_same : (v : ℕ → ℕ) → IsInKernel p m n a v → IsInKernel p m n b v
  kernel_same v z i l = same_trans (exact (total-same n (λ j. b i j * v j) (λ j. a i j * v j) (λ j k. ap (λ (x : ℕ). x * v j) (sym (h i j l k))))) (z i l)

  pub killed_same : (v : ℕ → ℕ) → IsKilled p m n a v → IsKilled p m n b v
  killed_same v k = record { place = k.place; within = k.within; nonzero = k.nonzero; kills = kernel_same v k.kills }

  pub kernel_vector_same : (v : List ℕ) → IsKernelVector p m n a v → IsKernelVector p m n b v
  kernel_vector_same v k = record { len = k.len; below = k.below; killed = killed_same _ k.killed }

-- the kernel of a matrix by the entries that it has
module _ {rows columns : ℕ} {a : ℕ → ℕ → ℕ} (p : ℕ) (m : Table) (h : HasEntries rows columns a m) where
  pub killed_entries : (v : ℕ → ℕ) → IsKilled p rows columns a v → IsKilled p m.rows m.columns (entry m) v
  killed_entries v k = subst (λ (x : ℕ). IsKilled p x m.columns (entry m) v) (sym h.has_rows) (subst (λ (x : ℕ). IsKilled p rows x (entry m) v) (sym h.has_columns) (killed_same p rows columns a (entry m) (λ i j x y. sym (h.at i j x y)) v k))

  pub vector_entries : (v : List ℕ) → IsKernelVector p m.rows m.columns (entry m) v → IsKernelVector p rows columns a v
  vector_entries v k = kernel_vector_same p rows columns (entry m) a h.at v (subst (λ (x : ℕ). IsKernelVector p rows x (entry m) v) h.has_columns (subst (λ (x : ℕ). IsKernelVector p x m.columns (entry m) v) h.has_rows k))

-- both answers of a call pass to weaker ones
pub option_weaker : {X : Type 0} (o : Option X) (P P2 : Type 0) (Q Q2 : X → Type 0) → (P → P2) → ((x : X) → Q x → Q2 x) → MatchOption o P Q → MatchOption o P2 Q2
option_weaker None P P2 Q Q2 f h k = f k
option_weaker (Some x) P P2 Q Q2 f h k = h x k

-- the entries of a product, which are reduced
pub product_same : {rows columns : ℕ} (p k : ℕ) (a b : ℕ → ℕ → ℕ) (m : Table) → HasEntries rows columns (λ i j. product k a b i j % p) m → AreSame p rows columns (entry m) (product k a b)
product_same {rows} {columns} p k a b m h = record { at = λ i j x y. same_trans (exact (h.at i j x y)) (same_mod p (product k a b i j)) }

pub entries_same : {rows columns : ℕ} {a : ℕ → ℕ → ℕ} (p : ℕ) (m : Table) → HasEntries rows columns a m → AreSame p rows columns (entry m) a
entries_same p m h = record { at = λ i j x y. exact (h.at i j x y) }

-- the square of a power
pub record IsSquared (p d e : ℕ) (a : ℕ → ℕ → ℕ) (m : Table) : Type 0 where
  pub rows : m.rows ≡ d
  pub columns : m.columns ≡ d
  pub value : AreSame p d d (entry m) (power d a (2 * e))

pub squared_power : (p d e : ℕ) (a : ℕ → ℕ → ℕ) (c m : Table) → c.rows ≡ d → c.columns ≡ d → AreSame p d d (entry c) (power d a e)
    → HasEntries c.rows c.columns (λ i j. product c.columns (entry c) (entry c) i j % p) m → IsSquared p d e a m
squared_power p d e a c m er ec s h =
    let k : HasEntries d d (λ i j. product d (entry c) (entry c) i j % p) m =
    subst (λ (x : ℕ). HasEntries x d (λ i j. product d (entry c) (entry c) i j % p) m) er (subst (λ (x : ℕ). HasEntries c.rows x (λ i j. product x (entry c) (entry c) i j % p) m) ec h) in
    let q = power d a e in
    let twice : e + e ≡ 2 * e = omega arith in
    record {
      rows = k.has_rows;
      columns = k.has_columns;
      value = subst (λ (n : ℕ). AreSame p d d (entry m) (power d a n)) twice
          (chain (product_same p d (entry c) (entry c) m k) (chain (mul_left p d d d (entry c) q (entry c) s) (chain (mul_right p d d d q (entry c) q s) (by (power-add p d a e e)))));
    }

-- a square matrix with the entries of another kills nothing, and has its inverse
pub unkilled_entries : {n : ℕ} {a : ℕ → ℕ → ℕ} (p d : ℕ) (m : Table) → HasEntries d n a m → n ≡ d → ((v : ℕ → ℕ) → IsKilled p d d a v → ⊥) → (v : ℕ → ℕ) → IsKilled p m.rows m.rows (entry m) v → ⊥
unkilled_entries {n} {a} p d m h e f v k = f v (killed_same p d d (entry m) a (λ i j x y. h.at i j x (omega arith)) v (subst (λ (x : ℕ). IsKilled p x x (entry m) v) h.has_rows k))

pub inverse_entries : {n : ℕ} {a : ℕ → ℕ → ℕ} (p d : ℕ) (m : Table) (w : ℕ → ℕ → ℕ) → HasEntries d n a m → n ≡ d → IsInverse p m.rows (entry m) w → IsInverse p d a w
inverse_entries {n} {a} p d m w h e i =
    let k : IsInverse p d (entry m) w = subst (λ (x : ℕ). IsInverse p x (entry m) w) h.has_rows i in
    let s : AreSame p d d (entry m) a = record { at = λ i j x y. exact (h.at i j x (omega arith)) } in
    (chain (mul_left p d d d a (entry m) w (by s)) k.0, chain (mul_right p d d d w a (entry m) (by s)) k.1)
