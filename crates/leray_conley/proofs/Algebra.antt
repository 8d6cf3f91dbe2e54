-- Products and sums of matrices
use Rattle.std.proofs.Common.{◌≡◌, ℕ, ◌+◌, ◌*◌, ◌∙◌, arith, cond, eqb}
use Rattle.field_mod.proofs.Sums.{total-same, total_same, total-add, total-scale, total-swap, total_none, total-single}
use Rattle.field_mod.proofs.Modular.{same_refl, same_sym, same_trans, same-add, same-scale, same-mul}
use Rattle.field_mod.specs.Sums.{total}
use Rattle.leray_conley.proofs.Totals.{exact, total-at}
use Rattle.leray_conley.specs.Products.{product, identity, AreSame, none}

abbrev pub plus : (ℕ → ℕ → ℕ) → (ℕ → ℕ → ℕ) → ℕ → ℕ → ℕ
plus a b i j = a i j + b i j

pub by : {p m n : ℕ} {a b : ℕ → ℕ → ℕ} → AreSame p m n a b → AreSame p m n b a
by h = record { at = λ i j x y. same_sym (h.at i j x y) }

pub chain : {p m n : ℕ} {a b c : ℕ → ℕ → ℕ} → AreSame p m n a b → AreSame p m n b c → AreSame p m n a c
chain h k = record { at = λ i j x y. same_trans (h.at i j x y) (k.at i j x y) }

pub add : {p m n : ℕ} {a b c d : ℕ → ℕ → ℕ} → AreSame p m n a b → AreSame p m n c d → AreSame p m n (plus a c) (plus b d)
add h k = record { at = λ i j x y. same-add (h.at i j x y) (k.at i j x y) }

products : (k l : ℕ) (a b c : ℕ → ℕ → ℕ) (i j : ℕ) → product l (product k a b) c i j ≡ product k a (product l b c) i j
products k l a b c i j =
    total-same l (λ h. total k (λ g. a i g * b g h) * c h j) (λ h. total k (λ g. a i g * (b g h * c h j))) (λ h x. let e = total-scale k (c h j) (λ g. a i g * b g h) in let f = total-same k (λ g. c h j * (a i g * b g h)) (λ g. a i g * (b g h * c h j)) (λ g y. omega arith) in omega arith)
    ∙ total-swap l k (λ h g. a i g * (b g h * c h j))
    ∙ total-same k (λ g. total l (λ h. a i g * (b g h * c h j))) (λ g. a i g * product l b c g j) (λ g y. total-scale l (a i g) (λ h. b g h * c h j))

module _ (p : ℕ) where
  pub itself : (m n : ℕ) (a : ℕ → ℕ → ℕ) → AreSame p m n a a
  itself m n a = record { at = λ i j x y. same_refl p (a i j) }

  pub mul_left : (m k n : ℕ) (a b c : ℕ → ℕ → ℕ) → AreSame p m k a b → AreSame p m n (product k a c) (product k b c)
  mul_left m k n a b c h = record { at = λ i j x y. total_same p k (λ l. a i l * c l j) (λ l. b i l * c l j) (λ l z. same-mul (h.at i l x z) (same_refl p (c l j))) }

  pub mul_right : (m k n : ℕ) (c a b : ℕ → ℕ → ℕ) → AreSame p k n a b → AreSame p m n (product k c a) (product k c b)
  mul_right m k n c a b h = record { at = λ i j x y. total_same p k (λ l. c i l * a l j) (λ l. c i l * b l j) (λ l z. same-scale (c i l) (h.at l j z y)) }

  pub assoc : (m k l n : ℕ) (a b c : ℕ → ℕ → ℕ) → AreSame p m n (product l (product k a b) c) (product k a (product l b c))
  assoc m k l n a b c = record { at = λ i j x y. exact (products k l a b c i j) }

  pub sum_mul : (m k n : ℕ) (a b c : ℕ → ℕ → ℕ) → AreSame p m n (product k (plus a b) c) (plus (product k a c) (product k b c))
  sum_mul m k n a b c = record { at = λ i j x y. exact (total-same k (λ l. (a i l + b i l) * c l j) (λ l. a i l * c l j + b i l * c l j) (λ l z. omega arith) ∙ total-add k (λ l. a i l * c l j) (λ l. b i l * c l j)) }

  pub mul_sum : (m k n : ℕ) (c a b : ℕ → ℕ → ℕ) → AreSame p m n (product k c (plus a b)) (plus (product k c a) (product k c b))
  mul_sum m k n c a b = record { at = λ i j x y. exact (total-same k (λ l. c i l * (a l j + b l j)) (λ l. c i l * a l j + c i l * b l j) (λ l z. omega arith) ∙ total-add k (λ l. c i l * a l j) (λ l. c i l * b l j)) }

  pub one_mul : (d n : ℕ) (a : ℕ → ℕ → ℕ) → AreSame p d n (product d identity a) a
  one_mul d n a = record { at = λ i j x y. exact (total-at d i (λ l. a l j) x) }

  pub mul_one : (m d : ℕ) (a : ℕ → ℕ → ℕ) → AreSame p m d (product d a identity) a
  mul_one m d a = record { at = λ i j x y. exact (total-same d (λ l. a i l * identity l j) (λ l. cond (eqb j l) 1 0 * a i l) (λ l z. omega arith) ∙ total-single d j 1 (a i) y ∙ omega arith) }

  pub mul_none : (m k n : ℕ) (a : ℕ → ℕ → ℕ) → AreSame p m n (product k a none) none
  mul_none m k n a = record { at = λ i j x y. total_none p k (λ l. a i l * 0) (λ l z. exact (omega arith)) }

  pub none_mul : (m k n : ℕ) (a : ℕ → ℕ → ℕ) → AreSame p m n (product k none a) none
  none_mul m k n a = record { at = λ i j x y. total_none p k (λ l. 0 * a l j) (λ l z. exact (omega arith)) }

  pub sum_none : (m n : ℕ) (a : ℕ → ℕ → ℕ) → AreSame p m n (plus a none) a
  sum_none m n a = record { at = λ i j x y. exact (omega arith) }
