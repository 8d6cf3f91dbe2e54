-- Leray data exist
use Rattle.std.proofs.Common.{◌≡◌, ℕ, zero, suc, ◌+◌, ◌-◌, ◌*◌, ◌≤◌, inl, inr, refl, sym, ap, ◌∙◌, arith, ltb, lt-ltb, le-ltb, cond}
use Rattle.field_mod.specs.Sums.{total}
use Rattle.field_mod.specs.Modular.{IsField}
use Rattle.field_mod.proofs.Sums.{total-same}
use Rattle.field_mod.proofs.Modular.{same_trans}
use Rattle.leray_conley.proofs.Totals.{exact}
use Rattle.leray_conley.specs.Products.{product, identity, none}
use Rattle.leray_conley.specs.Splitting.{beside, Splitting, IsLeraySplitting, SplittingsExist}
use Rattle.leray_conley.proofs.Algebra.{plus, by, chain, one_mul, mul_one, sum_none}
use Rattle.leray_conley.proofs.Inverses.{inverse_or_kernel}
use Rattle.leray_conley.proofs.Blocks.{Parts, IsParts, small, larger, larger_is_parts}
use Rattle.leray_conley.proofs.Complements.{into, onto, place, split, scaled_dead}

pub parts : (p : ℕ) → IsField p → (d : ℕ) (a : ℕ → ℕ → ℕ) → (X : Parts) × IsParts p d a X
parts p field zero a = (
  record { rank = 0; nullity = 0; image = none; kernel = none; reduced = none; inverse = none; top = none; bottom = none },
  record {
    sizes = refl;
    splits = record { at = λ i j x y. absurd (omega arith) };
    dies = record { at = λ i j x y. absurd (omega arith) };
    reduces = record { at = λ i j x y. absurd (omega arith) };
    inverts = record { at = λ i j x y. absurd (omega arith) };
    back = record { at = λ i j x y. absurd (omega arith) };
  },
)
parts p field (suc e) a =
    elim (inverse_or_kernel p (suc e) a field) [
      | inl b ↦ (
        record { rank = suc e; nullity = 0; image = identity; kernel = none; reduced = a; inverse = b.0; top = identity; bottom = none },
        record {
          sizes = omega arith;
          splits = chain (sum_none p (suc e) (suc e) (product (suc e) identity identity)) (one_mul p (suc e) (suc e) identity);
          dies = record { at = λ i j x y. absurd (omega arith) };
          reduces = chain (mul_one p (suc e) (suc e) a) (by (one_mul p (suc e) (suc e) a));
          inverts = b.1.0;
          back = b.1.1;
        },
      )
      | inr k ↦
          let w = k.0 in
          let h = k.1 in
          let one : 1 ≤ p = let t = field.above_one in omega arith in
          let inv = field.inverse (w h.place) h.nonzero in
          let v : ℕ → ℕ = λ i. inv.0 * w i in
          let low : h.place ≤ e = let t = h.within in omega arith in
          let sp = split p e h.place v one low inv.1 in
          let de = scaled_dead p (suc e) a w inv.0 h in
          let s : ℕ → ℕ → ℕ = into p e h.place v one low inv.1 in
          let q : ℕ → ℕ → ℕ = onto p e h.place v one low inv.1 in
          let u : ℕ → ℕ → ℕ = place p e h.place v one low inv.1 in
          let r = parts p field e (small p (suc e) e one refl a s q (λ i j. v i) u sp de) in
          (larger p (suc e) e one refl a s q (λ i j. v i) u sp de r.0 r.1, larger_is_parts p (suc e) e one refl a s q (λ i j. v i) u sp de r.0 r.1)
    ]

pub total-split : (r n d : ℕ) (f : ℕ → ℕ) → r + n ≡ d → total d f ≡ total r f + total n (λ i. f (r + i))
total-split zero n d f e = let q : n ≡ d = omega arith in ap (λ m. total m f) (sym q) ∙ total-same n f (λ i. f (0 + i)) (λ i l. ap f (omega arith)) ∙ omega arith
total-split (suc r) n zero f e = absurd (omega arith)
total-split (suc r) n (suc d) f e = omega (arith, total-split r n d (λ i. f (suc i)) (omega arith), total-same n (λ i. f (suc (r + i))) (λ i. f (suc r + i)) (λ i l. ap f (omega arith)))

module _ (p d : ℕ) (a : ℕ → ℕ → ℕ) (X : Parts) (h : IsParts p d a X) where
  abbrev data_of : Splitting
  data_of = record {
    rank = X.rank;
    image = X.image;
    kernel = X.kernel;
    reduced = X.reduced;
    reduced_inverse = X.inverse;
    split_inverse = λ i j. cond (ltb i X.rank) (X.top i j) (X.bottom (i - X.rank) j);
  }

  in_blocks : (i j : ℕ) → product d (beside X.rank X.image X.kernel) data_of.split_inverse i j ≡ plus (product X.rank X.image X.top) (product X.nullity X.kernel X.bottom) i j
  in_blocks i j =
      let f : ℕ → ℕ = λ l. beside X.rank X.image X.kernel i l * data_of.split_inverse l j in
      let e1 = total-split X.rank X.nullity d f h.sizes in
      let e2 = total-same X.rank f (λ l. X.image i l * X.top l j) (λ l m. rw (lt-ltb l X.rank m) refl) in
      let e3 = total-same X.nullity (λ l. f (X.rank + l)) (λ l. X.kernel i l * X.bottom l j) (λ l m. let b = le-ltb (X.rank + l) X.rank (omega arith) in let c : X.rank + l - X.rank ≡ l = omega arith in rw (b, c) refl) in
      omega arith

  pub splitting_of : IsLeraySplitting p d a data_of
  splitting_of = record {
    fits = let s = h.sizes in omega arith;
    splits = record { at = λ i j x y. same_trans (exact (in_blocks i j)) (h.splits.at i j x y) };
    dies = record { at = λ i j x y. h.dies.at i j x (let s = h.sizes in omega arith) };
    reduces = h.reduces;
    inverts = h.inverts;
  }

pub splittings_exist : SplittingsExist
splittings_exist p d a field = let x = parts p field d a in (data_of p d a x.0 x.1, splitting_of p d a x.0 x.1)
