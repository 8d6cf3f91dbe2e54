-- Lists that are filled row by row
use Rattle.std.proofs.Common.{◌≡◌, ℕ, ◌+◌, ◌-◌, ◌*◌, ◌/◌, ◌%◌, ◌<◌, List, [], ◌∷◌, ◌++◌, length, get_or, refl, sym, ap, ◌∙◌, arith, ⊎_elim, subst}
use Rattle.std.proofs.lemmas.Bool.{cases_lt}
use Rattle.std.proofs.lemmas.List.{get_or_append_left, get_or-append_right, get_or-append-add, length_push, length-append}
use Rattle.std.proofs.lemmas.Nat.{div-mul-add, mod-mul-add, mul-add-lt}
use Rattle.field_mod.proofs.Sums.{total-same}
use Rattle.leray_conley.specs.Products.{product, transpose}
use Rattle.leray_conley.specs.Echelons.{IsRightBlock}
use Rattle.leray_conley.proofs.Echelons.{below_cases, pushed_at}
use Rattle.leray_conley.specs.Tables.{Table, HasEntries, entry}

-- es holds the first k entries of the function a, by rows of so many columns, and they are below p
pub record IsFilled (p columns k : ℕ) (a : ℕ → ℕ → ℕ) (es : List ℕ) : Type 0 where
  pub count : length es ≡ k
  pub cells : (q : ℕ) → q < k → get_or es q 0 ≡ a (q / columns) (q % columns)
  pub below : (q : ℕ) → q < k → get_or es q 0 < p

pub filled_none : (p columns : ℕ) (a : ℕ → ℕ → ℕ) → IsFilled p columns 0 a []
filled_none p columns a = record { count = refl; cells = λ q l. absurd (omega arith); below = λ q l. absurd (omega arith) }

pub filled_more : {p columns k : ℕ} {a : ℕ → ℕ → ℕ} {es : List ℕ} (x : ℕ) → IsFilled p columns k a es → x ≡ a (k / columns) (k % columns) → x < p → IsFilled p columns (k + 1) a (es ++ x ∷ [])
filled_more {p} {columns} {k} {a} {es} x h e b = record {
  count = let n = h.count in omega (arith, length_push es x);
  cells = λ q l. pushed_at 0 es x k q (λ y. y ≡ a (q / columns) (q % columns)) h.count l (h.cells q) (λ (m : q ≡ k). rw m e);
  below = λ q l. pushed_at 0 es x k q (λ y. y < p) h.count l (h.below q) (λ m. b);
}

pub filled_entry : {p columns k : ℕ} {a : ℕ → ℕ → ℕ} {es : List ℕ} (rows i j : ℕ) → IsFilled p columns k a es → k ≡ rows * columns → i < rows → j < columns → get_or es (i * columns + j) 0 ≡ a i j
filled_entry {p} {columns} {k} {a} {es} rows i j h e li lj =
    let l = mul-add-lt i columns j rows li lj in
    let d = div-mul-add i columns j lj in
    let m = mod-mul-add i columns j lj in
    h.cells (i * columns + j) (omega arith) ∙ ap (λ (v : ℕ). a v ((i * columns + j) % columns)) d ∙ ap (a i) m

-- the matrix that is made of such a list
pub filled_matrix : {p k c : ℕ} {a : ℕ → ℕ → ℕ} {es : List ℕ} (m : Table) (rows columns : ℕ) → IsFilled p c k a es → c ≡ columns → k ≡ rows * c → m.rows ≡ rows → m.columns ≡ c → m.entries ≡ es → HasEntries rows columns a m
filled_matrix {p} {k} {c} {a} {es} m rows columns h ec ek er em ee = record {
  has_rows = er;
  has_columns = em ∙ ec;
  at = λ i j li lj. ap (λ (v : ℕ). get_or m.entries (i * v + j) 0) em ∙ ap (λ (v : List ℕ). get_or v (i * c + j) 0) ee ∙ filled_entry rows i j h ek li (omega arith);
}

pub map_entries : {rows columns : ℕ} {a : ℕ → ℕ → ℕ} {m : Table} (b : ℕ → ℕ → ℕ) → HasEntries rows columns a m → ((i j : ℕ) → i < rows → j < columns → a i j ≡ b i j) → HasEntries rows columns b m
map_entries b h e = record { has_rows = h.has_rows; has_columns = h.has_columns; at = λ i j li lj. h.at i j li lj ∙ e i j li lj }

-- the same matrix, with its number of columns by another name
pub resized : {rows columns n : ℕ} {a : ℕ → ℕ → ℕ} {m : Table} → HasEntries rows columns a m → columns ≡ n → HasEntries rows n a m
resized h e = record { has_rows = h.has_rows; has_columns = h.has_columns ∙ e; at = λ i j li lj. h.at i j li (omega arith) }

-- a product with a transpose, where the transpose is known
pub product_entries : (p k : ℕ) (a t b : ℕ → ℕ → ℕ) (i j : ℕ) → ((l : ℕ) → l < k → t j l ≡ transpose b j l) → product k a (transpose t) i j % p ≡ product k a b i j % p
product_entries p k a t b i j h = ap (λ v. v % p) (total-same k (λ l. a i l * t j l) (λ l. a i l * b l j) (λ l m. ap (λ v. a i l * v) (h l m)))

-- numbers below p, where more are appended
pub appended_below : (p : ℕ) (es ys : List ℕ) → ((q : ℕ) → q < length es → get_or es q 0 < p) → ((q : ℕ) → q < length ys → get_or ys q 0 < p) → (q : ℕ) → q < length (es ++ ys) → get_or (es ++ ys) q 0 < p
appended_below p es ys f g q l = ⊎_elim
    (λ m. let e : get_or (es ++ ys) q 0 ≡ get_or es q 0 = get_or_append_left es ys 0 q m in rw e (f q m))
    (λ m. let e : get_or (es ++ ys) q 0 ≡ get_or ys (q - length es) 0 = get_or-append_right es ys (length es) q 0 refl m in rw e (g (q - length es) (omega (arith, length-append es ys))))
    (cases_lt q (length es))

-- one more row of a right block
pub block_more : (d r j k : ℕ) (b : ℕ → ℕ → ℕ) (pivot : ℕ → ℕ) (es ys : List ℕ) → IsRightBlock d r b pivot (λ q i. get_or es (q * d + i) 0) j → length es ≡ j * d → k < r → pivot k ≡ j
    → ((i : ℕ) → i < d → get_or ys i 0 ≡ b k (d + i)) → IsRightBlock d r b pivot (λ q i. get_or (es ++ ys) (q * d + i) 0) (j + 1)
block_more d r j k b pivot es ys h e lk ek at = record {
  rows = λ q l. ⊎_elim
      (λ m. let w = h.rows q m in (w.0, w.1, w.2, (λ i y. get_or_append_left es ys 0 (q * d + i) (let z = mul-add-lt q d i j m y in omega arith) ∙ w.3 i y)))
      (λ (m : q ≡ j). (k, lk, (ek ∙ sym m), (λ i y. ap (λ (x : ℕ). get_or (es ++ ys) (x * d + i) 0) m ∙ ap (λ (x : ℕ). get_or (es ++ ys) (x + i) 0) (sym e) ∙ get_or-append-add es ys i 0 ∙ at i y)))
      (below_cases q j l);
}

-- the matrix that is made of such a list
pub block_read : (d r j : ℕ) (b : ℕ → ℕ → ℕ) (pivot : ℕ → ℕ) (es : List ℕ) (m : Table) → IsRightBlock d r b pivot (λ q i. get_or es (q * d + i) 0) j → j ≡ d → m.columns ≡ d → m.entries ≡ es → IsRightBlock d r b pivot (entry m) d
block_read d r j b pivot es m h e ec ee = record {
  rows = λ q l. let w = h.rows q (omega arith) in (w.0, w.1, w.2, (λ i y. ap (λ (x : ℕ). get_or m.entries (q * x + i) 0) ec ∙ ap (λ (x : List ℕ). get_or x (q * d + i) 0) ee ∙ w.3 i y));
}

-- rows of d numbers each, one after the other: row q has Q q i of its number at i
pub rows_more : (d j : ℕ) (Q : ℕ → ℕ → ℕ → Type 0) (es ys : List ℕ) → ((q i : ℕ) → q < j → i < d → Q q i (get_or es (q * d + i) 0)) → length es ≡ j * d
    → ((i : ℕ) → i < d → Q j i (get_or ys i 0)) → (q i : ℕ) → q < j + 1 → i < d → Q q i (get_or (es ++ ys) (q * d + i) 0)
rows_more d j Q es ys h e at q i l y = ⊎_elim
    (λ m. let a : get_or (es ++ ys) (q * d + i) 0 ≡ get_or es (q * d + i) 0 = get_or_append_left es ys 0 (q * d + i) (let z = mul-add-lt q d i j m y in omega arith) in subst (Q q i) (sym a) (h q i m y))
    (λ (m : q ≡ j).
    let b : get_or (es ++ ys) (j * d + i) 0 ≡ get_or ys i 0 = ap (λ (x : ℕ). get_or (es ++ ys) (x + i) 0) (sym e) ∙ get_or-append-add es ys i 0 in
    subst (λ (x : ℕ). Q x i (get_or (es ++ ys) (x * d + i) 0)) (sym m) (subst (Q j i) (sym b) (at i y)))
    (below_cases q j l)

pub rows_read : (d j n : ℕ) (Q : ℕ → ℕ → ℕ → Type 0) (es : List ℕ) (m : Table) → ((q i : ℕ) → q < j → i < d → Q q i (get_or es (q * d + i) 0)) → j ≡ n → m.columns ≡ d → m.entries ≡ es
    → (q i : ℕ) → q < n → i < d → Q q i (entry m q i)
rows_read d j n Q es m h e ec ee q i l y =
    let a : entry m q i ≡ get_or es (q * d + i) 0 = ap (λ (x : ℕ). get_or m.entries (q * x + i) 0) ec ∙ ap (λ (x : List ℕ). get_or x (q * d + i) 0) ee in
    subst (Q q i) (sym a) (h q i (omega arith) y)
