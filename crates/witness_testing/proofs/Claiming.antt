-- The dimensions and the matrices of a claim.
use Rattle.std.proofs.Common.{◌≡◌, ℕ, suc, ◌+◌, ◌*◌, ◌<◌, ◌≤◌, refl, sym, ap, ◌∙◌, subst, arith, ⊎_elim, List, [], ◌∷◌, ◌++◌, length, length-append, get_or, map, take, drop, remove, cond, eqb, eq-eqb, ne_eqb, Bool, true, false}
use Rattle.std.proofs.lemmas.Bool.{cases_lt}
use Rattle.std.proofs.lemmas.List.{length-map, get_or-map, map-append, get_or_append_left, get_or_default, take_all, drop_more}
use Rattle.std.proofs.Math.Seq.{get_or-append_seam}
use Rattle.std.proofs.lemmas.Nat.{mul-le}
use Rattle.leray_conley.specs.Tables.{Table}
use Rattle.witness_laws.specs.Lines.{each}
use Rattle.witness_types.specs.Parts.{beside, degrees_of}
use Rattle.witness_types.specs.Rows.{rows_of, row_of}
use Rattle.witness_types.specs.Answers.{IsMatrixOf, IsClaimWith}
use Rattle.witness_types.specs.declared.part.Claim.{Claim}
use Rattle.witness_sections.proofs.Termwise.{beside-next, beside-few}
use Rattle.witness_testing.specs.Claims.{AreSmall, IsMadeOf, AreMadeOf, AreHigh}
use Rattle.witness_testing.proofs.Lists.{each_more, map_each}

-- one more cycle is counted, or passed
module _ (k i : ℕ) (zs : List (ℕ × List (ℕ × ℕ))) (l : i < length zs) (d : ℕ × List (ℕ × ℕ)) (is : d ≡ get_or zs i d) where
  abbrev ds : List ℕ
  ds = degrees_of zs

  abbrev xs : List (List (ℕ × ℕ))
  xs = map (λ z. z.1) zs

  here : get_or ds i 0 ≡ d.0
  here = get_or-map (λ z. z.0) zs i d 0 l ∙ ap (λ z. z.0) (sym is)

  next : beside k (take (i + 1) ds) (take (i + 1) xs) ≡ beside k (take i ds) (take i xs) ++ cond (eqb (get_or ds i 0) k) (get_or xs i [] ∷ []) []
  next = beside-next k i ds xs (length-map zs (λ z. z.0) ∙ sym (length-map zs (λ z. z.1))) (let e = length-map zs (λ z. z.1) in omega (arith, e, l))

  pub count_here : (n : ℕ) → d.0 ≡ k → n ≡ length (beside k (take i ds) (take i xs)) → n + 1 ≡ length (beside k (take (i + 1) ds) (take (i + 1) xs))
  count_here n e so_far =
      let a = ap length next ∙ length-append (beside k (take i ds) (take i xs)) (cond (eqb (get_or ds i 0) k) (get_or xs i [] ∷ []) []) in
      let b : length (cond (eqb (get_or ds i 0) k) (get_or xs i [] ∷ []) []) ≡ 1 = ap (λ b. length (cond b (get_or xs i [] ∷ []) [])) (eq-eqb (get_or ds i 0) k (here ∙ e)) in
      omega (arith, a, b, so_far)

  pub count_other : (n : ℕ) → (d.0 ≡ k → ⊥) → n ≡ length (beside k (take i ds) (take i xs)) → n ≡ length (beside k (take (i + 1) ds) (take (i + 1) xs))
  count_other n e so_far =
      let a = ap length next ∙ length-append (beside k (take i ds) (take i xs)) (cond (eqb (get_or ds i 0) k) (get_or xs i [] ∷ []) []) in
      let b : length (cond (eqb (get_or ds i 0) k) (get_or xs i [] ∷ []) []) ≡ 0 = ap (λ b. length (cond b (get_or xs i [] ∷ []) [])) (ne_eqb (get_or ds i 0) k (λ f. e (sym here ∙ f))) in
      omega (arith, a, b, so_far)

pub counted : (k i : ℕ) (ds : List ℕ) (xs : List (List (ℕ × ℕ))) → length ds ≡ length xs → length xs ≤ i → beside k (take i ds) (take i xs) ≡ beside k ds xs
counted k i ds xs e l = ap (λ (us : List ℕ). beside k us (take i xs)) (take_all i ds (omega (arith, e, l))) ∙ ap (λ (us : List (List (ℕ × ℕ))). beside k ds us) (take_all i xs l)

-- ---- dimensions

pub dimensions_more : (k : ℕ) (ds : List ℕ) (zs : List (List (ℕ × ℕ))) (counts new : List ℕ) (n : ℕ) → new ≡ counts ++ n ∷ [] → n ≡ length (beside k ds zs)
    → counts ≡ map length (each k (λ j. beside j ds zs ∷ [])) → new ≡ map length (each (k + 1) (λ j. beside j ds zs ∷ []))
dimensions_more k ds zs counts new n e f so_far =
    e ∙ ap (λ (us : List ℕ). us ++ n ∷ []) so_far ∙ ap (λ j. map length (each k (λ i. beside i ds zs ∷ [])) ++ j ∷ []) f
    ∙ sym (ap (map length) (each_more k (λ j. beside j ds zs ∷ [])) ∙ map-append length (each k (λ j. beside j ds zs ∷ [])) (beside k ds zs ∷ []))

-- ---- matrices

no_rows : (t : Table) → t.rows ≡ 0 → rows_of t ≡ []
no_rows t e = ap (λ n. each n (λ r. row_of t r ∷ [])) e

pub made_empty : (t m : Table) (columns : ℕ) → t.rows ≡ 0 → m.rows ≡ 0 → m.columns ≡ columns → IsMadeOf t columns m
made_empty t m columns e f g = record { rows = f ∙ sym e; width = g; entries = no_rows m f ∙ sym (no_rows t e) }

pub made_same : (t m : Table) (columns : ℕ) → t.columns ≡ columns → m.rows ≡ t.rows → m.columns ≡ t.columns → m.entries ≡ t.entries → IsMadeOf t columns m
made_same t m columns e f g h = let same : m ≡ t = λ i. record { rows = f i; columns = g i; entries = h i } in record { rows = f; width = g ∙ e; entries = ap rows_of same }

pub product_small : (r c : ℕ) → r ≤ 4096 → c ≤ 4096 → r * c ≤ 16777216
product_small r c l m = let q = mul-le r c 4096 4096 l m in omega (arith, q)

pub made_none : (tables : List Table) (columns : List ℕ) (ms : List Table) → ms ≡ [] → AreMadeOf tables columns 0 ms
made_none tables columns ms e = record { count = ap length e; each = λ k t l. absurd (omega (arith, l)) }

pub made_more : (tables : List Table) (columns : List ℕ) (i : ℕ) (ms new : List Table) (t m : Table) (c : ℕ) → i < length tables → t ≡ get_or tables i t → c ≡ get_or columns i 0 → new ≡ ms ++ m ∷ [] → IsMadeOf t c m → AreMadeOf tables columns i ms → AreMadeOf tables columns (i + 1) new
made_more tables columns i ms new t m c li et ec en here so_far = record {
  count = ap length en ∙ length-append ms (m ∷ []) ∙ ap (λ n. n + 1) so_far.count;
  each = λ k d l. ⊎_elim
      (λ below. subst (IsMadeOf (get_or tables k d) (get_or columns k 0)) (sym (ap (λ (xs : List Table). get_or xs k d) en ∙ get_or_append_left ms (m ∷ []) d k (omega (arith, below, so_far.count)))) (so_far.each k d below))
      (λ above. let q : i ≡ k = omega (arith, above, l) in
      subst (λ (n : ℕ). IsMadeOf (get_or tables n d) (get_or columns n 0) (get_or new n d)) q
      (subst (IsMadeOf (get_or tables i d) (get_or columns i 0)) (sym (ap (λ (xs : List Table). get_or xs i d) en ∙ ap (λ (n : ℕ). get_or (ms ++ m ∷ []) n d) (sym so_far.count) ∙ get_or-append_seam ms m [] d))
      (subst (λ (u : Table). IsMadeOf u (get_or columns i 0) m) (et ∙ get_or_default tables i t d li) (subst (λ (n : ℕ). IsMadeOf t n m) ec here))))
      (cases_lt k i);
}

-- the claim
pub claimed : {p : ℕ} (claim : Claim p) (tables : List Table) (dims others : List ℕ) → claim.domain.items ≡ dims → claim.range.items ≡ others → length tables ≡ length dims → AreHigh tables others → AreMadeOf tables dims (length dims) claim.matrices.items
    → IsClaimWith claim dims others (map rows_of tables)
claimed claim tables dims others ed er sizes high made = record {
  domain = ed;
  range = er;
  count = made.count ∙ sym sizes ∙ sym (length-map tables rows_of);
  each = λ k t l. let lt : k < length tables = let e = length-map tables rows_of in omega (arith, e, l) in let w = made.each k t (omega (arith, lt, sizes)) in record {
    rows = w.rows ∙ high.each k t lt;
    columns = w.width;
    entries = w.entries ∙ sym (get_or-map rows_of tables k t [] lt);
  };
}

-- ---- the tables that are left

pub first_left : (tables left : List Table) (i : ℕ) (t : Table) → i < length tables → left ≡ drop i tables → t ≡ get_or left 0 t → t ≡ get_or tables i t
first_left tables left i t l e f = f ∙ ap (λ (ys : List Table). get_or ys 0 t) (e ∙ drop_more tables i t l)

pub rest_left : (tables left new : List Table) (i : ℕ) (t : Table) → i < length tables → left ≡ drop i tables → new ≡ remove left 0 → new ≡ drop (i + 1) tables
rest_left tables left new i t l e f = f ∙ ap (λ (ys : List Table). remove ys 0) (e ∙ drop_more tables i t l)
