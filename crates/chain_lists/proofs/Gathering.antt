-- Lists that grow by terms, and transposes made of them.
use Rattle.std.proofs.Common.{◌≡◌, ◌≢◌, ℕ, zero, suc, ◌+◌, ◌%◌, ◌<◌, ◌≤◌, refl, sym, ap, ◌∙◌, arith, ⊎_elim, List, [], ◌∷◌, ◌++◌, length, get_or, set, map, take, subst, Bool, true, false, cond, eqb, ltb, eq-eqb, ne_eqb}
use Rattle.std.proofs.lemmas.Bool.{cases_eq, cases_lt, lt-ltb, le-ltb}
use Rattle.std.proofs.lemmas.List.{map-set, length-map, length-set, length-append, get_or-set_same, get_or-set_other, get_or_append_left, get_or_past, get_or_default, take_more, take_all}
use Rattle.std.proofs.lemmas.List as lists
use Rattle.std.proofs.Math.Seq.{get_or-append_seam}
use native.Mathlib.Nat.{mod-mod}
use Rattle.field_mod.proofs.Modular.{same_trans}
use Rattle.chains.specs.Terms.{coefficient, nth_chain, IsNormal}
use Rattle.chains.proofs.TermLists.{coefficient-append}
use Rattle.chain_lists.specs.Lists.{AddsColumn, AreSums, IsTranspose}

-- ---- one more term

pub listed : {A : Type 0} (f : A → List (ℕ × ℕ)) (xs : List A) (old : List (List (ℕ × ℕ))) (n : ℕ) → map f xs ≡ old → n < length old → n < length xs
listed f xs old n e l = let a = ap length e in let b = length-map xs f in omega arith

module _ {A : Type 0} (f : A → List (ℕ × ℕ)) (xs now : List A) (old : List (List (ℕ × ℕ))) (i : ℕ) (y z : A) (t : ℕ × ℕ) (seen : map f xs ≡ old) (inside : i < length xs)
    (there : z ≡ get_or xs i z) (more : f y ≡ f z ++ t ∷ []) (changed : now ≡ set xs i y) where
  pub push_here : get_or (map f now) i [] ≡ get_or old i [] ++ t ∷ []
  push_here = ap (λ (l : List A). get_or (map f l) i []) changed ∙ ap (λ (l : List (List (ℕ × ℕ))). get_or l i []) (map-set f xs i y)
      ∙ get_or-set_same (map f xs) i (f y) [] (subst (λ (l : ℕ). i < l) (sym (length-map xs f)) inside)
      ∙ more ∙ ap (λ (l : List (ℕ × ℕ)). l ++ t ∷ []) (ap f there ∙ sym (lists.get_or-map f xs i z [] inside) ∙ ap (λ (l : List (List (ℕ × ℕ))). get_or l i []) seen)

  pub push_other : (n : ℕ) → n ≢ i → get_or (map f now) n [] ≡ get_or old n []
  push_other n e = ap (λ (l : List A). get_or (map f l) n []) changed ∙ ap (λ (l : List (List (ℕ × ℕ))). get_or l n []) (map-set f xs i y)
      ∙ get_or-set_other (map f xs) i n (f y) [] e ∙ ap (λ (l : List (List (ℕ × ℕ))). get_or l n []) seen

-- ---- lists without terms

pub record EmptyTo {A : Type 0} (f : A → List (ℕ × ℕ)) (xs : List A) (i : ℕ) : Type 0 where
  pub count : length xs ≡ i
  pub empty : (n : ℕ) → get_or (map f xs) n [] ≡ []

pub empty_more : {A : Type 0} (f : A → List (ℕ × ℕ)) (xs now : List A) (y : A) (i : ℕ) → now ≡ xs ++ y ∷ [] → f y ≡ [] → EmptyTo f xs i → EmptyTo f now (i + 1)
empty_more {A} f xs now y i e none s = record {
  count = ap length e ∙ length-append xs (y ∷ []) ∙ ap (λ (k : ℕ). k + 1) s.count;
  empty = λ n. ap (λ (ys : List A). get_or (map f ys) n []) e ∙ more xs s.empty n;
}
  where
    more : (xs : List A) → ((n : ℕ) → get_or (map f xs) n [] ≡ []) → (n : ℕ) → get_or (map f (xs ++ y ∷ [])) n [] ≡ []
    more [] h zero = none
    more [] h (suc n) = refl
    more (x ∷ xs) h zero = h 0
    more (x ∷ xs) h (suc n) = more xs (λ k. h (suc k)) n

-- ---- a column, term by term

split : (v : Bool) (x y : ℕ) → cond v (x + y) 0 ≡ cond v x 0 + (cond v y 0 + 0)
split true x y = omega arith
split false x y = omega arith

none_here : (v : Bool) → ◌≡◌ {A = ℕ} (cond v 0 0) 0
none_here true = refl
none_here false = refl

pub record ColumnTo (column : ℕ) (ts : List (ℕ × ℕ)) (old now : List (List (ℕ × ℕ))) (i : ℕ) : Type 0 where
  pub count : length now ≡ length old
  pub added : (g h : ℕ) → g < length old → nth_chain now g h ≡ nth_chain old g h + cond (eqb column h) (coefficient (take i ts) g) 0

pub column_start : (column : ℕ) (ts : List (ℕ × ℕ)) (old : List (List (ℕ × ℕ))) → ColumnTo column ts old old 0
column_start column ts old = record { count = refl; added = λ g h l. let z = none_here (eqb column h) in omega arith }

next_coefficient : (ts : List (ℕ × ℕ)) (t : ℕ × ℕ) (i g : ℕ) → i < length ts → t ≡ get_or ts i (0, 0) → coefficient (take (i + 1) ts) g ≡ coefficient (take i ts) g + (cond (eqb t.0 g) t.1 0 + 0)
next_coefficient ts t i g l et = ap (λ us. coefficient us g) (take_more ts i (0, 0) l ∙ ap (λ (u : ℕ × ℕ). take i ts ++ u ∷ []) (sym et)) ∙ coefficient-append (take i ts) (t ∷ []) g

next_other : (ts : List (ℕ × ℕ)) (t : ℕ × ℕ) (i g : ℕ) → i < length ts → t ≡ get_or ts i (0, 0) → g ≢ t.0 → coefficient (take (i + 1) ts) g ≡ coefficient (take i ts) g
next_other ts t i g l et f = next_coefficient ts t i g l et ∙ ap (λ b. coefficient (take i ts) g + (cond b t.1 0 + 0)) (ne_eqb t.0 g (λ e. f (sym e))) ∙ omega arith

pub column_next : (column : ℕ) (ts : List (ℕ × ℕ)) (old now new : List (List (ℕ × ℕ))) (t : ℕ × ℕ) (i : ℕ) → i < length ts → t ≡ get_or ts i (0, 0) → length new ≡ length now
    → get_or new t.0 [] ≡ get_or now t.0 [] ++ (column, t.1) ∷ [] → ((n : ℕ) → n ≢ t.0 → get_or new n [] ≡ get_or now n []) → ColumnTo column ts old now i → ColumnTo column ts old new (i + 1)
column_next column ts old now new t i l et count here others s = record {
  count = count ∙ s.count;
  added = λ g h lg. ⊎_elim
      (λ (e : g ≡ t.0).
      let a : nth_chain new g h ≡ nth_chain now g h + (cond (eqb column h) t.1 0 + 0) = ap (λ n. coefficient (get_or new n []) h) e ∙ ap (λ us. coefficient us h) here ∙ coefficient-append (get_or now t.0 []) ((column, t.1) ∷ []) h ∙ ap (λ n. coefficient (get_or now n []) h + (cond (eqb column h) t.1 0 + 0)) (sym e) in
      let c : coefficient (take (i + 1) ts) g ≡ coefficient (take i ts) g + t.1 = next_coefficient ts t i g l et ∙ ap (λ b. coefficient (take i ts) g + (cond b t.1 0 + 0)) (eq-eqb t.0 g (sym e)) ∙ omega arith in
      let q : cond (eqb column h) (coefficient (take (i + 1) ts) g) 0 ≡ cond (eqb column h) (coefficient (take i ts) g + t.1) 0 = ap (λ k. cond (eqb column h) k 0) c in
      omega (arith, a, q, s.added g h lg, split (eqb column h) (coefficient (take i ts) g) t.1))
      (λ f.
      let a : nth_chain new g h ≡ nth_chain now g h = ap (λ us. coefficient us h) (others g f) in
      let q : cond (eqb column h) (coefficient (take (i + 1) ts) g) 0 ≡ cond (eqb column h) (coefficient (take i ts) g) 0 = ap (λ k. cond (eqb column h) k 0) (next_other ts t i g l et f) in
      omega (arith, a, q, s.added g h lg))
      (cases_eq g t.0);
}

pub column_skip : (column : ℕ) (ts : List (ℕ × ℕ)) (old now : List (List (ℕ × ℕ))) (t : ℕ × ℕ) (i : ℕ) → i < length ts → t ≡ get_or ts i (0, 0) → length now ≤ t.0 → ColumnTo column ts old now i → ColumnTo column ts old now (i + 1)
column_skip column ts old now t i l et past s = record {
  count = s.count;
  added = λ g h lg.
      let q : cond (eqb column h) (coefficient (take (i + 1) ts) g) 0 ≡ cond (eqb column h) (coefficient (take i ts) g) 0 = ap (λ k. cond (eqb column h) k 0) (next_other ts t i g l et (λ e. omega (arith, e, lg, past, s.count))) in
      omega (arith, q, s.added g h lg);
}

pub column_end : (column : ℕ) (ts : List (ℕ × ℕ)) (old now : List (List (ℕ × ℕ))) (i : ℕ) → length ts ≤ i → ColumnTo column ts old now i → AddsColumn column ts old now
column_end column ts old now i past s g h lg = s.added g h lg ∙ ap (λ us. nth_chain old g h + cond (eqb column h) (coefficient us g) 0) (take_all i ts past)

-- ---- the sums of the lists, one by one

pub record SumsTo (p : ℕ) (lists rows : List (List (ℕ × ℕ))) (i : ℕ) : Type 0 where
  pub count : length rows ≡ i
  pub normal : (g : ℕ) → g < i → IsNormal p (get_or rows g [])
  pub value : (g h : ℕ) → g < i → nth_chain rows g h ≡ nth_chain lists g h % p

pub sums_start : (p : ℕ) (lists rows : List (List (ℕ × ℕ))) → rows ≡ [] → SumsTo p lists rows 0
sums_start p lists rows e = record { count = ap length e; normal = λ g l. absurd (omega (arith, l)); value = λ g h l. absurd (omega (arith, l)) }

pub sums_more : (p : ℕ) (lists rows new : List (List (ℕ × ℕ))) (us c : List (ℕ × ℕ)) (i : ℕ) → new ≡ rows ++ c ∷ [] → us ≡ get_or lists i [] → IsNormal p c → ((h : ℕ) → coefficient c h ≡ coefficient us h % p) → SumsTo p lists rows i → SumsTo p lists new (i + 1)
sums_more p lists rows new us c i e eu normal sum s = record {
  count = ap length e ∙ length-append rows (c ∷ []) ∙ ap (λ (k : ℕ). k + 1) s.count;
  normal = λ g l. ⊎_elim (λ k. subst (λ (r : List (ℕ × ℕ)). IsNormal p r) (sym (before g k)) (s.normal g k)) (λ k. subst (λ (r : List (ℕ × ℕ)). IsNormal p r) (sym (last g (omega (arith, l, k)))) normal) (cases_lt g i);
  value = λ g h l. ⊎_elim
      (λ k. ap (λ r. coefficient r h) (before g k) ∙ s.value g h k)
      (λ k. let q : g ≡ i = omega (arith, l, k) in ap (λ r. coefficient r h) (last g q) ∙ sum h ∙ ap (λ r. coefficient r h % p) eu ∙ ap (λ n. nth_chain lists n h % p) (sym q))
      (cases_lt g i);
}
  where
    before : (g : ℕ) → g < i → get_or new g [] ≡ get_or rows g []
    before g k = ap (λ (r : List (List (ℕ × ℕ))). get_or r g []) e ∙ get_or_append_left rows (c ∷ []) [] g (omega (arith, k, s.count))

    last : (g : ℕ) → g ≡ i → get_or new g [] ≡ c
    last g q = ap (λ (r : List (List (ℕ × ℕ))). get_or r g []) e ∙ ap (λ (n : ℕ). get_or (rows ++ c ∷ []) n []) (q ∙ sym s.count) ∙ get_or-append_seam rows c [] []

pub sums_end : (p : ℕ) (lists rows : List (List (ℕ × ℕ))) (i : ℕ) → i ≡ length lists → SumsTo p lists rows i → AreSums p lists rows
sums_end p lists rows i e s = record {
  count = s.count ∙ e;
  normal = λ g l. s.normal g (omega (arith, l, s.count));
  value = λ g h l. s.value g h (omega (arith, l, s.count));
}

-- ---- the columns, one by one

pub record ColumnsTo (count : ℕ) (chains lists : List (List (ℕ × ℕ))) (i : ℕ) : Type 0 where
  pub size : length lists ≡ count
  pub value : (g h : ℕ) → g < count → nth_chain lists g h ≡ cond (ltb h i) (nth_chain chains h g) 0

pub columns_start : (count : ℕ) (chains lists : List (List (ℕ × ℕ))) → length lists ≡ count → ((n : ℕ) → get_or lists n [] ≡ []) → ColumnsTo count chains lists 0
columns_start count chains lists size empty = record {
  size = size;
  value = λ g h l. ap (λ us. coefficient us h) (empty g) ∙ sym (ap (λ b. cond b (nth_chain chains h g) 0) (le-ltb h 0 (omega arith)));
}

pub columns_more : (count : ℕ) (chains lists new : List (List (ℕ × ℕ))) (c : List (ℕ × ℕ)) (i : ℕ) → i < length chains → c ≡ get_or chains i c → length new ≡ length lists → AddsColumn i c lists new → ColumnsTo count chains lists i → ColumnsTo count chains new (i + 1)
columns_more count chains lists new c i l ec size added s = record {
  size = size ∙ s.size;
  value = λ g h lg.
      let a : nth_chain new g h ≡ nth_chain lists g h + cond (eqb i h) (coefficient c g) 0 = added g h (omega (arith, lg, s.size)) in
      let b : nth_chain lists g h ≡ cond (ltb h i) (nth_chain chains h g) 0 = s.value g h lg in
      ⊎_elim
      (λ k. let x = ap (λ v. cond v (nth_chain chains h g) 0) (lt-ltb h i k) in let y = ap (λ v. cond v (nth_chain chains h g) 0) (lt-ltb h (i + 1) (omega (arith, k))) in let z = ap (λ v. cond v (coefficient c g) 0) (ne_eqb i h (λ e. omega (arith, e, k))) in omega (arith, a, b, x, y, z))
      (λ k. ⊎_elim
      (λ (e : i ≡ h).
      let x = ap (λ v. cond v (nth_chain chains h g) 0) (le-ltb h i k) in
      let y = ap (λ v. cond v (nth_chain chains h g) 0) (lt-ltb h (i + 1) (omega (arith, e))) in
      let z = ap (λ v. cond v (coefficient c g) 0) (eq-eqb i h e) in
      let w : coefficient c g ≡ nth_chain chains h g = ap (λ us. coefficient us g) (ec ∙ get_or_default chains i c [] l) ∙ ap (λ n. nth_chain chains n g) e in
      omega (arith, a, b, x, y, z, w))
      (λ f. let x = ap (λ v. cond v (nth_chain chains h g) 0) (le-ltb h i k) in let y = ap (λ v. cond v (nth_chain chains h g) 0) (le-ltb h (i + 1) (omega (arith, k, f))) in let z = ap (λ v. cond v (coefficient c g) 0) (ne_eqb i h f) in omega (arith, a, b, x, y, z))
      (cases_eq i h))
      (cases_lt h i);
}

pub columns_end : (p count : ℕ) (chains lists rows : List (List (ℕ × ℕ))) (i : ℕ) → length chains ≤ i → ColumnsTo count chains lists i → AreSums p lists rows → IsTranspose p count chains rows
columns_end p count chains lists rows i past s sums = record {
  normal = λ g l. sums.normal g (omega (arith, l, sums.count, s.size));
  value = λ g h l. same_trans
      (record { same = ap (λ v. v % p) (sums.value g h (omega (arith, l, sums.count, s.size))) ∙ mod-mod (nth_chain lists g h) p })
      (record { same = ap (λ v. v % p) (s.value g h l ∙ whole g h) });
}
  where
    whole : (g h : ℕ) → cond (ltb h i) (nth_chain chains h g) 0 ≡ nth_chain chains h g
    whole g h = ⊎_elim
        (λ k. ap (λ v. cond v (nth_chain chains h g) 0) (lt-ltb h i k))
        (λ k. ap (λ v. cond v (nth_chain chains h g) 0) (le-ltb h i k) ∙ sym (ap (λ us. coefficient us g) (get_or_past chains h [] (omega (arith, k, past)))))
        (cases_lt h i)

pub counted : (p count : ℕ) (lists rows : List (List (ℕ × ℕ))) (chains : List (List (ℕ × ℕ))) (i : ℕ) → ColumnsTo count chains lists i → AreSums p lists rows → length rows ≡ count
counted p count lists rows chains i s sums = sums.count ∙ s.size
