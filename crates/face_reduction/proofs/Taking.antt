-- Free pairs taken one by one, in rounds, until none is left
use Rattle.std.proofs.Common.{◌≡◌, ℕ, zero, suc, ◌+◌, ◌<◌, ◌≤◌, ◌⊎◌, inl, inr, refl, sym, ap, ◌∙◌, arith, ⊎_elim, List, [], ◌∷◌, ◌++◌, length, true, false, cond, subst}
use Rattle.std.proofs.Common.{Result, Ok, Err, IfOk, Option, Some, take, drop, get_or, append_assoc}
use Rattle.std.specs.Prelude.{slice_get, IfSome}
use Rattle.std.specs.List.{Contains}
use Rattle.std.proofs.lemmas.Bool.{cases_Bool, and_parts, false_from_ne_true}
use Rattle.std.proofs.lemmas.List.{length-append}
use Rattle.field_mod.specs.Modular.{NonZero}
use Rattle.field_mod.specs.Sums.{total}
use Rattle.field_mod.proofs.Modular.{same_trans, same_sym, same-mul, one_nonzero}
use Rattle.elem_cubes.specs.Cells.{Factor}
use Rattle.elem_cubes.specs.Laws.{cell_at}
use Rattle.elem_cubes.proofs.Modular.{exact}
use Rattle.chains.specs.ChainComplex.{ChainComplex}
use Rattle.algebraic_reduction.specs.Reduction.{Step, IsUnpaired}
use Rattle.algebraic_reduction.specs.Laws.{AreStepsOf, left_of}
use Rattle.algebraic_reduction.specs.LogWords.{IsOneMore}
use Rattle.cell_complex.specs.Sorted.{IsSortedCells}
use Rattle.elem_cubes.specs.Order.{cell_cmp}
use Rattle.cube_sets.specs.Sorted.{has}
use Rattle.cell_complex.specs.Numbering.{IsComplexOf, number_of}
use Rattle.cell_complex.proofs.Deciding.{has_is, from_has}
use Rattle.excision.proofs.Leaving.{place_of_cell}
use Rattle.algebraic_reduction.proofs.Restrictions.{unpaired_parts}
use Rattle.cell_complex.specs.FreePairs.{IsFreePair, AreFreeInTurn, without_pair}
use Rattle.excision.specs.Left.{is_unpaired, is_left}
use Rattle.face_reduction.specs.Logs.{cell_pairs, IsGrowthThenCollapse, IsCollapse, IsFreeNumber, TakesPairs}
use Rattle.excision.proofs.Leaving.{left_parts, unpaired_test, test_unpaired}
use Rattle.face_reduction.proofs.Pairing.{restrict, units, go_on, face_inside, none_behind, left_step, free_alike, free_behind}

-- ---- one pair

pub record MayTake (p : ℕ) (K : ChainComplex) (ss : List Step) (a b : ℕ) : Type 0 where
  pub a_alive : (a < length K.boundaries) × IsUnpaired ss a
  pub b_alive : (b < length K.boundaries) × IsUnpaired ss b
  pub incident : NonZero p (left_of p K ss b a)

pub may_take : (p : ℕ) (cells : List (List Factor)) (K : ChainComplex) (ss : List Step) (a b : ℕ) → 2 ≤ p → IsSortedCells cells → IsComplexOf p cells K → AreStepsOf p K ss → IsGrowthThenCollapse cells ss → a < length cells → IsFreeNumber cells ss a b → MayTake p K ss a b
may_take p cells K ss a b two sorted C steps g la f =
    let u = units p cells K ss a b (omega arith) sorted C (restrict p cells K ss sorted C steps g) la f.inside f.free in
    record {
      a_alive = (omega (arith, C.count), u.a_alive);
      b_alive = (omega (arith, C.count, f.inside), u.b_alive);
      incident = λ z. one_nonzero p two (same_trans (same_sym u.unit) (same_trans (same-mul z z) (exact p (omega arith))));
    }

pub took : (cells : List (List Factor)) (old new : List Step) (a b : ℕ) → IsFreeNumber cells old a b → IsOneMore old new a b → IsCollapse cells old new
took cells old new a b f m = record { more = (record { a = a; b = b; inverse = m.inverse }) ∷ []; steps = m.steps; free = (f.free, tt) }

pub took_longer : (old new : List Step) (a b : ℕ) → IsOneMore old new a b → length new ≡ length old → ⊥
took_longer old new a b m e = let l = ap length m.steps ∙ length-append old ((record { a = a; b = b; inverse = m.inverse }) ∷ []) in absurd (omega arith)

pub steps_kept : (cells : List (List Factor)) (old now : List Step) → IsSortedCells cells → IsCollapse cells old now → IsGrowthThenCollapse cells old → IsGrowthThenCollapse cells now
steps_kept cells old now sorted c g = (go_on cells old now sorted c).1 g

-- ---- rounds until none is left

-- how many of the numbered cells are left
pub left_count : ℕ → List Step → ℕ
left_count n ss = total n (λ g. cond (is_unpaired ss g) 1 0)

total_most : (n : ℕ) (f h : ℕ → ℕ) → ((i : ℕ) → i < n → h i ≤ f i) → total n h ≤ total n f
total_most zero f h le = omega arith
total_most (suc n) f h le = let a = le 0 (omega arith) in let b = total_most n (λ i. f (suc i)) (λ i. h (suc i)) (λ i l. le (suc i) (omega arith)) in omega arith

total_less : (n : ℕ) (f h : ℕ → ℕ) (k : ℕ) → k < n → ((i : ℕ) → i < n → h i ≤ f i) → h k < f k → total n h < total n f
total_less zero f h k l le lt = absurd (omega arith)
total_less (suc n) f h zero l le lt = let b = total_most n (λ i. f (suc i)) (λ i. h (suc i)) (λ i l. le (suc i) (omega arith)) in omega arith
total_less (suc n) f h (suc k) l le lt = let a = le 0 (omega arith) in let b = total_less n (λ i. f (suc i)) (λ i. h (suc i)) k (omega arith) (λ i l. le (suc i) (omega arith)) lt in omega arith

pub fewer : (cells : List (List Factor)) (old new : List Step) → IsSortedCells cells → IsCollapse cells old new → (length new ≡ length old) ⊎ (left_count (length cells) new < left_count (length cells) old)
unfolding left_count
fewer cells old new sorted c = by c.more c.steps c.free
  where
    at_most : (more : List Step) → new ≡ old ++ more → (i : ℕ) → cond (is_unpaired new i) 1 0 ≤ cond (is_unpaired old i) 1 0
    at_most more e i = ⊎_elim
        (λ t. let u = test_unpaired old i (unpaired_parts old more i (subst (λ (us : List Step). IsUnpaired us i) e (unpaired_test new i t))).0 in rw (t, u) (omega arith))
        (λ f. rw f (omega arith))
        (cases_Bool (is_unpaired new i))

    by : (more : List Step) → new ≡ old ++ more → AreFreeInTurn (is_left cells old) (cell_pairs cells more) → (length new ≡ length old) ⊎ (total (length cells) (λ g. cond (is_unpaired new g) 1 0) < total (length cells) (λ g. cond (is_unpaired old g) 1 0))
    by [] e f = inl (omega (arith, ap length e, length-append old []))
    by (s ∷ more) e f =
        let in_range = face_inside cells sorted s.a s.b f.0.facet in
        let w = left_parts cells sorted old (cell_at cells s.a) f.0.face_alive in
        let same : w.0 ≡ s.a = Rattle.cell_complex.proofs.Sorting.apart cells sorted.sorted w.0 s.a w.1 in_range.0 w.2 in
        let was : is_unpaired old s.a ≡ true = test_unpaired old s.a (subst (λ (k : ℕ). IsUnpaired old k) same w.3) in
        let now : is_unpaired new s.a ≡ false = false_from_ne_true (is_unpaired new s.a) (λ t. (unpaired_parts old (s ∷ more) s.a (subst (λ (us : List Step). IsUnpaired us s.a) e (unpaired_test new s.a t))).1.0 refl) in
        inr (total_less (length cells) (λ g. cond (is_unpaired old g) 1 0) (λ g. cond (is_unpaired new g) 1 0) s.a in_range.0 (λ i l. at_most (s ∷ more) e i) (rw (was, now) (omega arith)))

-- ---- results

pub if_ok_by : {A E : Type 0} (P Q : A → Type 0) (r : Result A E) → IfOk r P → ((x : A) → P x → Q x) → IfOk r Q
if_ok_by P Q (Ok x) h k = k x h
if_ok_by P Q (Err e) h k = tt

-- one more pair leaves fewer cells
pub one_less : (cells : List (List Factor)) (old new : List Step) (a b : ℕ) → IsSortedCells cells → IsFreeNumber cells old a b → IsOneMore old new a b → left_count (length cells) new < left_count (length cells) old
one_less cells old new a b sorted f m = ⊎_elim (λ e. absurd (took_longer old new a b m e)) (λ l. l) (fewer cells old new sorted (took cells old new a b f m))

pub complex_kept : (p : ℕ) (cells : List (List Factor)) (K L : ChainComplex) → L ≡ K → IsComplexOf p cells K → IsComplexOf p cells L
complex_kept p cells K L e C = subst (λ (M : ChainComplex). IsComplexOf p cells M) (sym e) C

-- ---- pairs that are given

drop_one : {A : Type 0} (xs : List A) (i : ℕ) (d : A) → i < length xs → drop i xs ≡ get_or xs i d ∷ drop (i + 1) xs
drop_one [] i d l = absurd (omega arith)
drop_one (x ∷ xs) zero d l = refl
drop_one {A} (x ∷ xs) (suc i) d l = drop_one xs i d (omega arith) ∙ ap (λ (n : ℕ). get_or xs i d ∷ drop n (x ∷ xs)) (let e : suc (i + 1) ≡ suc i + 1 = omega arith in e)

take_one : {A : Type 0} (xs : List A) (i : ℕ) (d : A) → i < length xs → take i xs ++ get_or xs i d ∷ [] ≡ take (i + 1) xs
take_one [] i d l = absurd (omega arith)
take_one (x ∷ xs) zero d l = refl
take_one {A} (x ∷ xs) (suc i) d l = ap (λ (ys : List A). x ∷ ys) (take_one xs i d (omega arith)) ∙ ap (λ (n : ℕ). take n (x ∷ xs)) (let e : suc (i + 1) ≡ suc i + 1 = omega arith in e)

take-all : {A : Type 0} (xs : List A) (i : ℕ) → length xs ≤ i → take i xs ≡ xs
take-all [] zero l = refl
take-all [] (suc i) l = refl
take-all (x ∷ xs) zero l = absurd (omega arith)
take-all {A} (x ∷ xs) (suc i) l = ap (λ (ys : List A). x ∷ ys) (take-all xs i (omega arith))

-- the first i pairs are taken, and the others are free in turn among what is left
pub record PairsSo (cells : List (List Factor)) (K : ChainComplex) (old : List Step) (pairs : List (List Factor × List Factor)) (L : ChainComplex) (now : List Step) (i : ℕ) : Type 0 where
  pub complex : L ≡ K
  pub more : List Step
  pub steps : now ≡ old ++ more
  pub taken : cell_pairs cells more ≡ take i pairs
  pub free : AreFreeInTurn (is_left cells old) (cell_pairs cells more)
  pub rest : AreFreeInTurn (is_left cells now) (drop i pairs)

pub pairs_first : (cells : List (List Factor)) (K : ChainComplex) (old : List Step) (pairs : List (List Factor × List Factor)) → IsSortedCells cells → AreFreeInTurn (is_left cells old) pairs → PairsSo cells K old pairs K old 0
pairs_first cells K old pairs sorted f = record { complex = refl; more = []; steps = sym (none_behind cells sorted old); taken = refl; free = tt; rest = f }

pub pairs_end : (cells : List (List Factor)) (K L : ChainComplex) (old now : List Step) (pairs : List (List Factor × List Factor)) (i : ℕ) → length pairs ≤ i → PairsSo cells K old pairs L now i → TakesPairs cells pairs old now
pairs_end cells K L old now pairs i l s = record { more = s.more; steps = s.steps; taken = s.taken ∙ take-all pairs i l }

pub left_listed : (cells : List (List Factor)) (ss : List Step) (c : List Factor) → is_left cells ss c ≡ true → Contains cells c
left_listed cells ss c e = from_has cells c (sym (has_is cells c) ∙ (and_parts (has cell_cmp cells c) (is_unpaired ss (number_of cells c)) e).0)

pub some_at : (o : Option ℕ) (n : ℕ) (P : ℕ → Type 0) → o ≡ Some n → IfSome o P → P n
some_at o n P e h = subst (λ (q : Option ℕ). IfSome q P) e h

module _ (cells : List (List Factor)) (K L : ChainComplex) (old now : List Step) (pairs : List (List Factor × List Factor)) (i : ℕ) (pair : List Factor × List Factor) (sorted : IsSortedCells cells) (s : PairsSo cells K old pairs L now i) (l : i < length pairs) (at : pair ≡ get_or pairs i pair) where
  ahead : AreFreeInTurn (is_left cells now) (pair ∷ drop (i + 1) pairs)
  ahead = subst (λ (ts : List (List Factor × List Factor)). AreFreeInTurn (is_left cells now) ts) (drop_one pairs i pair l ∙ ap (λ (t : List Factor × List Factor). t ∷ drop (i + 1) pairs) (sym at)) s.rest

  pub face_listed : Contains cells pair.0
  face_listed = left_listed cells now pair.0 ahead.0.face_alive

  pub coface_listed : Contains cells pair.1
  coface_listed = left_listed cells now pair.1 ahead.0.coface_alive

  module _ (a b : ℕ) (ea : slice_get cells a ≡ Some pair.0) (eb : slice_get cells b ≡ Some pair.1) where
    pub face_inside_pairs : a < length cells
    face_inside_pairs = (place_of_cell cells a pair.0 ea).0

    same : ◌≡◌ {A = List Factor × List Factor} (cell_at cells a, cell_at cells b) pair
    same = λ k. ((place_of_cell cells a pair.0 ea).1 k, (place_of_cell cells b pair.1 eb).1 k)

    pub free_number : IsFreeNumber cells now a b
    free_number = record { inside = (place_of_cell cells b pair.1 eb).0; free = subst (λ (t : List Factor × List Factor). IsFreePair (is_left cells now) t.0 t.1) (sym same) ahead.0 }

    pub pairs_next : (M : ChainComplex) (new : List Step) → M ≡ L → IsOneMore now new a b → PairsSo cells K old pairs M new (i + 1)
    pairs_next M new e m =
        let st : Step = record { a = a; b = b; inverse = m.inverse } in
        record {
          complex = e ∙ s.complex;
          more = s.more ++ st ∷ [];
          steps = m.steps ∙ ap (λ (us : List Step). us ++ st ∷ []) s.steps ∙ append_assoc old s.more (st ∷ []);
          taken = pairs_more s.more st ∙ (λ k. s.taken k ++ same k ∷ []) ∙ ap (λ (t : List Factor × List Factor). take i pairs ++ t ∷ []) at ∙ take_one pairs i pair l;
          free = free_behind cells sorted old now s.more (st ∷ []) s.steps s.free (free_number.free, tt);
          rest = free_alike (without_pair pair (is_left cells now)) (is_left cells new) (drop (i + 1) pairs)
              (λ c. ap (λ (t : List Factor × List Factor). without_pair t (is_left cells now) c) (sym same) ∙ sym (left_step cells sorted now st face_inside_pairs (place_of_cell cells b pair.1 eb).0 c) ∙ ap (λ (us : List Step). is_left cells us c) (sym m.steps))
              ahead.1;
        }
      where
        pairs_more : (more : List Step) (st : Step) → cell_pairs cells (more ++ st ∷ []) ≡ cell_pairs cells more ++ (cell_at cells st.a, cell_at cells st.b) ∷ []
        pairs_more [] st = refl
        pairs_more (t ∷ more) st = ap (λ (ts : List (List Factor × List Factor)). (cell_at cells t.a, cell_at cells t.b) ∷ ts) (pairs_more more st)

pub pairs_steps : (cells : List (List Factor)) (K L : ChainComplex) (old now : List Step) (pairs : List (List Factor × List Factor)) (i : ℕ) → PairsSo cells K old pairs L now i → IsCollapse cells old now
pairs_steps cells K L old now pairs i s = record { more = s.more; steps = s.steps; free = s.free }
