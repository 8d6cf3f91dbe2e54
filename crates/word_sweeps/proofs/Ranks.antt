-- Corners in their order, and upper axes against it, give an order of the taken pairs
use Rattle.std.proofs.Common.{◌≡◌, ℕ, ◌+◌, ◌-◌, ◌*◌, ◌<◌, ◌≤◌, ◌⊎◌, inl, inr, refl, sym, ap, ◌∙◌, arith, ⊎_elim, List, [], ◌∷◌, length, get_or, Bool, true, false, ◌||◌}
use Rattle.std.specs.Prelude.{ℤ, ◌≤ℤ◌, ◌<ℤ◌, not}
use Rattle.std.specs.List.{Contains}
use Rattle.std.specs.List.Sorted.{IsStrictlySortedBy}
use Rattle.std.specs.Cmp.{Equal-is, tied_itself}
use Rattle.std.specs.Cmp.Lexicographic.{slice_cmp}
use Rattle.std.specs.Ordering.{is_eq, is_gt, ordering_then, nat_cmp, int_cmp}
use Rattle.std.specs.declared.cmp.Ordering.{Ordering}
use Rattle.std.specs.declared.cmp.Ordering.TheVariants.{Less, Equal, Greater}
use Rattle.std.proofs.lemmas.Bool.{true≢false, cases_eq, cases_lt, and_parts, and_from, or_from, not-true}
use Rattle.std.proofs.lemmas.Int.{ints}
use Rattle.std.proofs.lemmas.Cmp.{int_cmp_total, lists_total, by_ranked, int_ranked}
use Rattle.std.proofs.lemmas.List.Sums.{passes_at_first, fails_before_first}
use Rattle.std.proofs.lemmas.Map.Keys.{Less-from_sorted}
use Rattle.elem_cubes.specs.Corners.{corner_cmp}
use Rattle.elem_cubes.specs.Cells.{Factor, point, interval, same_cell, low, lower_of, axes_of}
use Rattle.elem_cubes.specs.Faces.{IsFace, IsFacet}
use Rattle.elem_cubes.specs.OrderLemmas.{cell_refl, cell_cases, tied_lists}
use Rattle.std.proofs.lemmas.List.{length-map}
use Rattle.elem_cubes.proofs.FaceLemmas.{face_length}
use Rattle.elem_cubes.proofs.Members.{In, In-from, from-In}
use Rattle.cell_complex.specs.FreePairs.{IsFreePair, AreFreeInTurn, without_pair, without_pairs}
use Rattle.packed_words.specs.Words.{PackedWords, AreWords, key_cmp, key_of, place_of, no_key, state_of, is_alive}
use Rattle.word_sweeps.specs.Reached.{IsReachedBy}
use Rattle.word_sweeps.specs.Laws.{corner_place, rank_of, AreDoneTo, OrderIsByRank}
use Rattle.word_sweeps.proofs.Removals.{uppers_alike}
use Rattle.packed_words.proofs.Nibbles.{key_placed, state_placed}
use Rattle.word_sweeps.proofs.Reached.{alive_state, collapse}
use Rattle.word_sweeps.proofs.Taken.{taken_of}
use Rattle.word_sweeps.proofs.Turns.{cell_dec, IsIn, IsFree, IsTaken, AreFree, some_free, free_in_level}

-- ---- free pairs by tests and by predicates

abbrev S : (List Factor → Bool) → List Factor → Type 0
S alive c = alive c ≡ true

pub without_taken : (ts : List (List Factor × List Factor)) (alive : List Factor → Bool) (c : List Factor) → without_pairs ts alive c ≡ true → (alive c ≡ true) × ¬ IsTaken IsFacet ts c
without_taken [] alive c e = (e, λ x. x)
without_taken (t ∷ ts) alive c e =
    let w = without_taken ts (without_pair t alive) c e in
    let v = and_parts (alive c) (not (same_cell c t.0 || same_cell c t.1)) w.0 in
    let none = not-true (same_cell c t.0 || same_cell c t.1) v.1 in (
      v.0,
      λ x. ⊎_elim (⊎_elim
          (λ q. true≢false (sym (ap (λ (d : List Factor). same_cell d t.0 || same_cell d t.1) q ∙ ap (λ b. b || same_cell t.0 t.1) (cell_refl t.0)) ∙ none))
          (λ q. true≢false (sym (ap (λ (d : List Factor). same_cell d t.0 || same_cell d t.1) q ∙ ap (λ b. same_cell t.1 t.0 || b) (cell_refl t.1) ∙ or_true (same_cell t.1 t.0)) ∙ none)))
          w.1 x,
    )
  where
    or_true : (b : Bool) → (b || true) ≡ true
    or_true true = refl
    or_true false = refl

pub taken_without : (ts : List (List Factor × List Factor)) (alive : List Factor → Bool) (c : List Factor) → alive c ≡ true → ¬ IsTaken IsFacet ts c → without_pairs ts alive c ≡ true
taken_without [] alive c e n = e
taken_without (t ∷ ts) alive c e n = taken_without ts (without_pair t alive) c
    (and_from (alive c) (not (same_cell c t.0 || same_cell c t.1)) e (ap not (or_from (same_cell c t.0) (same_cell c t.1) (⊎_elim (λ q. absurd (n (inl (inl q)))) (λ q. q) (cell_cases c t.0)) (⊎_elim (λ q. absurd (n (inl (inr q)))) (λ q. q) (cell_cases c t.1)))))
    (λ x. n (inr x))

to_test : (qs : List (List Factor × List Factor)) (alive : List Factor → Bool) (a b : List Factor) → IsFree IsFacet (λ c. S alive c × ¬ IsTaken IsFacet qs c) a b → IsFreePair (without_pairs qs alive) a b
to_test qs alive a b f = record {
  face_alive = taken_without qs alive a f.a_alive.0 f.a_alive.1;
  coface_alive = taken_without qs alive b f.b_alive.0 f.b_alive.1;
  facet = f.facet;
  only = λ c e k. f.only c (without_taken qs alive c e) k;
}

-- the general form: ts were removed before
to_free : (alive test : List Factor → Bool) (ts us : List (List Factor × List Factor))
    → ((c : List Factor) → test c ≡ true → (alive c ≡ true) × ¬ IsTaken IsFacet ts c) → ((c : List Factor) → alive c ≡ true → ¬ IsTaken IsFacet ts c → test c ≡ true)
    → AreFreeInTurn test us → AreFree IsFacet (S alive) ts us
to_free alive test ts [] to from f = tt
to_free alive test ts (u ∷ us) to from f = (
  record { a_alive = to u.0 f.0.face_alive; b_alive = to u.1 f.0.coface_alive; facet = f.0.facet; only = λ c w k. f.0.only c (from c w.0 w.1) k },
  to_free alive (without_pair u test) (u ∷ ts) us
      (λ c e. let w = without_taken (u ∷ []) test c e in let v = to c w.0 in (v.0, λ x. ⊎_elim (λ y. w.1 (inl y)) v.1 x))
      (λ c e n. taken_without (u ∷ []) test c (from c e (λ x. n (inr x))) (λ x. ⊎_elim (λ y. n (inl y)) (λ y. y) x))
      f.1,
)

pub contains_in : (ts : List (List Factor × List Factor)) (t : List Factor × List Factor) → Contains ts t → IsIn ts t
contains_in ts t w = walk ts (In-from ts t w)
  where
    walk : (us : List (List Factor × List Factor)) → In us t → IsIn us t
    walk [] i = i
    walk (u ∷ us) (inl e) = inl (sym e)
    walk (u ∷ us) (inr i) = inr (walk us i)

pub in_contains : (ts : List (List Factor × List Factor)) (t : List Factor × List Factor) → IsIn ts t → Contains ts t
in_contains ts t i = from-In ts t (walk ts i)
  where
    walk : (us : List (List Factor × List Factor)) → IsIn us t → In us t
    walk [] i = i
    walk (u ∷ us) (inl e) = inl (sym e)
    walk (u ∷ us) (inr i) = inr (walk us i)

-- ---- a coface lies at the cell's corner or before it, and there it has all its axes

abbrev AtMost : List ℤ → List ℤ → Type 0
AtMost [] ys = Unit {0}
AtMost (x ∷ xs) [] = ⊥
AtMost (x ∷ xs) (y ∷ ys) = (x ≤ℤ y) × AtMost xs ys

face_above : (c a : List Factor) → IsFace c a → AtMost (lower_of c) (lower_of a)
face_above [] a f = tt
face_above (point l ∷ qs) [] f = absurd f
face_above (interval l ∷ qs) [] f = absurd f
face_above (point l ∷ qs) (point m ∷ rs) f = (let e = f.0 in omega (arith, ints, e), face_above qs rs f.1)
face_above (point l ∷ qs) (interval m ∷ rs) f = absurd f.0
face_above (interval l ∷ qs) (point m ∷ rs) f = (⊎_elim (λ e. omega (arith, ints, e)) (λ e. omega (arith, ints, e)) f.0, face_above qs rs f.1)
face_above (interval l ∷ qs) (interval m ∷ rs) f = (let e = f.0 in omega (arith, ints, e), face_above qs rs f.1)

-- the order of the corners, from above
not_before : (xs ys : List ℤ) → AtMost xs ys → length xs ≡ length ys → slice_cmp int_cmp ys xs ≡ Less → ⊥
not_before [] [] h e less = absurd (true≢false (ap is_eq less))
not_before [] (y ∷ ys) h e less = absurd (omega arith)
not_before (x ∷ xs) [] h e less = absurd h
not_before (x ∷ xs) (y ∷ ys) h e less = by_ranked (y <ℤ x) (y ≡ x) (x <ℤ y) (int_cmp y x) (int_ranked y x (int_cmp y x) refl)
    (λ o p. absurd (let q = h.0 in omega (arith, ints, p, q)))
    (λ o p. not_before xs ys h.1 (omega arith) (sym (ap (λ r. ordering_then r (slice_cmp int_cmp ys xs)) o) ∙ less))
    (λ o p. absurd (true≢false (ap is_gt (sym (ap (λ r. ordering_then r (slice_cmp int_cmp ys xs)) o) ∙ less))))

axes_above : (c a : List Factor) → IsFace c a → lower_of c ≡ lower_of a → axes_of a ≤ axes_of c
axes_above [] [] f e = omega arith
axes_above [] (r ∷ rs) f e = absurd f
axes_above (q ∷ qs) [] f e = absurd f
axes_above (point l ∷ qs) (point m ∷ rs) f e = let h = axes_above qs rs f.1 (cc) in omega arith
axes_above (point l ∷ qs) (interval m ∷ rs) f e = absurd f.0
axes_above (interval l ∷ qs) (point m ∷ rs) f e = let h = axes_above qs rs f.1 (cc) in omega arith
axes_above (interval l ∷ qs) (interval m ∷ rs) f e = let h = axes_above qs rs f.1 (cc) in omega arith

-- ---- the ranks

then_less : (o r : Ordering) → ordering_then o r ≡ Less → (o ≡ Less) ⊎ (o ≡ Equal)
then_less Less r e = inl refl
then_less Equal r e = inr refl
then_less Greater r e = absurd (true≢false (ap is_gt e))

module _ (w : PackedWords) (sorted : IsStrictlySortedBy key_cmp w.keys) (count : length w.words ≡ length w.keys) where
  abbrev pub corner_at : ℕ → List ℤ
  corner_at i = (get_or w.keys i no_key).corner

  abbrev pub first_of : List ℤ → ℕ
  first_of x = corner_place w.keys x

  -- the first key with the corner of a cell that is alive
  pub corner_placed : (c : List Factor) → state_of w c ≡ 1 → (first_of (lower_of c) < length w.keys) × (corner_at (first_of (lower_of c)) ≡ lower_of c)
  corner_placed c alive =
      let l = state_placed w c count (omega arith) in
      let i = place_of w.keys (key_of c) in
      let x = lower_of c in
      let here : is_eq (corner_cmp (corner_at i) x) ≡ true = ap (λ (y : List ℤ). is_eq (corner_cmp y x)) (key_placed w.keys (key_of c) l).0 ∙ ap is_eq (tied_itself (lists_total int_cmp_total) x) in
      let inside : first_of x < length w.keys = ⊎_elim (λ lt. absurd (true≢false (sym here ∙ fails_before_first (λ k. is_eq (corner_cmp k.corner x)) w.keys i no_key lt))) (λ ge. omega arith) (cases_lt i (first_of x)) in
      (inside, tied_lists (corner_at (first_of x)) x ((Equal-is (corner_cmp (corner_at (first_of x)) x)).0 (passes_at_first (λ k. is_eq (corner_cmp k.corner x)) w.keys no_key inside)))

  pub falls : (c a : List Factor) → is_alive w c ≡ true → is_alive w a ≡ true → IsFacet c a → rank_of w.keys c ≤ rank_of w.keys a
  falls c a s t f =
      let pc = corner_placed c (alive_state w c s) in
      let pa = corner_placed a (alive_state w a t) in
      let i = first_of (lower_of c) in
      let j = first_of (lower_of a) in
      ⊎_elim
      (λ lt. omega arith)
      (λ ge. ⊎_elim
      (λ e. let same : lower_of c ≡ lower_of a = sym pc.1 ∙ ap corner_at e ∙ pa.1 in let h = axes_above c a f.0 same in omega arith)
      (λ d.
      let less : key_cmp (get_or w.keys j no_key) (get_or w.keys i no_key) ≡ Less = Less-from_sorted key_cmp w.keys j i no_key sorted (omega arith) pc.0 in
      let corners : corner_cmp (corner_at j) (corner_at i) ≡ corner_cmp (lower_of a) (lower_of c) = λ k. corner_cmp (pa.1 k) (pc.1 k) in
      ⊎_elim
      (λ o. absurd (not_before (lower_of c) (lower_of a) (face_above c a f.0) (length-map c low ∙ sym (face_length c a f.0) ∙ sym (length-map a low)) (sym corners ∙ o)))
      (λ o. absurd (d (ap first_of (sym (tied_lists (lower_of a) (lower_of c) (sym corners ∙ o))))))
      (then_less (corner_cmp (corner_at j) (corner_at i)) (nat_cmp (get_or w.keys j no_key).upper (get_or w.keys i no_key).upper) less))
      (cases_eq i j))
      (cases_lt i j)

module _ (first last : PackedWords) (taken done : List (List Factor × List Factor)) (r : ℕ) (keeps : AreWords first) (h : IsReachedBy first taken last) (d : AreDoneTo first.keys r taken done) where
  abbrev level : List Factor → ℕ
  level = rank_of first.keys

  free : AreFree IsFacet (S (is_alive first)) [] taken
  free = to_free (is_alive first) (is_alive first) [] taken (λ c e. (e, λ x. x)) (λ c e n. e) (collapse.free first last taken keeps.count h)

  paired : (t : List Factor × List Factor) → IsIn taken t → level t.0 ≡ level t.1
  paired t i =
      let o = (taken_of first last taken keeps.count h t (In-from taken t (in_contains taken t i))).one_point in
      λ k. 4 * corner_place first.keys (o.corner k) + (3 - uppers_alike t.0 t.1 o k)

  some : (t : List Factor × List Factor) → IsIn done t → IsIn taken t
  some t i = contains_in taken t (d.some t (in_contains done t i))

  below : (t : List Factor × List Factor) → IsIn taken t → level t.0 < r → IsIn done t
  below t i l = contains_in done t (d.below t (in_contains taken t i) l)

  pub one_free : (t : List Factor × List Factor) → Contains taken t → level t.0 ≡ r → ¬ Contains done t
      → (u : List Factor × List Factor) × Contains taken u × (level u.0 ≡ r) × (¬ Contains done u) × IsFreePair (without_pairs done (is_alive first)) u.0 u.1
  one_free t i e n =
      let u = some_free IsFacet cell_dec (S (is_alive first)) level r taken done free (falls first keeps.sorted keeps.count) paired some below t (contains_in taken t i) e (λ x. n (in_contains done t x)) in
      (u.0, in_contains taken u.0 u.1, u.2, (λ x. u.3 (contains_in done u.0 x)), to_test done (is_alive first) u.0.0 u.0.1 u.4)

  now_free : (t : List Factor × List Factor) → Contains taken t → level t.0 ≡ r → ¬ Contains done t
      → ((c : List Factor) → level c ≡ r → without_pairs done (is_alive first) c ≡ true → IsFacet c t.0 → c ≡ t.1) → IsFreePair (without_pairs done (is_alive first)) t.0 t.1
  now_free t i e n test = to_test done (is_alive first) t.0 t.1 (free_in_level IsFacet cell_dec (S (is_alive first)) level r taken done free (falls first keeps.sorted keeps.count) paired some below t (contains_in taken t i) e (λ x. n (in_contains done t x))
      (λ c l x k. test c l (taken_without done (is_alive first) c x.0 x.1) k))

pub by_rank : OrderIsByRank
by_rank = record {
  some_free = λ first last taken done r t keeps h d. one_free first last taken done r keeps h d t;
  free_in_rank = λ first last taken done r t keeps h d. now_free first last taken done r keeps h d t;
}
