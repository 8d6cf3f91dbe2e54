-- The removed pairs are those that the last words record
use Rattle.std.proofs.Common.{◌≡◌, ◌+◌, ◌≤◌, ◌⊎◌, inl, inr, refl, sym, ap, ◌∙◌, arith, ⊎_elim, List, [], ◌∷◌, length, false, subst}
use Rattle.std.specs.Prelude.{ℤ}
use Rattle.elem_cubes.specs.Cells.{Factor, point, interval, same_cell, lower_of}
use Rattle.elem_cubes.specs.Faces.{IsFacet}
use Rattle.elem_cubes.specs.OrderLemmas.{cell_refl, cell_cases}
use Rattle.elem_cubes.proofs.Members.{In, In-from, from-In}
use Rattle.elem_cubes.proofs.Signs.{face_equal}
use Rattle.cell_complex.specs.FreePairs.{IsOnePointPair, differing_axis}
use Rattle.packed_words.specs.Words.{PackedWords, state_of}
use Rattle.word_sweeps.specs.Reached.{words_without}
use Rattle.word_sweeps.specs.Reached.{IsFreeIn, IsReachedBy, IsTakenPair}
use Rattle.word_sweeps.specs.Laws.{TakenPairsAreTold}
use Rattle.word_sweeps.proofs.Removals.{differing_axis-positive}
use Rattle.word_sweeps.proofs.Reached.{alive_state, changed, same_size, collapse}

-- ---- a coface at the same corner is known by its axis

no_such_axis : (l m : ℤ) (xs ys : List Factor) → differing_axis xs ys ≡ 0 → IsFacet (point m ∷ ys) (point l ∷ xs) → ⊥
no_such_axis l m [] [] w k = absurd (omega (arith, k.1))
no_such_axis l m [] (y ∷ ys) w k = k.0.1
no_such_axis l m (x ∷ xs) [] w k = k.0.1
no_such_axis l m (point s ∷ xs) (point t ∷ ys) w k = absurd (omega arith)
no_such_axis l m (point s ∷ xs) (interval t ∷ ys) w k = absurd (omega arith)
no_such_axis l m (interval s ∷ xs) (y ∷ ys) w k = absurd (omega arith)

coface_known : (a b d : List Factor) → IsFacet b a → IsFacet d a → lower_of a ≡ lower_of b → lower_of a ≡ lower_of d → differing_axis a b ≡ differing_axis a d → b ≡ d
coface_known [] [] d f g e h q = absurd (omega (arith, f.1))
coface_known [] (r ∷ rs) d f g e h q = absurd f.0
coface_known (a ∷ xs) [] d f g e h q = absurd f.0
coface_known (a ∷ xs) (r ∷ rs) [] f g e h q = absurd g.0
coface_known (point l ∷ xs) (point m ∷ bs) (point o ∷ ds) f g e h q =
    let x : l ≡ m = cc in let y : l ≡ o = cc in let u : lower_of xs ≡ lower_of bs = cc in let v : lower_of xs ≡ lower_of ds = cc in
    let z = coface_known xs bs ds (f.0.1, f.1) (g.0.1, g.1) u v (omega arith) in cc
coface_known (point l ∷ xs) (point m ∷ bs) (interval o ∷ ds) f g e h q = absurd (no_such_axis l m xs bs (omega arith) f)
coface_known (point l ∷ xs) (interval m ∷ bs) (point o ∷ ds) f g e h q = absurd (no_such_axis l o xs ds (omega arith) g)
coface_known (point l ∷ xs) (interval m ∷ bs) (interval o ∷ ds) f g e h q =
    let x : l ≡ m = cc in let y : l ≡ o = cc in
    let u : bs ≡ xs = face_equal bs xs f.0.1 (omega (arith, f.1)) in let v : ds ≡ xs = face_equal ds xs g.0.1 (omega (arith, g.1)) in cc
coface_known (interval l ∷ xs) (point m ∷ bs) (d ∷ ds) f g e h q = absurd f.0.0
coface_known (interval l ∷ xs) (interval m ∷ bs) (point o ∷ ds) f g e h q = absurd g.0.0
coface_known (interval l ∷ xs) (interval m ∷ bs) (interval o ∷ ds) f g e h q =
    let x : l ≡ m = cc in let y : l ≡ o = cc in let u : lower_of xs ≡ lower_of bs = cc in let v : lower_of xs ≡ lower_of ds = cc in
    let z = coface_known xs bs ds (f.0.1, omega (arith, f.1)) (g.0.1, omega (arith, g.1)) u v (omega arith) in cc

-- ---- states along the removals

after_face : (w : PackedWords) (t : List Factor × List Factor) (e : length w.words ≡ length w.keys) (f : IsFreeIn w t) (c : List Factor) → c ≡ t.0 → state_of (words_without t w) c ≡ 2 + differing_axis t.0 t.1
after_face w t e f c x = changed w t e f c ∙ rw (ap (λ z. same_cell z t.0) x ∙ cell_refl t.0) refl

after_coface : (w : PackedWords) (t : List Factor × List Factor) (e : length w.words ≡ length w.keys) (f : IsFreeIn w t) (c : List Factor) → same_cell c t.0 ≡ false → c ≡ t.1 → state_of (words_without t w) c ≡ 2
after_coface w t e f c n x = changed w t e f c ∙ rw n (rw (ap (λ z. same_cell z t.1) x ∙ cell_refl t.1) refl)

after_other : (w : PackedWords) (t : List Factor × List Factor) (e : length w.words ≡ length w.keys) (f : IsFreeIn w t) (c : List Factor) → same_cell c t.0 ≡ false → same_cell c t.1 ≡ false → state_of (words_without t w) c ≡ state_of w c
after_other w t e f c n m = changed w t e f c ∙ rw n (rw m refl)

-- the last state of a cell: as it was, or that of the face or of the coface of a removed pair
fate : (first last : PackedWords) (ts : List (List Factor × List Factor)) → length first.words ≡ length first.keys → IsReachedBy first ts last → (c : List Factor)
    → (state_of last c ≡ state_of first c)
    ⊎ ((t : List Factor × List Factor) × In ts t × IsOnePointPair t.0 t.1 × (((c ≡ t.0) × (state_of last c ≡ 2 + differing_axis t.0 t.1)) ⊎ ((c ≡ t.1) × (state_of last c ≡ 2))))
fate first last [] e h c = inl (ap (λ (w : PackedWords). state_of w c) h)
fate first last (t ∷ ts) e h c =
    ⊎_elim
    (λ x. ⊎_elim
    (λ y. inr (t, inl refl, h.0.one_point, inl (y, x ∙ after_face first t e h.0 c y)))
    (λ n. ⊎_elim
    (λ y. inr (t, inl refl, h.0.one_point, inr (y, x ∙ after_coface first t e h.0 c n y)))
    (λ m. inl (x ∙ after_other first t e h.0 c n m))
    (cell_cases c t.1))
    (cell_cases c t.0))
    (λ x. inr (x.0, inr x.1, x.2, x.3))
    (fate (words_without t first) last ts (same_size first t e) h.1 c)

-- a state past 1 stays
stays : (first last : PackedWords) (ts : List (List Factor × List Factor)) → length first.words ≡ length first.keys → IsReachedBy first ts last → (c : List Factor) → 2 ≤ state_of first c → state_of last c ≡ state_of first c
stays first last [] e h c p = ap (λ (w : PackedWords). state_of w c) h
stays first last (t ∷ ts) e h c p =
    let same : state_of (words_without t first) c ≡ state_of first c = ⊎_elim
    (λ y. let a = alive_state first t.0 h.0.free.face_alive in let z = ap (state_of first) y in absurd (omega arith))
    (λ n. ⊎_elim (λ y. let b = alive_state first t.1 h.0.free.coface_alive in let z = ap (state_of first) y in absurd (omega arith)) (λ m. after_other first t e h.0 c n m) (cell_cases c t.1))
    (cell_cases c t.0) in
    stays (words_without t first) last ts (same_size first t e) h.1 c (omega arith) ∙ same

pub taken_of : (first last : PackedWords) (ts : List (List Factor × List Factor)) → length first.words ≡ length first.keys → IsReachedBy first ts last → (t : List Factor × List Factor) → In ts t → IsTakenPair first last t
taken_of first last [] e h t i = absurd i
taken_of first last (u ∷ us) e h t (inl i) =
    let a = after_face first u e h.0 u.0 refl in
    subst (λ (x : List Factor × List Factor). IsTakenPair first last x) i
    (record { one_point = h.0.one_point; alive = alive_state first u.0 h.0.free.face_alive; face = stays (words_without u first) last us (same_size first u e) h.1 u.0 (omega arith) ∙ a })
taken_of first last (u ∷ us) e h t (inr i) =
    let w = taken_of (words_without u first) last us (same_size first u e) h.1 t i in
    record { one_point = w.one_point; alive = collapse.never_back first (words_without u first) t.0 e (u ∷ [], (h.0, refl)) w.alive; face = w.face }

told_by : (first last : PackedWords) (ts : List (List Factor × List Factor)) → length first.words ≡ length first.keys → IsReachedBy first ts last → (t : List Factor × List Factor) → IsTakenPair first last t → In ts t
told_by first last ts e h t w =
    let p = differing_axis-positive t.0 t.1 w.one_point.facet in
    ⊎_elim
    (λ x. let y = w.alive in let z = w.face in absurd (omega arith))
    (λ x. ⊎_elim
    (λ y.
    let u = x.0 in
    let k : differing_axis t.0 t.1 ≡ differing_axis t.0 u.1 = (let a : differing_axis t.0 t.1 ≡ differing_axis u.0 u.1 = omega (arith, y.1, w.face) in a ∙ ap (λ z. differing_axis z u.1) (sym y.0)) in
    let same : t.1 ≡ u.1 = coface_known t.0 t.1 u.1 w.one_point.facet (subst (IsFacet u.1) (sym y.0) x.2.facet) w.one_point.corner (ap lower_of y.0 ∙ x.2.corner) k in
    subst (In ts) (λ i. (sym y.0 i, sym same i)) x.1)
    (λ y. absurd (omega (arith, y.1, w.face)))
    x.3)
    (fate first last ts e h t.0)

pub told : TakenPairsAreTold
told first last ts e h t = ((λ w. taken_of first last ts e h t (In-from ts t w)), (λ w. from-In ts t (told_by first last ts e h t w)))
