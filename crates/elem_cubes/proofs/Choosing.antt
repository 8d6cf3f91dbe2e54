-- The closure by places: the face that the remainders of a place choose.
use Rattle.std.proofs.Common.{◌≡◌, ℕ, zero, suc, ◌+◌, ◌*◌, ◌/◌, ◌%◌, ◌^◌, ◌<◌, ◌≤◌, refl, sym, ap, ◌∙◌, arith, List, [], ◌∷◌, ◌++◌, length, take, drop, get_or, set, map, append_assoc, true, cond}
use Rattle.std.specs.Prelude.{ℤ, pos}
use Rattle.std.specs.List.{flat_map}
use Rattle.std.proofs.Math.Nat.{pow-suc, pow-le-pow_right}
use Rattle.std.proofs.lemmas.List.{get_or-drop}
use Rattle.std.proofs.lemmas.Grind.{take-set_at}
use Rattle.elem_cubes.specs.declared.range.TheConstants.{MAX_EMBEDDING}
use Rattle.elem_cubes.specs.Cells.{Factor, point, interval, low, high, is_wide, dimension_of}
use Rattle.elem_cubes.specs.Faces.{parts_of, closure_of}
use Rattle.elem_cubes.specs.Walks.{factor_at, face_at}
use Rattle.elem_cubes.proofs.Making.{drop_next}

pub count-parts : (f : Factor) → length (parts_of f) ≡ cond (is_wide f) 3 1
count-parts (point l) = refl
count-parts (interval l) = refl

pub some_part : (f : Factor) → 0 < length (parts_of f)
some_part (point l) = omega arith
some_part (interval l) = omega arith

-- ---- the parts by their digits

pub part_low : (f : Factor) → get_or (parts_of f) 0 f ≡ point (low f)
part_low (point l) = refl
part_low (interval l) = refl

pub part_itself : (f : Factor) → 1 < length (parts_of f) → get_or (parts_of f) 1 f ≡ f
part_itself (point l) h = absurd (omega arith)
part_itself (interval l) h = refl

pub part_high : (f : Factor) (n : ℕ) → n < length (parts_of f) → 2 ≤ n → (is_wide f ≡ true) × (get_or (parts_of f) n f ≡ point (high f))
part_high (point l) n h k = absurd (omega arith)
part_high (interval l) n h k = let e : n ≡ 2 = omega arith in (refl, ap (λ m. get_or (parts_of (interval l)) m (interval l)) e)

-- ---- a loop's step

pub face_step : (q face : List Factor) (i rest : ℕ) → i < length q → length face ≡ length q
    → take (i + 1) (set face i (get_or (parts_of (factor_at q i)) (rest % length (parts_of (factor_at q i))) (factor_at q i))) ++ face_at (drop (i + 1) q) (rest / length (parts_of (factor_at q i)))
    ≡ take i face ++ face_at (drop i q) rest
face_step q face i rest h l =
    let f = factor_at q i in
    let v = get_or (parts_of f) (rest % length (parts_of f)) f in
    let more = face_at (drop (i + 1) q) (rest / length (parts_of f)) in
    ap (λ us. us ++ more) (take-set_at face i (i + 1) v refl (omega arith))
    ∙ append_assoc (take i face) (v ∷ []) more
    ∙ ap (λ xs. take i face ++ face_at xs rest) (sym (drop_next q i (point (pos 0)) h))

pub same_factor_at : (q face : List Factor) (i : ℕ) → drop i face ≡ drop i q → factor_at face i ≡ factor_at q i
same_factor_at q face i e =
    ap (factor_at face) (let z : i ≡ i + 0 = omega arith in z) ∙ sym (get_or-drop i face 0 (point (pos 0))) ∙ ap (λ xs. get_or xs 0 (point (pos 0))) e ∙ get_or-drop i q 0 (point (pos 0)) ∙ ap (factor_at q) (let z : i + 0 ≡ i = omega arith in z)

-- ---- the closure

-- each of a list with one factor in front, or with each part of an interval
abbrev pub with_point : ℤ → List (List Factor) → List (List Factor)
with_point l = flat_map (λ rs. (point l ∷ rs) ∷ [])

abbrev pub with_interval : ℤ → List (List Factor) → List (List Factor)
with_interval l = flat_map (λ rs. map (λ r. r ∷ rs) (parts_of (interval l)))

length-points : (l : ℤ) (xs : List (List Factor)) → length (with_point l xs) ≡ length xs
length-points l [] = refl
length-points l (x ∷ xs) = ap suc (length-points l xs)

length-intervals : (l : ℤ) (xs : List (List Factor)) → length (with_interval l xs) ≡ 3 * length xs
length-intervals l [] = refl
length-intervals l (x ∷ xs) = let e = length-intervals l xs in omega arith

pub length-closure : (q : List Factor) → length (closure_of q) ≡ 3 ^ dimension_of q
length-closure [] = refl
length-closure (point l ∷ qs) = length-points l (closure_of qs) ∙ length-closure qs
length-closure (interval l ∷ qs) =
    let p : 3 ^ (dimension_of qs + 1) ≡ 3 ^ dimension_of qs * 3 = ap (λ n. 3 ^ n) (let e : dimension_of qs + 1 ≡ suc (dimension_of qs) = omega arith in e) ∙ pow-suc 3 (dimension_of qs) in
    length-intervals l (closure_of qs) ∙ (let e = length-closure qs in omega arith)

point_read : (l : ℤ) (xs : List (List Factor)) (k : ℕ) (d e : List Factor) → k < length xs → get_or (with_point l xs) k d ≡ point l ∷ get_or xs k e
point_read l [] k d e h = absurd (omega arith)
point_read l (x ∷ xs) zero d e h = refl
point_read l (x ∷ xs) (suc k) d e h = point_read l xs k d e (omega arith)

interval_read : (l : ℤ) (xs : List (List Factor)) (k : ℕ) (d e : List Factor) → k < 3 * length xs → get_or (with_interval l xs) k d ≡ get_or (parts_of (interval l)) (k % 3) (interval l) ∷ get_or xs (k / 3) e
interval_read l [] k d e h = absurd (omega arith)
interval_read l (x ∷ xs) zero d e h = refl
interval_read l (x ∷ xs) (suc zero) d e h = refl
interval_read l (x ∷ xs) (suc (suc zero)) d e h = refl
interval_read l (x ∷ xs) (suc (suc (suc k))) d e h =
    let m : suc (suc (suc k)) % 3 ≡ k % 3 = omega arith in
    let n : suc (suc (suc k)) / 3 ≡ suc (k / 3) = omega arith in
    interval_read l xs k d e (omega arith) ∙ sym (λ i. get_or (parts_of (interval l)) (m i) (interval l) ∷ get_or (x ∷ xs) (n i) e)

pub closure_read : (q : List Factor) (k : ℕ) (d : List Factor) → k < length (closure_of q) → get_or (closure_of q) k d ≡ face_at q k
closure_read [] k d h = let e : k ≡ 0 = omega arith in ap (λ n. get_or ([] ∷ []) n d) e
closure_read (point l ∷ qs) k d h =
    let s = length-points l (closure_of qs) in
    let m : k % 1 ≡ 0 = omega arith in
    let n : k / 1 ≡ k = omega arith in
    point_read l (closure_of qs) k d d (omega arith) ∙ ap (λ rs. point l ∷ rs) (closure_read qs k d (omega arith)) ∙ sym (λ i. get_or (parts_of (point l)) (m i) (point l) ∷ face_at qs (n i))
closure_read (interval l ∷ qs) k d h =
    let s = length-intervals l (closure_of qs) in
    interval_read l (closure_of qs) k d d (omega arith) ∙ ap (λ rs. get_or (parts_of (interval l)) (k % 3) (interval l) ∷ rs) (closure_read qs (k / 3) d (omega arith))

-- the number of faces is small
pub few_faces : (d : ℕ) → d ≤ MAX_EMBEDDING → 3 ^ d < 2 ^ 32
few_faces d h = let e : 3 ^ d ≤ 3 ^ MAX_EMBEDDING = pow-le-pow_right {n = 3} (omega arith) h in omega arith
