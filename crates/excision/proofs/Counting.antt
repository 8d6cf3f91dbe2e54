-- How many members of a set are no cells of the subset yet: one less with each that is moved
use Rattle.std.proofs.Common.{◌≡◌, ℕ, ◌+◌, ◌<◌, ◌≤◌, inl, inr, refl, ap, ◌∙◌, arith, List, [], ◌∷◌, ◌++◌, Bool, true, false, cond, ◌||◌}
use Rattle.std.specs.List.{Contains}
use Rattle.std.proofs.lemmas.List.Folds.{list_any-append}
use Rattle.elem_cubes.specs.Cells.{Factor}
use Rattle.elem_cubes.specs.Faces.{is_face}
use Rattle.elem_cubes.proofs.FaceLemmas.{face_refl}
use Rattle.elem_cubes.proofs.Members.{In, In-from}
use Rattle.cube_sets.specs.Closures.{is_cell_of}
use Rattle.cell_complex.proofs.Deciding.{face_from}

pub missing_count : List (List Factor) → List (List Factor) → ℕ
missing_count s [] = 0
missing_count s (c ∷ cs) = cond (is_cell_of s c) 0 1 + missing_count s cs

pub fewer_missing : (a cubes now x : List (List Factor)) (q : List Factor) → now ≡ cubes ++ q ∷ [] → Contains x q → is_cell_of (a ++ cubes) q ≡ false → missing_count (a ++ now) x < missing_count (a ++ cubes) x
unfolding missing_count
fewer_missing a cubes now x q e w new = walk x (In-from x q w)
  where
    more : (c : List Factor) → is_cell_of (a ++ now) c ≡ ((is_cell_of a c || is_cell_of cubes c) || is_face q c)
    more c = list_any-append (λ s. is_face s c) a now ∙ ap (λ b. is_cell_of a c || b) (ap (λ (xs : List (List Factor)). is_cell_of xs c) e ∙ list_any-append (λ s. is_face s c) cubes (q ∷ [])) ∙ regroup (is_cell_of a c) (is_cell_of cubes c) (is_face q c)
      where
        regroup : (u v t : Bool) → (u || (v || (t || false))) ≡ ((u || v) || t)
        regroup true v t = refl
        regroup false true t = refl
        regroup false false true = refl
        regroup false false false = refl

    before : (c : List Factor) → is_cell_of (a ++ cubes) c ≡ (is_cell_of a c || is_cell_of cubes c)
    before c = list_any-append (λ s. is_face s c) a cubes

    at_most : (c : List Factor) → cond (is_cell_of (a ++ now) c) 0 1 ≤ cond (is_cell_of (a ++ cubes) c) 0 1
    at_most c = rw (more c, before c) (less (is_cell_of a c || is_cell_of cubes c) (is_face q c))
      where
        less : (u t : Bool) → cond (u || t) 0 1 ≤ cond u 0 1
        less true t = omega arith
        less false true = omega arith
        less false false = omega arith

    all : (cs : List (List Factor)) → missing_count (a ++ now) cs ≤ missing_count (a ++ cubes) cs
    all [] = omega arith
    all (c ∷ cs) = let h = at_most c in let k = all cs in omega arith

    gone : ◌≡◌ {A = ℕ} (cond (is_cell_of (a ++ now) q) 0 1) 0
    gone = ap (λ b. cond b 0 1) (more q ∙ ap (λ b. (is_cell_of a q || is_cell_of cubes q) || b) (face_from q q (face_refl q)) ∙ or_true (is_cell_of a q || is_cell_of cubes q))
      where
        or_true : (b : Bool) → (b || true) ≡ true
        or_true true = refl
        or_true false = refl

    there : ◌≡◌ {A = ℕ} (cond (is_cell_of (a ++ cubes) q) 0 1) 1
    there = ap (λ b. cond b 0 1) new

    walk : (cs : List (List Factor)) → In cs q → missing_count (a ++ now) cs < missing_count (a ++ cubes) cs
    walk [] h = absurd h
    walk (c ∷ cs) (inl y) = let k = all cs in let g : ◌≡◌ {A = ℕ} (cond (is_cell_of (a ++ now) c) 0 1) 0 = ap (λ d. cond (is_cell_of (a ++ now) d) 0 1) y ∙ gone in let t : ◌≡◌ {A = ℕ} (cond (is_cell_of (a ++ cubes) c) 0 1) 1 = ap (λ d. cond (is_cell_of (a ++ cubes) d) 0 1) y ∙ there in omega arith
    walk (c ∷ cs) (inr h) = let k = walk cs h in let m = at_most c in omega arith
