-- One move of a growth, and the members that wait
use Rattle.std.proofs.Common.{◌≡◌, ◌≢◌, ◌↔◌, ℕ, ◌+◌, ◌<◌, ◌≤◌, ◌⊎◌, refl, sym, ap, ◌∙◌, arith, ⊎_elim, List, [], ◌∷◌, ◌++◌, length, Bool, true, false, cond, ◌||◌, subst, Option, Some, None}
use Rattle.std.specs.Prelude.{IfSome, IfNone, slice_get}
use Rattle.std.specs.List.{Contains, filter}
use Rattle.std.specs.Cmp as cmp
use Rattle.std.proofs.lemmas.Bool.{true≢false, cases_lt, cases_Bool}
use Rattle.std.proofs.lemmas.List.Folds.{list_any-append}
use Rattle.std.proofs.lemmas.List.{get_or_default}
use Rattle.field_mod.specs.Modular.{Same}
use Rattle.elem_cubes.specs.Cells.{Factor}
use Rattle.elem_cubes.specs.Faces.{IsFace, is_face, closure_of}
use Rattle.elem_cubes.specs.OrderLemmas.{cell_cases}
use Rattle.elem_cubes.specs.Laws.{cell_at}
use Rattle.elem_cubes.proofs.FaceLemmas.{face_refl}
use Rattle.chains.specs.ChainComplex.{ChainComplex}
use Rattle.cube_sets.specs.Closures.{is_cell_of}
use Rattle.algebraic_reduction.specs.Reduction.{Step}
use Rattle.algebraic_reduction.specs.Laws.{AreStepsOf, left_of}
use Rattle.algebraic_reduction.specs.Restrictions.{IsClosedPart, AreWithin}
use Rattle.cell_complex.specs.Sorted.{IsSortedCells}
use Rattle.cell_complex.specs.Numbering.{IsRelativeComplex}
use Rattle.cell_complex.specs.Growth.{IsMovable, IsGrowth, IsFinishedGrowth}
use Rattle.cell_complex.proofs.Deciding.{face_true, face_from}
use Rattle.excision.specs.Left.{is_gone, IsMovableInto, IsLeftFace, is_one_of}
use Rattle.excision.specs.Owners.{Names, AreOwners}
use Rattle.excision.specs.Taking.{TakeFaces, is_number_of_new, AreFurtherWithin}
use Rattle.excision.proofs.Leaving.{movable_into}
use Rattle.excision.proofs.Touching.{movable_alike}
use Rattle.excision.proofs.Moving.{faces, moves, part_parts, part_from, part_unpaired, part_closed, outer_parts, outer_from, dead_listed, numbered}
use Rattle.excision.proofs.Parted.{one_of-Contains, Contains-one_of}

none : (xs : List Step) → xs ++ [] ≡ xs
none [] = refl
none (x ∷ xs) = ap (λ (ys : List Step). x ∷ ys) (none xs)

-- the cells of some cubes with one more
pub one_more : (a cubes : List (List Factor)) (q c : List Factor) → is_cell_of (a ++ (cubes ++ q ∷ [])) c ≡ (is_cell_of (a ++ cubes) c || is_face q c)
one_more a cubes q c = list_any-append (λ s. is_face s c) a (cubes ++ q ∷ []) ∙ ap (λ b. is_cell_of a c || b) (list_any-append (λ s. is_face s c) cubes (q ∷ []))
    ∙ regroup (is_cell_of a c) (is_cell_of cubes c) (is_face q c) ∙ sym (ap (λ b. b || is_face q c) (list_any-append (λ s. is_face s c) a cubes))
  where
    regroup : (u v t : Bool) → (u || (v || (t || false))) ≡ ((u || v) || t)
    regroup true v t = refl
    regroup false true t = refl
    regroup false false true = refl
    regroup false false false = refl

module _ (p : ℕ) (x a cells cubes : List (List Factor)) (K : ChainComplex) (ss : List Step) (q : List Factor)
    (two : 2 ≤ p) (R : IsRelativeComplex p x a cells K) (member : Contains x q) (movable : IsMovable p (a ++ cubes) q) (taken : TakeFaces cells cubes ss) (steps : AreStepsOf p K ss)
    (numbers : List ℕ) (are : (n : ℕ) → Contains numbers n ↔ IsLeftFace cells ss q n) where
  none_steps : AreStepsOf p K (ss ++ [])
  none_steps = subst (λ (us : List Step). AreStepsOf p K us) (sym (none ss)) steps

  -- the numbers are those of the new faces
  same_part : (n : ℕ) → is_one_of numbers n ≡ is_number_of_new cells (a ++ cubes) q n
  same_part n = cmp.both_ways (is_one_of numbers n) (is_number_of_new cells (a ++ cubes) q n)
      (λ e. let l = (are n).0 (one_of-Contains numbers n e) in
      part_from p x a cells cubes K ss [] q two R member movable r taken none_steps n l.inside (outer_from p x a cells cubes K ss [] q two R member movable r taken none_steps (cell_at cells n) l.face (dead_listed p x a cells cubes K ss [] q two R member movable r taken none_steps n l.inside ∙ (taken n l.inside).0 l.alive)))
      (λ e. let w = part_parts p x a cells cubes K ss [] q two R member movable r taken none_steps n e in
      Contains-one_of numbers n ((are n).1 (record { inside = w.0; face = (outer_parts p x a cells cubes K ss [] q two R member movable r taken none_steps (cell_at cells n) w.1).0; alive = part_unpaired p x a cells cubes K ss [] q two R member movable r taken none_steps n e })))
    where
      r : Rattle.algebraic_reduction.specs.Restrictions.LeaveRestrictions p K ss
      r = faces p cells cubes K ss R.complex steps taken

  pub numbers_inside : (L : ChainComplex) → L ≡ K → (n : ℕ) → Contains numbers n → n < length L.boundaries
  numbers_inside L e n w = let l = ((are n).0 w).inside in let c = R.complex.count in omega (arith, ap (λ (M : ChainComplex). length M.boundaries) e)

  pub numbers_closed : (L : ChainComplex) → L ≡ K → IsClosedPart p (left_of p L ss) (is_one_of numbers)
  numbers_closed L e = subst (λ (M : ChainComplex). IsClosedPart p (left_of p M ss) (is_one_of numbers)) (sym e)
      (subst (λ (part : ℕ → Bool). IsClosedPart p (left_of p K ss) part) (λ i n. sym (same_part n) i)
      (part_closed p x a cells cubes K ss [] q two R member movable (faces p cells cubes K ss R.complex steps taken) taken none_steps))

  pub move_takes : (L : ChainComplex) (now : List Step) → L ≡ K → AreFurtherWithin (is_one_of numbers) ss now → AreStepsOf p L now → ((h g : ℕ) → Contains numbers h → Same p (left_of p L now h g) 0) → TakeFaces cells (cubes ++ q ∷ []) now
  move_takes L now e f later z =
      let on : (us : List Step) → us ≡ ss ++ f.more → AreStepsOf p K us → AreStepsOf p K (ss ++ f.more) = λ us d s. subst (λ (vs : List Step). AreStepsOf p K vs) d s in
      subst (λ (us : List Step). TakeFaces cells (cubes ++ q ∷ []) us) (sym f.steps)
      (moves p x a cells cubes K ss f.more q two R member movable (faces p cells cubes K ss R.complex steps taken) taken
      (on now f.steps (subst (λ (M : ChainComplex). AreStepsOf p M now) e later))
      (subst (λ (part : ℕ → Bool). AreWithin part f.more) (λ i n. same_part n i) f.within)
      (λ h g eh eg. subst (λ (us : List Step). Same p (left_of p K us h g) 0) f.steps (subst (λ (M : ChainComplex). Same p (left_of p M now h g) 0) e (z h g (one_of-Contains numbers h (same_part h ∙ eh)))))).1

  -- what has no new face in it may be moved after the move only where it might before
  pub still_idle : (lists : List (List ℕ)) (old new : List ℕ) → IsSortedCells cells → AreOwners cells x lists
      → ((j : ℕ) → j < length x → is_one_of old j ≡ false → cell_at x j ≢ q → ¬ IsMovableInto p (is_gone cells ss) (cell_at x j))
      → ((j : ℕ) → is_one_of old j ≡ true → is_one_of new j ≡ true)
      → ((n j : ℕ) → Contains numbers n → Names lists n j → is_one_of new j ≡ true)
      → (j : ℕ) → j < length x → is_one_of new j ≡ false → ¬ IsMovable p (a ++ (cubes ++ q ∷ [])) (cell_at x j)
  still_idle lists old new sorted owners rest kept woken j inside idle m = ⊎_elim
      (λ e. true≢false (sym (one_more a cubes q q ∙ ap (λ b. is_cell_of (a ++ cubes) q || b) (face_from q q (face_refl q)) ∙ or_true (is_cell_of (a ++ cubes) q)) ∙ ap (is_cell_of (a ++ (cubes ++ q ∷ []))) (sym e) ∙ m.new))
      (λ d. rest j inside (was j idle) (λ e. true≢false (sym (ap (λ c. Rattle.elem_cubes.specs.Cells.same_cell c q) e ∙ Rattle.elem_cubes.specs.OrderLemmas.cell_refl q) ∙ d))
      (movable_into x a cells cubes ss sorted R.listing taken p (cell_at x j) here (movable_alike p (a ++ (cubes ++ q ∷ [])) (a ++ cubes) (cell_at x j) alike m)))
      (cell_cases (cell_at x j) q)
    where
      or_true : (b : Bool) → (b || true) ≡ true
      or_true true = refl
      or_true false = refl

      here : Contains x (cell_at x j)
      here = (j, inside, get_or_default x j (cell_at x j) [] inside)

      was : (k : ℕ) → is_one_of new k ≡ false → is_one_of old k ≡ false
      was k f = ⊎_elim (λ t. absurd (true≢false (sym (kept k t) ∙ f))) (λ e. e) (cases_Bool (is_one_of old k))

      alike : (c : List Factor) → IsFace (cell_at x j) c → is_cell_of (a ++ (cubes ++ q ∷ [])) c ≡ is_cell_of (a ++ cubes) c
      alike c f = one_more a cubes q c ∙ ⊎_elim
          (λ t. ap (λ b. b || is_face q c) t ∙ sym t)
          (λ dead. ap (λ b. b || is_face q c) dead ∙ ⊎_elim (λ t. absurd (new_face c f dead t)) (λ e. e) (cases_Bool (is_face q c)) ∙ sym dead)
          (cases_Bool (is_cell_of (a ++ cubes) c))
        where
          new_face : (c : List Factor) → IsFace (cell_at x j) c → is_cell_of (a ++ cubes) c ≡ false → is_face q c ≡ true → ⊥
          new_face c f dead t =
              let r = faces p cells cubes K ss R.complex steps taken in
              let n = numbered p x a cells cubes K ss [] q two R member movable r taken none_steps c (outer_from p x a cells cubes K ss [] q two R member movable r taken none_steps c (face_true q c t) dead) in
              let new_number : is_number_of_new cells (a ++ cubes) q n.0 ≡ true = part_from p x a cells cubes K ss [] q two R member movable r taken none_steps n.0 n.1 (outer_from p x a cells cubes K ss [] q two R member movable r taken none_steps (cell_at cells n.0) (let P : List Factor → Type 0 = λ d. IsFace q d in subst P (sym n.2) (face_true q c t)) (ap (is_cell_of (a ++ cubes)) n.2 ∙ dead)) in
              true≢false (sym (woken n.0 j (one_of-Contains numbers n.0 (same_part n.0 ∙ new_number)) (owners n.0 j n.1 inside (let P : List Factor → Type 0 = λ d. IsFace (cell_at x j) d in subst P (sym n.2) f))) ∙ idle)

-- ---- the members that wait

-- one less waits
pub idle_next : (P : ℕ → Type 0) (n i : ℕ) (old new : List ℕ) → ((k : ℕ) → is_one_of old k ≡ true → (k ≡ i) ⊎ (is_one_of new k ≡ true))
    → ((j : ℕ) → j < n → is_one_of old j ≡ false → ¬ P j) → (i < n → ¬ P i) → (j : ℕ) → j < n → is_one_of new j ≡ false → ¬ P j
idle_next P n i old new kept idle this j l f = ⊎_elim
    (λ t. ⊎_elim (λ e m. this (subst (λ (k : ℕ). k < n) e l) (subst P e m)) (λ w. absurd (true≢false (sym w ∙ f))) (kept j t))
    (λ d. idle j l d)
    (cases_Bool (is_one_of old j))

pub idle_but : (P : List Factor → Type 0) (x : List (List Factor)) (i : ℕ) (q : List Factor) (old new : List ℕ) → slice_get x i ≡ Some q → ((k : ℕ) → is_one_of old k ≡ true → (k ≡ i) ⊎ (is_one_of new k ≡ true))
    → ((j : ℕ) → j < length x → is_one_of old j ≡ false → ¬ P (cell_at x j)) → (j : ℕ) → j < length x → is_one_of new j ≡ false → cell_at x j ≢ q → ¬ P (cell_at x j)
idle_but P x i q old new place kept idle j l f d = ⊎_elim
    (λ t. ⊎_elim (λ e. absurd (d (ap (cell_at x) e ∙ Rattle.std.proofs.lemmas.Option.get_or_from_slice_get x i q [] place))) (λ w. absurd (true≢false (sym w ∙ f))) (kept j t))
    (λ g. idle j l g)
    (cases_Bool (is_one_of old j))

pub some_of : (o : Option ℕ) (P : ℕ → Type 0) (y : ℕ) → o ≡ Some y → IfSome o P → P y
some_of o P y e h = let Q : Option ℕ → Type 0 = λ v. IfSome v P in subst Q e h

-- ---- the beginning

pub growth_first : (p : ℕ) (x a : List (List Factor)) (cubes : List (List Factor)) → cubes ≡ [] → IsGrowth p x a cubes
growth_first p x a cubes e = subst (λ (cs : List (List Factor)). IsGrowth p x a cs) (sym e) (record { members = λ i l. absurd (omega arith); moves = λ i l. absurd (omega arith) })

pub taken_first : (cells cubes : List (List Factor)) (ss : List Step) → cubes ≡ [] → ss ≡ [] → TakeFaces cells cubes ss
taken_first cells cubes ss e f = subst (λ (cs : List (List Factor)). TakeFaces cells cs ss) (sym e) (subst (λ (us : List Step). TakeFaces cells [] us) (sym f) (λ i l. ((λ u. refl), (λ e. tt))))

pub idle_first : (P : ℕ → Type 0) (n : ℕ) (w : List ℕ) → ((j : ℕ) → j < n → is_one_of w j ≡ true) → (j : ℕ) → j < n → is_one_of w j ≡ false → ¬ P j
idle_first P n w all j l f m = true≢false (sym (all j l) ∙ f)

-- the list is another one with the same numbers
pub are_at : (cells : List (List Factor)) (ss : List Step) (q : List Factor) (ns ms : List ℕ) → ms ≡ ns → ((n : ℕ) → Contains ns n ↔ IsLeftFace cells ss q n) → (n : ℕ) → Contains ms n ↔ IsLeftFace cells ss q n
are_at cells ss q ns ms e are n = subst (λ (xs : List ℕ). Contains xs n ↔ IsLeftFace cells ss q n) (sym e) (are n)

-- what holds of the cells at all places holds of all members
pub all_members : (P : List Factor → Type 0) (x : List (List Factor)) → ((j : ℕ) → j < length x → ¬ P (cell_at x j)) → (q : List Factor) → Contains x q → ¬ P q
all_members P x none q w m = none w.0 w.1 (subst P (sym (sym (get_or_default x w.0 q [] w.1) ∙ w.2)) m)

pub none_of : (o : Option ℕ) (P : Type 0) → o ≡ None → IfNone o P → P
none_of o P e h = let Q : Option ℕ → Type 0 = λ v. IfNone v P in subst Q e h

-- a fact of the last place and of those before it
pub up_to : (P : ℕ → Type 0) (i k : ℕ) → k < i + 1 → (k < i → P k) → P i → P k
up_to P i k l before here = ⊎_elim (λ lt. before lt) (λ ge. subst P (let e : i ≡ k = omega arith in e) here) (cases_lt k i)

-- ---- without a subset

-- no member can be moved into nothing
pub finished_alone : (p : ℕ) (x a cubes : List (List Factor)) → a ≡ [] → cubes ≡ [] → IsFinishedGrowth p x a cubes
finished_alone p x a cubes e f = record {
  growth = growth_first p x a cubes f;
  finished = λ q w m. m.acyclic.some (no_cells (is_cell_of (a ++ cubes)) (λ c. ap (λ (s : List (List Factor)). is_cell_of s c) nothing) (closure_of q));
}
  where
    nothing : a ++ cubes ≡ []
    nothing = ap (λ (s : List (List Factor)). s ++ cubes) e ∙ f

    no_cells : (t : List Factor → Bool) → ((c : List Factor) → t c ≡ false) → (cs : List (List Factor)) → filter t cs ≡ []
    no_cells t h [] = refl
    no_cells t h (c ∷ cs) = ap (λ b. cond b (c ∷ filter t cs) (filter t cs)) (h c) ∙ no_cells t h cs
