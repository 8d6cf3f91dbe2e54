-- Which cells come from a cell by changes along the first axes.
use Rattle.std.proofs.Common.{◌≡◌, ◌⊎◌, inl, inr, ℕ, zero, suc, ◌≤◌, refl, sym, ap, subst, arith, List, [], ◌∷◌, length, set, true, true≢false}
use Rattle.std.specs.Prelude.{ℤ}
use Rattle.elem_cubes.specs.Cells.{Factor, point, interval, low, is_wide}
use Rattle.elem_cubes.specs.Faces.{IsPart, IsFace}
use Rattle.elem_cubes.specs.Walks.{factor_at}
use Rattle.elem_cubes.proofs.FaceLemmas.{part_refl, face_refl}
use Rattle.cube_sets.specs.Changes.{change_of, changed_cell}
use Rattle.cube_sets.specs.declared.change.Change.{Change}
use Rattle.cube_sets.specs.declared.change.Change.TheVariants.{LowerEnd, UpperEnd}

-- the second factor is the first, or what that is changed to
abbrev pub IsChanged : Change → Change → Factor → Factor → Type 0
IsChanged c d f g = (f ≡ g) ⊎ ((is_wide f ≡ true) × ((change_of c (low f) ≡ g) ⊎ (change_of d (low f) ≡ g)))

-- along so many axes the factors are changed or not, and further on they are the same
abbrev pub IsSpread : Change → Change → ℕ → List Factor → List Factor → Type 0
IsSpread c d zero q r = q ≡ r
IsSpread c d (suc n) [] [] = Unit {0}
IsSpread c d (suc n) [] (g ∷ gs) = ⊥
IsSpread c d (suc n) (f ∷ fs) [] = ⊥
IsSpread c d (suc n) (f ∷ fs) (g ∷ gs) = IsChanged c d f g × IsSpread c d n fs gs

-- the second cell is the first, or has its interval along one axis changed
abbrev pub IsStep : Change → Change → ℕ → List Factor → List Factor → Type 0
IsStep c d n t r = (t ≡ r) ⊎ ((is_wide (factor_at t n) ≡ true) × ((changed_cell c n t ≡ r) ⊎ (changed_cell d n t ≡ r)))

module _ (c d : Change) where
  spread_itself : (n : ℕ) (q : List Factor) → IsSpread c d n q q
  spread_itself zero q = refl
  spread_itself (suc n) [] = tt
  spread_itself (suc n) (f ∷ fs) = (inl refl, spread_itself n fs)

  pub spread_more : (n : ℕ) (q r : List Factor) → IsSpread c d n q r → IsSpread c d (suc n) q r
  spread_more zero q r e = subst (λ (s : List Factor). IsSpread c d 1 q s) e (spread_itself 1 q)
  spread_more (suc n) [] [] e = tt
  spread_more (suc n) [] (g ∷ gs) e = absurd e
  spread_more (suc n) (f ∷ fs) [] e = absurd e
  spread_more (suc n) (f ∷ fs) (g ∷ gs) e = (e.0, spread_more n fs gs e.1)

  module _ (change : ℤ → Factor) (ok : (f : Factor) → is_wide f ≡ true → IsChanged c d f (change (low f))) where
    pub spread_changed : (n : ℕ) (q t : List Factor) → IsSpread c d n q t → is_wide (factor_at t n) ≡ true → IsSpread c d (suc n) q (set t n (change (low (factor_at t n))))
    spread_changed zero q [] e w = absurd (true≢false (sym w))
    spread_changed zero q (g ∷ gs) e w =
        subst (λ (s : List Factor). IsSpread c d 1 s (change (low g) ∷ gs)) (sym e) (ok g w, refl)
    spread_changed (suc n) [] [] e w = absurd (true≢false (sym w))
    spread_changed (suc n) [] (g ∷ gs) e w = absurd e
    spread_changed (suc n) (f ∷ fs) [] e w = absurd e
    spread_changed (suc n) (f ∷ fs) (g ∷ gs) e w = (e.0, spread_changed n fs gs e.1 w)

  first_ok : (f : Factor) → is_wide f ≡ true → IsChanged c d f (change_of c (low f))
  first_ok f w = inr (w, inl refl)

  second_ok : (f : Factor) → is_wide f ≡ true → IsChanged c d f (change_of d (low f))
  second_ok f w = inr (w, inr refl)

  -- one more axis
  pub spread_step : (n : ℕ) (q t r : List Factor) → IsSpread c d n q t → IsStep c d n t r → IsSpread c d (suc n) q r
  spread_step n q t r s (inl e) = subst (λ (u : List Factor). IsSpread c d (suc n) q u) e (spread_more n q t s)
  spread_step n q t r s (inr (w, inl e)) = subst (λ (u : List Factor). IsSpread c d (suc n) q u) e (spread_changed (change_of c) first_ok n q t s w)
  spread_step n q t r s (inr (w, inr e)) = subst (λ (u : List Factor). IsSpread c d (suc n) q u) e (spread_changed (change_of d) second_ok n q t s w)

  behind : (n : ℕ) (g : Factor) (t r : List Factor) → IsStep c d n t r → IsStep c d (suc n) (g ∷ t) (g ∷ r)
  behind n g t r (inl e) = inl (ap (λ u. g ∷ u) e)
  behind n g t r (inr (w, inl e)) = inr (w, inl (ap (λ u. g ∷ u) e))
  behind n g t r (inr (w, inr e)) = inr (w, inr (ap (λ u. g ∷ u) e))

  at_first : (f g : Factor) (fs gs : List Factor) → fs ≡ gs → IsChanged c d f g → IsStep c d 0 (f ∷ fs) (g ∷ gs)
  at_first f g fs gs s (inl e) = inl (λ i. e i ∷ s i)
  at_first f g fs gs s (inr (w, inl e)) = inr (w, inl (λ i. e i ∷ s i))
  at_first f g fs gs s (inr (w, inr e)) = inr (w, inr (λ i. e i ∷ s i))

  pub spread_back : (n : ℕ) (q r : List Factor) → IsSpread c d (suc n) q r → (t : List Factor) × IsSpread c d n q t × IsStep c d n t r
  spread_back zero [] [] e = ([], refl, inl refl)
  spread_back zero [] (g ∷ gs) e = absurd e
  spread_back zero (f ∷ fs) [] e = absurd e
  spread_back zero (f ∷ fs) (g ∷ gs) e = (f ∷ fs, refl, at_first f g fs gs e.1 e.0)
  spread_back (suc n) [] [] e = ([], tt, inl refl)
  spread_back (suc n) [] (g ∷ gs) e = absurd e
  spread_back (suc n) (f ∷ fs) [] e = absurd e
  spread_back (suc n) (f ∷ fs) (g ∷ gs) e = let b = spread_back n fs gs e.1 in (g ∷ b.0, (e.0, b.1), behind n g b.0 gs b.2)

-- ---- along all axes, to the ends: the faces

part_to : (f g : Factor) → IsChanged LowerEnd UpperEnd f g → IsPart f g
part_to f g (inl e) = subst (λ (h : Factor). IsPart f h) e (part_refl f)
part_to (point l) g (inr (w, h)) = absurd (true≢false (sym w))
part_to (interval l) g (inr (w, inl e)) = subst (λ (h : Factor). IsPart (interval l) h) e (inl refl)
part_to (interval l) g (inr (w, inr e)) = subst (λ (h : Factor). IsPart (interval l) h) e (inr refl)

part_from : (f g : Factor) → IsPart f g → IsChanged LowerEnd UpperEnd f g
part_from (point l) (point m) e = inl (ap point (sym e))
part_from (point l) (interval m) e = absurd e
part_from (interval l) (interval m) e = inl (ap interval (sym e))
part_from (interval l) (point m) (inl e) = inr (refl, inl (ap point (sym e)))
part_from (interval l) (point m) (inr e) = inr (refl, inr (ap point (sym e)))

pub spread_face : (n : ℕ) (q r : List Factor) → IsSpread LowerEnd UpperEnd n q r → IsFace q r
spread_face zero q r e = subst (λ (s : List Factor). IsFace q s) e (face_refl q)
spread_face (suc n) [] [] e = tt
spread_face (suc n) [] (g ∷ gs) e = absurd e
spread_face (suc n) (f ∷ fs) [] e = absurd e
spread_face (suc n) (f ∷ fs) (g ∷ gs) e = (part_to f g e.0, spread_face n fs gs e.1)

pub face_spread : (n : ℕ) (q r : List Factor) → length q ≤ n → IsFace q r → IsSpread LowerEnd UpperEnd n q r
face_spread zero [] [] h e = refl
face_spread zero [] (g ∷ gs) h e = absurd e
face_spread zero (f ∷ fs) r h e = absurd (omega arith)
face_spread (suc n) [] [] h e = tt
face_spread (suc n) [] (g ∷ gs) h e = absurd e
face_spread (suc n) (f ∷ fs) [] h e = absurd e
face_spread (suc n) (f ∷ fs) (g ∷ gs) h e = (part_from f g e.0, face_spread n fs gs (omega arith) e.1)
