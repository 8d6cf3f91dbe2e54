-- Which cells come from a cell where intervals along the first axes become points.
use Rattle.std.proofs.Common.{◌≡◌, ◌⊎◌, inl, inr, ℕ, zero, suc, ◌≤◌, refl, sym, ap, ◌∙◌, subst, arith, List, [], ◌∷◌, length, true, true≢false}
use Rattle.std.specs.Prelude.{ℤ, pos, ◌+ℤ◌}
use Rattle.std.proofs.lemmas.Int.{ints}
use Rattle.elem_cubes.specs.Cells.{Factor, point, interval, low, is_wide}
use Rattle.elem_cubes.specs.Faces.{IsPart, IsFace}
use Rattle.elem_cubes.specs.Walks.{factor_at}
use Rattle.elem_cubes.proofs.FaceLemmas.{part_refl, face_refl}
use Rattle.cell_points.proofs.Axes.{with_end}

-- along so many axes the factors are parts, and further on they are the same
abbrev pub IsSpread : ℕ → List Factor → List Factor → Type 0
IsSpread zero q r = q ≡ r
IsSpread (suc n) [] [] = Unit {0}
IsSpread (suc n) [] (g ∷ gs) = ⊥
IsSpread (suc n) (f ∷ fs) [] = ⊥
IsSpread (suc n) (f ∷ fs) (g ∷ gs) = IsPart f g × IsSpread n fs gs

-- the second cell is the first, or has an end in place of its interval along one axis
abbrev pub IsStep : ℕ → List Factor → List Factor → Type 0
IsStep n t r = (t ≡ r) ⊎ ((is_wide (factor_at t n) ≡ true) × ((with_end n (pos 0) t ≡ r) ⊎ (with_end n (pos 1) t ≡ r)))

spread_itself : (n : ℕ) (q : List Factor) → IsSpread n q q
spread_itself zero q = refl
spread_itself (suc n) [] = tt
spread_itself (suc n) (f ∷ fs) = (part_refl f, spread_itself n fs)

spread_more : (n : ℕ) (q r : List Factor) → IsSpread n q r → IsSpread (suc n) q r
spread_more zero q r e = subst (λ (s : List Factor). IsSpread 1 q s) e (spread_itself 1 q)
spread_more (suc n) [] [] e = tt
spread_more (suc n) [] (g ∷ gs) e = absurd e
spread_more (suc n) (f ∷ fs) [] e = absurd e
spread_more (suc n) (f ∷ fs) (g ∷ gs) e = (e.0, spread_more n fs gs e.1)

-- an end of an interval is a part
abbrev IsEnd : ℤ → Type 0
IsEnd z = (z ≡ pos 0) ⊎ (z ≡ pos 1)

none_more : (l z : ℤ) → z ≡ pos 0 → l +ℤ z ≡ l
none_more l z e = omega (arith, ints)

part_end : (z : ℤ) (f : Factor) → IsEnd z → is_wide f ≡ true → IsPart f (point (low f +ℤ z))
part_end z (point l) h w = absurd (true≢false (sym w))
part_end z (interval l) (inl e) w = inl (none_more l z e)
part_end z (interval l) (inr e) w = inr (ap (λ y. l +ℤ y) e)

spread_changed : (z : ℤ) → IsEnd z → (n : ℕ) (q t : List Factor) → IsSpread n q t → is_wide (factor_at t n) ≡ true → IsSpread (suc n) q (with_end n z t)
spread_changed z h zero q [] e w = absurd (true≢false (sym w))
spread_changed z h zero q (g ∷ gs) e w = subst (λ (s : List Factor). IsSpread 1 s (point (low g +ℤ z) ∷ gs)) (sym e) (part_end z g h w, refl)
spread_changed z h (suc n) [] [] e w = absurd (true≢false (sym w))
spread_changed z h (suc n) [] (g ∷ gs) e w = absurd e
spread_changed z h (suc n) (f ∷ fs) [] e w = absurd e
spread_changed z h (suc n) (f ∷ fs) (g ∷ gs) e w = (e.0, spread_changed z h n fs gs e.1 w)

-- one more axis
pub spread_step : (n : ℕ) (q t r : List Factor) → IsSpread n q t → IsStep n t r → IsSpread (suc n) q r
spread_step n q t r s (inl e) = subst (λ (u : List Factor). IsSpread (suc n) q u) e (spread_more n q t s)
spread_step n q t r s (inr (w, inl e)) = subst (λ (u : List Factor). IsSpread (suc n) q u) e (spread_changed (pos 0) (inl refl) n q t s w)
spread_step n q t r s (inr (w, inr e)) = subst (λ (u : List Factor). IsSpread (suc n) q u) e (spread_changed (pos 1) (inr refl) n q t s w)

behind : (n : ℕ) (g : Factor) (t r : List Factor) → IsStep n t r → IsStep (suc n) (g ∷ t) (g ∷ r)
behind n g t r (inl e) = inl (ap (λ u. g ∷ u) e)
behind n g t r (inr (w, inl e)) = inr (w, inl (ap (λ u. g ∷ u) e))
behind n g t r (inr (w, inr e)) = inr (w, inr (ap (λ u. g ∷ u) e))

at_first : (f g : Factor) (fs gs : List Factor) → fs ≡ gs → IsPart f g → IsStep 0 (f ∷ fs) (g ∷ gs)
at_first (point l) (point m) fs gs s e = inl (λ i. point (sym e i) ∷ s i)
at_first (point l) (interval m) fs gs s e = absurd e
at_first (interval l) (interval m) fs gs s e = inl (λ i. interval (sym e i) ∷ s i)
at_first (interval l) (point m) fs gs s (inl e) = let h : l +ℤ pos 0 ≡ m = none_more l (pos 0) refl ∙ sym e in inr (refl, inl (λ i. point (h i) ∷ s i))
at_first (interval l) (point m) fs gs s (inr e) = inr (refl, inr (λ i. point (sym e i) ∷ s i))

pub spread_back : (n : ℕ) (q r : List Factor) → IsSpread (suc n) q r → (t : List Factor) × IsSpread n q t × IsStep n t r
spread_back zero [] [] e = ([], refl, inl refl)
spread_back zero [] (g ∷ gs) e = absurd e
spread_back zero (f ∷ fs) [] e = absurd e
spread_back zero (f ∷ fs) (g ∷ gs) e = (f ∷ fs, refl, at_first f g fs gs e.1 e.0)
spread_back (suc n) [] [] e = ([], tt, inl refl)
spread_back (suc n) [] (g ∷ gs) e = absurd e
spread_back (suc n) (f ∷ fs) [] e = absurd e
spread_back (suc n) (f ∷ fs) (g ∷ gs) e = let b = spread_back n fs gs e.1 in (g ∷ b.0, (e.0, b.1), behind n g b.0 gs b.2)

pub spread_face : (n : ℕ) (q r : List Factor) → IsSpread n q r → IsFace q r
spread_face zero q r e = subst (λ (s : List Factor). IsFace q s) e (face_refl q)
spread_face (suc n) [] [] e = tt
spread_face (suc n) [] (g ∷ gs) e = absurd e
spread_face (suc n) (f ∷ fs) [] e = absurd e
spread_face (suc n) (f ∷ fs) (g ∷ gs) e = (e.0, spread_face n fs gs e.1)

pub face_spread : (n : ℕ) (q r : List Factor) → length q ≤ n → IsFace q r → IsSpread n q r
face_spread zero [] [] h e = refl
face_spread zero [] (g ∷ gs) h e = absurd e
face_spread zero (f ∷ fs) r h e = absurd (omega arith)
face_spread (suc n) [] [] h e = tt
face_spread (suc n) [] (g ∷ gs) h e = absurd e
face_spread (suc n) (f ∷ fs) [] h e = absurd e
face_spread (suc n) (f ∷ fs) (g ∷ gs) h e = (e.0, face_spread n fs gs (omega arith) e.1)
