-- Pairs of factors, of which not both are of one kind.
use Rattle.std.proofs.Common.{◌≡◌, ◌⊎◌, inl, inr, ⊎_elim, suc, ◌+◌, ◌*◌, refl, sym, ap, ◌∙◌, subst, arith, List, [], ◌∷◌, ◌++◌, length, map, length-append}
use Rattle.std.specs.List.{flat_map}
use Rattle.elem_cubes.specs.Cells.{Factor}
use Rattle.elem_cubes.proofs.Members.{In, In-map, map-In, In-append, left-In, right-In, In-flat, flat-In, Apart, apart-append, apart-map}

abbrev pub pair : Factor → Factor → List Factor
pair f g = f ∷ g ∷ []

abbrev pub pairs : List Factor → List Factor → List (List Factor)
pairs fs gs = flat_map (λ f. map (pair f) gs) fs

pub In_pairs : (fs gs : List Factor) (q : List Factor) → In (pairs fs gs) q → (f : Factor) × (g : Factor) × In fs f × In gs g × (q ≡ pair f g)
In_pairs fs gs q m =
    let w = In-flat (λ f. map (pair f) gs) fs q m in
    let v = In-map (pair w.0) gs q w.2 in
    (w.0, v.0, w.1, v.1, sym v.2)

pub pairs_In : (fs gs : List Factor) (f g : Factor) → In fs f → In gs g → In (pairs fs gs) (pair f g)
pairs_In fs gs f g m n = flat-In (λ f. map (pair f) gs) fs f (pair f g) m (map-In (pair f) gs g n)

pub length_map : {X Y : Type 0} (f : X → Y) (xs : List X) → length (map f xs) ≡ length xs
length_map f [] = refl
length_map f (x ∷ xs) = ap suc (length_map f xs)

pub length_pairs : (fs gs : List Factor) → length (pairs fs gs) ≡ length fs * length gs
length_pairs [] gs = omega arith
length_pairs (f ∷ fs) gs = omega (arith, length-append (map (pair f) gs) (pairs fs gs), length_map (pair f) gs, length_pairs fs gs)

first_same : (f g h k : Factor) → pair f g ≡ pair h k → f ≡ h
first_same f g h k e = cc

second_same : (f g h k : Factor) → pair f g ≡ pair h k → g ≡ k
second_same f g h k e = cc

pub apart_pairs : (fs gs : List Factor) → Apart fs → Apart gs → Apart (pairs fs gs)
apart_pairs [] gs a b = tt
apart_pairs (f ∷ fs) gs a b = apart-append (map (pair f) gs) (pairs fs gs) (apart-map (pair f) gs (λ g h e. second_same f g f h e) b) (apart_pairs fs gs a.1 b)
    (λ q m n.
    let v = In-map (pair f) gs q m in
    let w = In_pairs fs gs q n in
    a.0 (subst (λ (h : Factor). In fs h) (sym (first_same f v.0 w.0 w.1 (v.2 ∙ w.4))) w.2))

-- the pairs of two kinds of factors, but those of two of the first kind
module _ (odds others : List Factor) where
  abbrev pub grid : List (List Factor)
  grid = pairs odds others ++ pairs others (odds ++ others)

  pub length_grid : length grid ≡ length odds * length others + length others * (length odds + length others)
  length_grid =
      length-append (pairs odds others) (pairs others (odds ++ others))
      ∙ ap (λ n. n + length (pairs others (odds ++ others))) (length_pairs odds others)
      ∙ ap (λ n. length odds * length others + n) (length_pairs others (odds ++ others) ∙ ap (λ n. length others * n) (length-append odds others))

  pub apart_grid : Apart odds → Apart others → ((f : Factor) → In odds f → In others f → ⊥) → Apart grid
  apart_grid a b split = apart-append (pairs odds others) (pairs others (odds ++ others)) (apart_pairs odds others a b)
      (apart_pairs others (odds ++ others) b (apart-append odds others a b split))
      (λ q m n.
      let v = In_pairs odds others q m in
      let w = In_pairs others (odds ++ others) q n in
      split v.0 v.2 (subst (λ (h : Factor). In others h) (sym (first_same v.0 v.1 w.0 w.1 (sym v.4 ∙ w.4))) w.2))

  -- what is in the grid: one of the second kind is in it
  abbrev pub AreInGrid : Factor → Factor → Type 0
  AreInGrid f g = (In odds f × In others g) ⊎ (In others f × (In odds g ⊎ In others g))

  pub In_grid : (q : List Factor) → In grid q → (f : Factor) × (g : Factor) × AreInGrid f g × (q ≡ pair f g)
  In_grid q m = ⊎_elim
      (λ l. let w = In_pairs odds others q l in (w.0, w.1, inl (w.2, w.3), w.4))
      (λ r. let w = In_pairs others (odds ++ others) q r in (w.0, w.1, inr (w.2, In-append odds others w.1 w.3), w.4))
      (In-append (pairs odds others) (pairs others (odds ++ others)) q m)

  pub grid_In : (f g : Factor) → AreInGrid f g → In grid (pair f g)
  grid_In f g (inl (m, n)) = left-In (pairs odds others) (pairs others (odds ++ others)) (pair f g) (pairs_In odds others f g m n)
  grid_In f g (inr (m, n)) = right-In (pairs odds others) (pairs others (odds ++ others)) (pair f g)
      (pairs_In others (odds ++ others) f g m (⊎_elim (λ k. left-In odds others g k) (λ k. right-In odds others g k) n))
