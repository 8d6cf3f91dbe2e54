-- Lists of chains degree by degree are the tables of a section.
use Rattle.std.proofs.Common.{◌≡◌, ◌≢◌, ℕ, zero, suc, ◌+◌, ◌<◌, ◌≤◌, refl, sym, ap, ◌∙◌, arith, List, [], ◌∷◌, ◌++◌, length, get_or, map, Bool, true, false, cond, eqb, eq-eqb, ne_eqb, subst}
use Rattle.std.proofs.lemmas.List.{append-nil, length-map}
use Rattle.elem_cubes.specs.Cells.{Factor}
use Rattle.elem_cubes.specs.Laws.{cell_at}
use Rattle.witness_laws.specs.Lines.{each}
use Rattle.witness_laws.specs.Inputs.{all_cells, relative_cells}
use Rattle.witness_laws.specs.Sections.{Section}
use Rattle.witness_laws.proofs.Runs.{map_each, length_singles}
use Rattle.witness_types.specs.declared.part.PairPart.{PairPart}
use Rattle.witness_types.specs.Parts.{beside, degrees_of}
use Rattle.witness_writing.proofs.Grouping.{Rises}
use Rattle.witness_writing.proofs.Pairs.{get_singles}
use Rattle.witness_parts.specs.Filed.{AreFiled, HasCycles, HasChains}
use Rattle.witness_parts.specs.Tables.{IsPartOf}
use Rattle.witness_parts.proofs.Degrees.{each_below}

step : {A : Type 0} (b : Bool) (x : A) (all front back : List A) → all ≡ front ++ back → cond b (x ∷ all) all ≡ cond b (x ∷ front) front ++ back
step true x all front back e = ap (λ l. x ∷ l) e
step false x all front back e = e

beside-append : {A : Type 0} (k : ℕ) (ds es : List ℕ) (xs ys : List A) → length ds ≡ length xs → beside k (ds ++ es) (xs ++ ys) ≡ beside k ds xs ++ beside k es ys
beside-append k [] es [] ys e = refl
beside-append k [] es (x ∷ xs) ys e = absurd (omega arith)
beside-append k (d ∷ ds) es [] ys e = absurd (omega arith)
beside-append k (d ∷ ds) es (x ∷ xs) ys e = step (eqb d k) x (beside k (ds ++ es) (xs ++ ys)) (beside k ds xs) (beside k es ys) (beside-append k ds es xs ys (omega arith))

beside_all : {A B : Type 0} (k : ℕ) (gs : List A) (xs : List B) → length gs ≡ length xs → beside k (map (λ g. k) gs) xs ≡ xs
beside_all k [] [] e = refl
beside_all k [] (x ∷ xs) e = absurd (omega arith)
beside_all k (g ∷ gs) [] e = absurd (omega arith)
beside_all k (g ∷ gs) (x ∷ xs) e = ap (λ b. cond b (x ∷ beside k (map (λ h. k) gs) xs) (beside k (map (λ h. k) gs) xs)) (eq-eqb k k refl) ∙ ap (λ l. x ∷ l) (beside_all k gs xs (omega arith))

beside_other : {A B : Type 0} (k d : ℕ) (gs : List A) (xs : List B) → d ≢ k → beside k (map (λ g. d) gs) xs ≡ []
beside_other k d [] xs n = refl
beside_other k d (g ∷ gs) [] n = refl
beside_other k d (g ∷ gs) (x ∷ xs) n = ap (λ b. cond b (x ∷ beside k (map (λ h. d) gs) xs) (beside k (map (λ h. d) gs) xs)) (ne_eqb d k n) ∙ beside_other k d gs xs n

-- the numbers of runs, each as often as its run is long
abbrev runs : {A : Type 0} → ℕ → ℕ → (ℕ → List A) → List ℕ
runs n low gs = each n (λ j. map (λ g. low + j) (gs j))

runs_next : {A : Type 0} (n low : ℕ) (gs : ℕ → List A) → each n (λ j. map (λ g. low + suc j) (gs (suc j))) ≡ runs n (suc low) (λ j. gs (suc j))
runs_next n low gs = each_below n (λ j. map (λ g. low + suc j) (gs (suc j))) (λ j. map (λ g. suc low + j) (gs (suc j))) (λ j l. let e : low + suc j ≡ suc low + j = omega arith in ap (λ (d : ℕ). map (λ g. d) (gs (suc j))) e)

module _ {A B : Type 0} where
  runs_past : (n low k : ℕ) (gs : ℕ → List A) (hs : ℕ → List B) → ((j : ℕ) → j < n → length (gs j) ≡ length (hs j)) → k < low → beside k (runs n low gs) (each n hs) ≡ []
  runs_past zero low k gs hs e l = refl
  runs_past (suc n) low k gs hs e l =
      beside-append k (map (λ g. low + 0) (gs 0)) (each n (λ j. map (λ g. low + suc j) (gs (suc j)))) (hs 0) (each n (λ j. hs (suc j))) (length-map (gs 0) (λ g. low + 0) ∙ e 0 (omega arith))
      ∙ ap (λ t. t ++ beside k (each n (λ j. map (λ g. low + suc j) (gs (suc j)))) (each n (λ j. hs (suc j)))) (beside_other k (low + 0) (gs 0) (hs 0) (λ q. omega (arith, q, l)))
      ∙ ap (λ ds. beside k ds (each n (λ j. hs (suc j)))) (runs_next n low gs)
      ∙ runs_past n (suc low) k (λ j. gs (suc j)) (λ j. hs (suc j)) (λ j m. e (suc j) (omega arith)) (omega (arith, l))

  runs_at : (n low k : ℕ) (gs : ℕ → List A) (hs : ℕ → List B) → ((j : ℕ) → j < n → length (gs j) ≡ length (hs j)) → k < n → beside (low + k) (runs n low gs) (each n hs) ≡ hs k
  runs_at zero low k gs hs e l = absurd (omega arith)
  runs_at (suc n) low zero gs hs e l =
      beside-append (low + 0) (map (λ g. low + 0) (gs 0)) (each n (λ j. map (λ g. low + suc j) (gs (suc j)))) (hs 0) (each n (λ j. hs (suc j))) (length-map (gs 0) (λ g. low + 0) ∙ e 0 (omega arith))
      ∙ ap (λ t. t ++ beside (low + 0) (each n (λ j. map (λ g. low + suc j) (gs (suc j)))) (each n (λ j. hs (suc j)))) (beside_all (low + 0) (gs 0) (hs 0) (e 0 (omega arith)))
      ∙ ap (λ ds. hs 0 ++ beside (low + 0) ds (each n (λ j. hs (suc j)))) (runs_next n low gs)
      ∙ ap (λ t. hs 0 ++ t) (runs_past n (suc low) (low + 0) (λ j. gs (suc j)) (λ j. hs (suc j)) (λ j m. e (suc j) (omega arith)) (omega arith))
      ∙ append-nil (hs 0)
  runs_at (suc n) low (suc k) gs hs e l =
      beside-append (low + suc k) (map (λ g. low + 0) (gs 0)) (each n (λ j. map (λ g. low + suc j) (gs (suc j)))) (hs 0) (each n (λ j. hs (suc j))) (length-map (gs 0) (λ g. low + 0) ∙ e 0 (omega arith))
      ∙ ap (λ t. t ++ beside (low + suc k) (each n (λ j. map (λ g. low + suc j) (gs (suc j)))) (each n (λ j. hs (suc j)))) (beside_other (low + suc k) (low + 0) (gs 0) (hs 0) (λ q. omega (arith, q)))
      ∙ ap (λ ds. beside (low + suc k) ds (each n (λ j. hs (suc j)))) (runs_next n low gs)
      ∙ (let s : low + suc k ≡ suc low + k = omega arith in ap (λ (d : ℕ). beside d (runs n (suc low) (λ j. gs (suc j))) (each n (λ j. hs (suc j)))) s)
      ∙ runs_at n (suc low) k (λ j. gs (suc j)) (λ j. hs (suc j)) (λ j m. e (suc j) (omega arith)) (omega (arith, l))

-- ---- degrees never fall

rises_lower : (low m high : ℕ) (ds : List ℕ) → Rises m high ds → low ≤ m → Rises low high ds
rises_lower low m high [] r l = tt
rises_lower low m high (d ∷ ds) r l = ((let q = r.0 in omega (arith, q, l)), r.1, r.2)

rises_const : {A : Type 0} (d low high : ℕ) (gs : List A) (rest : List ℕ) → low ≤ d → d < high → Rises d high rest → Rises low high (map (λ g. d) gs ++ rest)
rises_const d low high [] rest l h r = rises_lower low d high rest r l
rises_const d low high (g ∷ gs) rest l h r = (l, h, rises_const d d high gs rest (omega arith) h r)

rises_runs : {A : Type 0} (n low least high : ℕ) (gs : ℕ → List A) → least ≤ low → low + n ≤ high → Rises least high (runs n low gs)
rises_runs zero low least high gs l h = tt
rises_runs (suc n) low least high gs l h =
    rises_const (low + 0) least high (gs 0) (each n (λ j. map (λ g. low + suc j) (gs (suc j)))) (omega arith) (omega arith)
    (subst (Rises (low + 0) high) (sym (runs_next n low gs)) (rises_runs n (suc low) (low + 0) high (λ j. gs (suc j)) (omega arith) (omega arith)))

rises_below : (low high : ℕ) (ds : List ℕ) (i : ℕ) → Rises low high ds → i < length ds → (low ≤ get_or ds i 0) × (get_or ds i 0 < high)
rises_below low high [] i r l = absurd (omega arith)
rises_below low high (d ∷ ds) zero r l = (r.0, r.1)
rises_below low high (d ∷ ds) (suc i) r l = let w = rises_below d high ds i r.2 (omega arith) in ((let a = w.0 in let b = r.0 in omega (arith, a, b)), w.1)

rises_order : (low high : ℕ) (ds : List ℕ) (i j : ℕ) → Rises low high ds → i < j → j < length ds → get_or ds i 0 ≤ get_or ds j 0
rises_order low high [] i j r l m = absurd (omega arith)
rises_order low high (d ∷ ds) i zero r l m = absurd (omega arith)
rises_order low high (d ∷ ds) zero (suc j) r l m = (rises_below d high ds j r.2 (omega arith)).0
rises_order low high (d ∷ ds) (suc i) (suc j) r l m = rises_order d high ds i j r.2 (omega arith) (omega arith)

-- ---- a part

firsts : (k : ℕ) (zs : List (List (ℕ × ℕ))) → map (λ (z : ℕ × List (ℕ × ℕ)). z.0) (map (λ z. (k, z)) zs) ≡ map (λ z. 0 + k) zs
firsts k [] = refl
firsts k (z ∷ zs) = let e : k ≡ 0 + k = omega arith in ap (λ (d : ℕ). d ∷ map (λ (y : ℕ × List (ℕ × ℕ)). y.0) (map (λ y. (k, y)) zs)) e ∙ ap (λ l. (0 + k) ∷ l) (firsts k zs)

seconds : (k : ℕ) (zs : List (List (ℕ × ℕ))) → map (λ (z : ℕ × List (ℕ × ℕ)). z.1) (map (λ z. (k, z)) zs) ≡ zs
seconds k [] = refl
seconds k (z ∷ zs) = ap (λ l. z ∷ l) (seconds k zs)

module _ {p : ℕ} (top : ℕ) (x a : List (List Factor)) (S : Section) (part : PairPart p)
    (cycles : HasCycles p (all_cells x a) (top + 1) S.size S.cycle part.cycles.items)
    (cocycles : HasChains p (all_cells x a) (top + 1) S.size S.cocycle part.cocycles.items)
    (homotopies : AreFiled p (all_cells x a) (length (relative_cells x a)) (λ i. S.homotopy (cell_at (relative_cells x a) i)) part.homotopy.items) where
  abbrev n : ℕ
  n = top + 1

  abbrev gs : ℕ → List (List (ℕ × ℕ))
  gs = cycles.groups

  abbrev hs : ℕ → List (List (ℕ × ℕ))
  hs = cocycles.groups

  abbrev ds : List ℕ
  ds = degrees_of part.cycles.items

  abbrev zs : List (List (ℕ × ℕ))
  zs = map (λ z. z.1) part.cycles.items

  ds_are : ds ≡ runs n 0 gs
  ds_are = ap degrees_of cycles.made ∙ map_each (λ (z : ℕ × List (ℕ × ℕ)). z.0) n (λ k. map (λ z. (k, z)) (gs k)) ∙ each_below n (λ k. map (λ (z : ℕ × List (ℕ × ℕ)). z.0) (map (λ z. (k, z)) (gs k))) (λ k. map (λ z. 0 + k) (gs k)) (λ k l. firsts k (gs k))

  zs_are : zs ≡ each n gs
  zs_are = ap (λ (l : List (ℕ × List (ℕ × ℕ))). map (λ z. z.1) l) cycles.made ∙ map_each (λ (z : ℕ × List (ℕ × ℕ)). z.1) n (λ k. map (λ z. (k, z)) (gs k)) ∙ each_below n (λ k. map (λ (z : ℕ × List (ℕ × ℕ)). z.1) (map (λ z. (k, z)) (gs k))) gs (λ k l. seconds k (gs k))

  one_length : (k : ℕ) → k < n → length (gs k) ≡ length (hs k)
  one_length k l = (cycles.at k l).count ∙ sym (cocycles.at k l).count

  cycles_at : (k : ℕ) → k < n → beside k ds zs ≡ gs k
  cycles_at k l = let e : k ≡ 0 + k = omega arith in
      ap (λ t. beside k t zs) ds_are ∙ ap (beside k (runs n 0 gs)) zs_are ∙ ap (λ (d : ℕ). beside d (runs n 0 gs) (each n gs)) e ∙ runs_at n 0 k gs gs (λ j m. refl) l

  cocycles_at : (k : ℕ) → k < n → beside k ds part.cocycles.items ≡ hs k
  cocycles_at k l = let e : k ≡ 0 + k = omega arith in
      ap (λ t. beside k t part.cocycles.items) ds_are ∙ ap (beside k (runs n 0 gs)) cocycles.made ∙ ap (λ (d : ℕ). beside d (runs n 0 gs) (each n hs)) e ∙ runs_at n 0 k gs hs one_length l

  up : Rises 0 n ds
  up = subst (Rises 0 n) (sym ds_are) (rises_runs n 0 0 n gs (omega arith) (omega arith))

  length_each : {A B : Type 0} (m : ℕ) (f : ℕ → List A) (g : ℕ → List B) → ((k : ℕ) → k < m → length (f k) ≡ length (g k)) → length (each m f) ≡ length (each m g)
  length_each zero f g e = refl
  length_each (suc m) f g e = lengths (f 0) (g 0) (each m (λ i. f (suc i))) (each m (λ i. g (suc i))) (e 0 (omega arith)) (length_each m (λ i. f (suc i)) (λ i. g (suc i)) (λ k l. e (suc k) (omega arith)))
    where
      lengths : {A B : Type 0} (u : List A) (v : List B) (s : List A) (t : List B) → length u ≡ length v → length s ≡ length t → length (u ++ s) ≡ length (v ++ t)
      lengths [] [] s t e f = f
      lengths [] (y ∷ v) s t e f = absurd (omega arith)
      lengths (y ∷ u) [] s t e f = absurd (omega arith)
      lengths (y ∷ u) (z ∷ v) s t e f = ap suc (lengths u v s t (omega arith) f)

  pub part_tables : IsPartOf top x a S part
  part_tables = record {
    order = record {
      within = λ i l. let w = (rises_below 0 n ds i up (let e = length-map part.cycles.items (λ z. z.0) in omega (arith, e, l))).1 in omega (arith, w);
      order = λ i j l m. rises_order 0 n ds i j up l (let e = length-map part.cycles.items (λ z. z.0) in omega (arith, e, m));
      cocycles = ap length cocycles.made ∙ sym (length_each n gs hs one_length) ∙ sym (ap length zs_are) ∙ length-map part.cycles.items (λ z. z.1);
    };
    tables = record {
      degrees = length_singles (suc top) (λ k. beside k ds zs) ∙ (let e : suc top ≡ top + 1 = omega arith in e);
      cocycle_degrees = length_singles (suc top) (λ k. beside k ds part.cocycles.items) ∙ (let e : suc top ≡ top + 1 = omega arith in e);
      cycles = λ k l. subst (AreFiled p (all_cells x a) (S.size k) (S.cycle k)) (sym (get_singles (suc top) (λ j. beside j ds zs) [] k (omega (arith, l)) ∙ cycles_at k (omega (arith, l)))) (cycles.at k (omega (arith, l)));
      cocycles = λ k l. subst (AreFiled p (all_cells x a) (S.size k) (S.cocycle k)) (sym (get_singles (suc top) (λ j. beside j ds part.cocycles.items) [] k (omega (arith, l)) ∙ cocycles_at k (omega (arith, l)))) (cocycles.at k (omega (arith, l)));
      homotopies = homotopies;
    };
  }
