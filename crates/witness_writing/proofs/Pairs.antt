-- The lines of a pair, one behind the other, are the texts of the runs of its part.
use Rattle.std.proofs.Common.{◌≡◌, ℕ, zero, suc, ◌+◌, ◌<◌, ◌≤◌, refl, sym, ap, ◌∙◌, arith, ⊎_elim, List, [], ◌∷◌, ◌++◌, length, get_or, map, cond, eqb}
use Rattle.std.proofs.lemmas.Bool.{cond_both, cases_lt}
use Rattle.std.proofs.lemmas.List.{map-append, append-nil, length-map, get_or_past}
use Rattle.std.proofs.lemmas.Grind.{flat_map-append}
use Rattle.std.specs.Prelude.{codes}
use Rattle.std.specs.List.{flat_map}
use Rattle.elem_cubes.specs.Cells.{Factor}
use Rattle.homology_basis.specs.Bases.{in_degree}
use Rattle.witness_laws.specs.Lines.{Side, Line, section, cycle, cocycle, homotopy, each, chain_line}
use Rattle.witness_laws.specs.Inputs.{all_cells, relative_cells}
use Rattle.witness_laws.specs.Parts.{nth, relative_number}
use Rattle.witness_laws.specs.Tables.{PairTables, pair_lines}
use Rattle.witness_laws.proofs.Runs.{length_singles}
use Rattle.witness_types.specs.declared.part.PairPart.{PairPart}
use Rattle.witness_types.specs.Parts.{beside, by_degree, degrees_of, pair_tables, IsInOrder}
use Rattle.witness_writing.specs.Runs.{cycles_text, cocycles_text, homotopies_text, section_text}
use Rattle.witness_writing.proofs.Grouping.{Rises, along, each_list, each_pair, each_equal, grouped}

-- one text behind the other
abbrev pub flat : List (List ℕ) → List ℕ
flat ts = flat_map (λ t. t) ts

pub flat_each : (h : Line → List ℕ) (n : ℕ) (F : ℕ → List Line) → flat (map h (each n F)) ≡ each n (λ i. flat (map h (F i)))
flat_each h zero F = refl
flat_each h (suc n) F =
    ap flat (map-append h (F 0) (each n (λ i. F (suc i)))) ∙ flat_map-append (λ t. t) (map h (F 0)) (map h (each n (λ i. F (suc i))))
    ∙ ap (λ l. flat (map h (F 0)) ++ l) (flat_each h n (λ i. F (suc i)))

pub flat_once : (h : Line → List ℕ) (n : ℕ) (y : ℕ → Line) → flat (map h (each n (λ i. y i ∷ []))) ≡ each n (λ i. h (y i))
flat_once h n y = flat_each h n (λ i. y i ∷ []) ∙ each_equal n (λ i. h (y i) ++ []) (λ i. h (y i)) (λ i. append-nil (h (y i)))

flat_twice : (h : Line → List ℕ) (n : ℕ) (m : ℕ → ℕ) (y : ℕ → ℕ → Line) → flat (map h (each n (λ k. each (m k) (λ i. y k i ∷ [])))) ≡ each n (λ k. each (m k) (λ i. h (y k i)))
flat_twice h n m y = flat_each h n (λ k. each (m k) (λ i. y k i ∷ [])) ∙ each_equal n (λ k. flat (map h (each (m k) (λ i. y k i ∷ [])))) (λ k. each (m k) (λ i. h (y k i))) (λ k. flat_once h (m k) (y k))

pub each_below : (n : ℕ) (f g : ℕ → List ℕ) → ((i : ℕ) → i < n → f i ≡ g i) → each n f ≡ each n g
each_below zero f g e = refl
each_below (suc n) f g e =
    ap (λ l. l ++ each n (λ i. f (suc i))) (e 0 (omega arith)) ∙ ap (λ l. g 0 ++ l) (each_below n (λ i. f (suc i)) (λ i. g (suc i)) (λ i l. e (suc i) (omega arith)))

pub get_singles : {X : Type 0} (n : ℕ) (y : ℕ → X) (d : X) (k : ℕ) → k < n → get_or (each n (λ i. y i ∷ [])) k d ≡ y k
get_singles zero y d k l = absurd (omega arith)
get_singles (suc n) y d zero l = refl
get_singles (suc n) y d (suc k) l = get_singles n (λ i. y (suc i)) d k (omega arith)

-- a list whose numbers never fall
rises : (low high : ℕ) (ds : List ℕ) → ((i : ℕ) → i < length ds → low ≤ get_or ds i 0) → ((i : ℕ) → i < length ds → get_or ds i 0 < high)
    → ((i j : ℕ) → i < j → j < length ds → get_or ds i 0 ≤ get_or ds j 0) → Rises low high ds
rises low high [] a b c = tt
rises low high (d ∷ ds) a b c = (
  a 0 (omega arith),
  b 0 (omega arith),
  rises d high ds (λ i l. c 0 (suc i) (omega arith) (omega arith)) (λ i l. b (suc i) (omega arith)) (λ i j l q. c (suc i) (suc j) (omega arith) (omega arith)),
)

-- a run by degree is that of the list
module _ (top : ℕ) (ds : List ℕ) (up : Rises 0 (suc top) ds) where
  run : (f : ℕ → List (ℕ × ℕ) → List ℕ) (xs : List (List (ℕ × ℕ))) → length ds ≡ length xs
      → each (length (by_degree top ds xs)) (λ k. each (length (in_degree (by_degree top ds xs) k)) (λ i. f k (nth (in_degree (by_degree top ds xs) k) i))) ≡ along f ds xs
  run f xs e =
      let lists : List (List (List (ℕ × ℕ))) = by_degree top ds xs in
      let here : (k : ℕ) → k < suc top → each (length (in_degree lists k)) (λ i. f k (nth (in_degree lists k) i)) ≡ flat_map (f (0 + k)) (beside (0 + k) ds xs) =
      λ k l.
      let z : 0 + k ≡ k = omega arith in
      ap (λ (c : List (List (ℕ × ℕ))). each (length c) (λ i. f k (nth c i))) (get_singles (suc top) (λ j. beside j ds xs) [] k l)
      ∙ each_list (f k) [] (beside k ds xs) ∙ sym (ap (λ (j : ℕ). flat_map (f j) (beside j ds xs)) z) in
      ap (λ (n : ℕ). each n (λ k. each (length (in_degree lists k)) (λ i. f k (nth (in_degree lists k) i)))) (length_singles (suc top) (λ j. beside j ds xs))
      ∙ each_below (suc top) (λ k. each (length (in_degree lists k)) (λ i. f k (nth (in_degree lists k) i))) (λ k. flat_map (f (0 + k)) (beside (0 + k) ds xs)) here
      ∙ grouped f (suc top) 0 (suc top) (omega arith) ds xs up e

pub flat_append : (h : Line → List ℕ) (u v : List Line) → flat (map h (u ++ v)) ≡ flat (map h u) ++ flat (map h v)
flat_append h u v = ap flat (map-append h u v) ∙ flat_map-append (λ t. t) (map h u) (map h v)

beside_lengths : {A B : Type 0} (k : ℕ) (ds : List ℕ) (xs : List A) (ys : List B) → length xs ≡ length ys → length (beside k ds xs) ≡ length (beside k ds ys)
beside_lengths k [] xs ys e = refl
beside_lengths k (d ∷ ds) [] [] e = refl
beside_lengths k (d ∷ ds) [] (y ∷ ys) e = absurd (omega arith)
beside_lengths k (d ∷ ds) (x ∷ xs) [] e = absurd (omega arith)
beside_lengths k (d ∷ ds) (x ∷ xs) (y ∷ ys) e =
    let rest = beside_lengths k ds xs ys (omega arith) in
    cond_both (eqb d k) (x ∷ beside k ds xs) (beside k ds xs) (λ zs. length zs ≡ length (cond (eqb d k) (y ∷ beside k ds ys) (beside k ds ys)))
    (λ t. ap suc rest ∙ sym (ap (λ b. length (cond b (y ∷ beside k ds ys) (beside k ds ys))) t))
    (λ t. rest ∙ sym (ap (λ b. length (cond b (y ∷ beside k ds ys) (beside k ds ys))) t))

-- the lines of a pair, where each has this text
module _ {p : ℕ} (side : Side) (x a : List (List Factor)) (top : ℕ) (part : PairPart p) (order : IsInOrder top part) (h : Line → List ℕ)
    (at_cycle : (k i : ℕ) → h (cycle side k i) ≡ chain_line (codes "z") (k ∷ []) (nth (in_degree (pair_tables top part).cycles k) i))
    (at_cocycle : (k i : ℕ) → h (cocycle side k i) ≡ chain_line (codes "c") (k ∷ []) (nth (in_degree (pair_tables top part).cocycles k) i))
    (at_homotopy : (i : ℕ) → h (homotopy side i) ≡ chain_line (codes "h") (relative_number x a i ∷ []) (nth part.homotopy.items i)) where
  abbrev zs : List (ℕ × List (ℕ × ℕ))
  zs = part.cycles.items

  abbrev ds : List ℕ
  ds = degrees_of zs

  abbrev chains : List (List (ℕ × ℕ))
  chains = map (λ z. z.1) zs

  abbrev cs : List (List (ℕ × ℕ))
  cs = part.cocycles.items

  abbrev S : PairTables
  S = pair_tables top part

  up : Rises 0 (suc top) ds
  up =
      let n : length ds ≡ length zs = length-map zs (λ z. z.0) in
      rises 0 (suc top) ds (λ i l. omega arith) (λ i l. let w = order.within i (omega (arith, n, l)) in omega (arith, w)) (λ i j l m. order.order i j l (omega (arith, n, m)))

  abbrev cycle_lines : List Line
  cycle_lines = each (length S.cycles) (λ k. each (length (in_degree S.cycles k)) (λ i. cycle side k i ∷ []))

  abbrev cocycle_lines : List Line
  cocycle_lines = each (length S.cycles) (λ k. each (length (in_degree S.cycles k)) (λ i. cocycle side k i ∷ []))

  cycles_are : flat (map h cycle_lines) ≡ cycles_text zs
  cycles_are =
      let f : ℕ → List (ℕ × ℕ) → List ℕ = λ k t. chain_line (codes "z") (k ∷ []) t in
      let e : length ds ≡ length chains = length-map zs (λ z. z.0) ∙ sym (length-map zs (λ z. z.1)) in
      flat_twice h (length S.cycles) (λ k. length (in_degree S.cycles k)) (λ k i. cycle side k i)
      ∙ each_equal (length S.cycles) _ _ (λ k. each_equal (length (in_degree S.cycles k)) _ _ (at_cycle k))
      ∙ run top ds up f chains e ∙ sym (each_pair f [] ds chains e)
      ∙ ap (λ (n : ℕ). each n (λ i. f (get_or ds i 0) (nth chains i))) (length-map zs (λ z. z.1))

  cocycles_are : flat (map h cocycle_lines) ≡ cocycles_text zs cs
  cocycles_are =
      let f : ℕ → List (ℕ × ℕ) → List ℕ = λ k t. chain_line (codes "c") (k ∷ []) t in
      let e : length ds ≡ length cs = length-map zs (λ z. z.0) ∙ sym order.cocycles in
      let sizes : (k : ℕ) → length (in_degree S.cycles k) ≡ length (in_degree S.cocycles k) = λ k. same_sizes k in
      let degrees : length S.cycles ≡ length S.cocycles = length_singles (suc top) (λ k. beside k ds chains) ∙ sym (length_singles (suc top) (λ k. beside k ds cs)) in
      flat_twice h (length S.cycles) (λ k. length (in_degree S.cycles k)) (λ k i. cocycle side k i)
      ∙ each_equal (length S.cycles) _ _ (λ k. each_equal (length (in_degree S.cycles k)) _ _ (at_cocycle k))
      ∙ each_equal (length S.cycles) _ _ (λ k. ap (λ (n : ℕ). each n (λ i. f k (nth (in_degree S.cocycles k) i))) (sizes k))
      ∙ ap (λ (n : ℕ). each n (λ k. each (length (in_degree S.cocycles k)) (λ i. f k (nth (in_degree S.cocycles k) i)))) degrees
      ∙ run top ds up f cs e ∙ sym (each_pair f [] ds cs e)
    where
      same_sizes : (k : ℕ) → length (in_degree S.cycles k) ≡ length (in_degree S.cocycles k)
      same_sizes k = ⊎_elim
          (λ l. ap length (get_singles (suc top) (λ j. beside j ds chains) [] k l) ∙ beside_lengths k ds chains cs (length-map zs (λ z. z.1) ∙ sym order.cocycles)
          ∙ sym (ap length (get_singles (suc top) (λ j. beside j ds cs) [] k l)))
          (λ l. ap length (get_or_past S.cycles k [] (let n = length_singles (suc top) (λ j. beside j ds chains) in omega (arith, n, l)))
          ∙ sym (ap length (get_or_past S.cocycles k [] (let n = length_singles (suc top) (λ j. beside j ds cs) in omega (arith, n, l)))))
          (cases_lt k (suc top))

  homotopies_are : flat (map h (each (length part.homotopy.items) (λ i. homotopy side i ∷ []))) ≡ homotopies_text (all_cells x a) (relative_cells x a) part.homotopy.items
  homotopies_are = flat_once h (length part.homotopy.items) (homotopy side) ∙ each_equal (length part.homotopy.items) _ _ at_homotopy

  pub section_is : flat (map h (pair_lines side (pair_tables top part))) ≡ h (section side) ++ section_text x a part
  section_is =
      let hs : List Line = each (length part.homotopy.items) (λ i. homotopy side i ∷ []) in
      ap (λ l. h (section side) ++ l)
      (flat_append h (cycle_lines ++ cocycle_lines) hs ∙ ap (λ l. l ++ flat (map h hs)) (flat_append h cycle_lines cocycle_lines)
      ∙ ap (λ l. (l ++ flat (map h cocycle_lines)) ++ flat (map h hs)) cycles_are
      ∙ ap (λ l. (cycles_text zs ++ l) ++ flat (map h hs)) cocycles_are
      ∙ ap (λ l. (cycles_text zs ++ cocycles_text zs cs) ++ l) homotopies_are)
