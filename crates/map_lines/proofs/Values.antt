-- Values and images in tables of a map: facts by place and by list, and their lines as items.
use Rattle.std.proofs.Common.{◌≡◌, ℕ, zero, suc, ◌+◌, ◌<◌, refl, sym, ap, ◌∙◌, arith, List, [], ◌∷◌, ◌++◌, length, get_or, map, subst, Some}
use Rattle.std.proofs.lemmas.List.{map-append}
use Rattle.std.specs.Prelude.{codes}
use Rattle.elem_cubes.specs.Cells.{Factor, dimension_of}
use Rattle.elem_cubes.specs.Laws.{cell_at}
use Rattle.cube_maps.specs.CubeMaps.{Naming}
use Rattle.map_checks.specs.Faults.{together}
use Rattle.witness_laws.specs.Lines.{Line, vertex, filling, image as image_line, each}
use Rattle.witness_laws.specs.Inputs.{Given, target_of}
use Rattle.witness_laws.specs.Parts.{AreTerms, nth, value_at, value_number}
use Rattle.witness_laws.specs.Tables.{Tables, MapTables, map_of, value_lines}
use Rattle.witness_laws.proofs.Runs.{map_each, each_same}
use Rattle.map_lines.specs.Cells.{value_in}
use Rattle.witness_reading.proofs.Forms.{Item}
use Rattle.witness_reading.proofs.Shapes.{word_item}
use Rattle.witness_reading.proofs.Runs.{heads, run_items}
use Rattle.witness_reading.proofs.Items.{item_of_line, value_kinds as table_at}
use Rattle.witness_reading.proofs.Pairs.{each_run}
use Rattle.map_lines.proofs.Blocks.{block_items, blocks_items, IsBlock, AreBlocks}

-- ---- lists by place

pick : {A : Type 0} (n : ℕ) (f g : ℕ → A) → f 0 ≡ g 0 → ((i : ℕ) → i < n → f (suc i) ≡ g (suc i)) → (i : ℕ) → i < suc n → f i ≡ g i
pick n f g h r zero l = h
pick n f g h r (suc i) l = r i (omega arith)

-- so many lists that are the same
pub each_within : {X : Type 0} (n : ℕ) (f g : ℕ → List X) → ((i : ℕ) → i < n → f i ≡ g i) → each n f ≡ each n g
each_within zero f g h = refl
each_within (suc n) f g h =
    ap (λ l. l ++ each n (λ i. f (suc i))) (h 0 (omega arith)) ∙ ap (λ l. g 0 ++ l) (each_within n (λ i. f (suc i)) (λ i. g (suc i)) (λ i l. h (suc i) (omega arith)))

module _ (p : ℕ) (f : List Naming) (domain range : List (List Factor)) where
  abbrev V : ℕ → List (List Factor)
  V i = value_in f domain range i

  -- from facts by place
  pub are_blocks : (i : ℕ) (vs : List ℕ) (cs : List (List (List (ℕ × ℕ)))) (ms : List (List (ℕ × ℕ))) → length cs ≡ length vs → length ms ≡ length vs
      → ((j : ℕ) → j < length cs → length (get_or cs j []) ≡ length (V (i + j)))
      → ((j k : ℕ) → j < length cs → k < length (get_or cs j []) → AreTerms p 0 (nth (get_or cs j []) k))
      → ((j : ℕ) → j < length ms → AreTerms p 0 (nth ms j)) → AreBlocks p f domain range i vs cs ms
  are_blocks i [] [] [] a b c d e = tt
  are_blocks i [] [] (m ∷ ms) a b c d e = absurd (omega arith)
  are_blocks i [] (x ∷ cs) ms a b c d e = absurd (omega arith)
  are_blocks i (v ∷ vs) [] ms a b c d e = absurd (omega arith)
  are_blocks i (v ∷ vs) (x ∷ cs) [] a b c d e = absurd (omega arith)
  are_blocks i (v ∷ vs) (x ∷ cs) (m ∷ ms) a b c d e = (
    record {
      many = c 0 (omega arith) ∙ ap (λ (n : ℕ). length (V n)) (let q : i + 0 ≡ i = omega arith in q);
      fillings = λ k l. d 0 k (omega arith) l;
      image = e 0 (omega arith);
    },
    are_blocks (suc i) vs cs ms (omega arith) (omega arith)
        (λ j l. c (suc j) (omega arith) ∙ ap (λ (n : ℕ). length (V n)) (let q : i + suc j ≡ suc i + j = omega arith in q))
        (λ j k l r. d (suc j) k (omega arith) r) (λ j l. e (suc j) (omega arith)),
  )

  -- and to them
  pub counts : (i : ℕ) (vs : List ℕ) (cs : List (List (List (ℕ × ℕ)))) (ms : List (List (ℕ × ℕ))) → AreBlocks p f domain range i vs cs ms → (length cs ≡ length vs) × (length ms ≡ length vs)
  counts i [] [] [] a = (refl, refl)
  counts i [] [] (m ∷ ms) a = absurd a
  counts i [] (x ∷ cs) ms a = absurd a
  counts i (v ∷ vs) [] ms a = absurd a
  counts i (v ∷ vs) (x ∷ cs) [] a = absurd a
  counts i (v ∷ vs) (x ∷ cs) (m ∷ ms) a = let w = counts (suc i) vs cs ms a.1 in (ap suc w.0, ap suc w.1)

  pub block_at : (i : ℕ) (vs : List ℕ) (cs : List (List (List (ℕ × ℕ)))) (ms : List (List (ℕ × ℕ))) → AreBlocks p f domain range i vs cs ms → (j k : ℕ) → j < length vs → k ≡ i + j
      → IsBlock p f domain range k (get_or cs j []) (nth ms j)
  block_at i [] [] [] a j k l e = absurd (omega arith)
  block_at i [] [] (m ∷ ms) a j k l e = absurd a
  block_at i [] (x ∷ cs) ms a j k l e = absurd a
  block_at i (v ∷ vs) [] ms a j k l e = absurd a
  block_at i (v ∷ vs) (x ∷ cs) [] a j k l e = absurd a
  block_at i (v ∷ vs) (x ∷ cs) (m ∷ ms) a zero k l e = subst (λ (n : ℕ). IsBlock p f domain range n x m) (let q : i ≡ k = omega arith in q) a.0
  block_at i (v ∷ vs) (x ∷ cs) (m ∷ ms) a (suc j) k l e = block_at (suc i) vs cs ms a.1 j k (omega arith) (omega arith)

  -- the lines of all cells, by place
  pub blocks_by : (i : ℕ) (vs : List ℕ) (cs : List (List (List (ℕ × ℕ)))) (ms : List (List (ℕ × ℕ))) → length cs ≡ length vs → length ms ≡ length vs
      → each (length vs) (λ j. block_items p f domain range (i + j) (get_or vs j 0) (get_or cs j []) (nth ms j)) ≡ blocks_items p f domain range i vs cs ms
  blocks_by i [] cs ms a b = refl
  blocks_by i (v ∷ vs) [] ms a b = absurd (omega arith)
  blocks_by i (v ∷ vs) (x ∷ cs) [] a b = absurd (omega arith)
  blocks_by i (v ∷ vs) (x ∷ cs) (m ∷ ms) a b =
      ap (λ (n : ℕ). block_items p f domain range n v x m ++ each (length vs) (λ j. block_items p f domain range (i + suc j) (get_or vs j 0) (get_or cs j []) (nth ms j)))
      (let q : i + 0 ≡ i = omega arith in q)
      ∙ ap (λ (l : List Item). block_items p f domain range i v x m ++ l)
      (each_same (length vs) (λ j. block_items p f domain range (i + suc j) (get_or vs j 0) (get_or cs j []) (nth ms j))
      (λ j. block_items p f domain range (suc i + j) (get_or vs j 0) (get_or cs j []) (nth ms j))
      (λ j. ap (λ (n : ℕ). block_items p f domain range n (get_or vs j 0) (get_or cs j []) (nth ms j)) (let q : i + suc j ≡ suc i + j = omega arith in q))
      ∙ blocks_by (suc i) vs cs ms (omega arith) (omega arith))

-- ---- the lines of the values in a value of the form

module _ (p : ℕ) (G : Given) (W : Tables) where
  abbrev g : Line → Item
  g = item_of_line G W

  abbrev M : MapTables
  M = map_of W

  abbrev B : ℕ → ℕ → List (List (ℕ × ℕ)) → List (ℕ × ℕ) → List Item
  B = block_items p (target_of G).map (together G.x G.a) (together (target_of G).y (target_of G).b)

  fillings_of : (i : ℕ) → length (get_or M.fillings i []) ≡ length (value_at G i)
      → map g (each (length (get_or M.fillings i [])) (λ m. filling i m ∷ []))
      ≡ run_items p (codes "g") (Some (suc i)) (table_at G i)
      (heads (each (length (value_at G i)) (λ m. value_number G i m ∷ [])) (each (length (value_at G i)) (λ m. suc (dimension_of (cell_at (value_at G i) m) + 1) ∷ []))) (get_or M.fillings i [])
  fillings_of i e =
      let c : List (List (ℕ × ℕ)) = get_or M.fillings i [] in
      let number : ℕ → ℕ = value_number G i in
      let kind : ℕ → ℕ = λ m. suc (dimension_of (cell_at (value_at G i) m) + 1) in
      map_each g (length c) (λ m. filling i m ∷ [])
      ∙ each_run p (codes "g") (Some (suc i)) (table_at G i) number kind c
      ∙ ap (λ (n : ℕ). run_items p (codes "g") (Some (suc i)) (table_at G i) (heads (each n (λ m. number m ∷ [])) (each n (λ m. kind m ∷ []))) c) e

  cell_items : (i : ℕ) → length (get_or M.fillings i []) ≡ length (value_at G i)
      → map g (vertex i ∷ (each (length (get_or M.fillings i [])) (λ m. filling i m ∷ []) ++ image_line i ∷ [])) ≡ B i (get_or M.vertices i 0) (get_or M.fillings i []) (nth M.images i)
  cell_items i e =
      let es : List Line = each (length (get_or M.fillings i [])) (λ m. filling i m ∷ []) in
      ap (λ (l : List Item). g (vertex i) ∷ l) (map-append g es (image_line i ∷ []) ∙ ap (λ (l : List Item). l ++ g (image_line i) ∷ []) (fillings_of i e))

  pub values_items : length M.vertices ≡ length M.images → length M.fillings ≡ length M.images
      → ((i : ℕ) → i < length M.fillings → length (get_or M.fillings i []) ≡ length (value_at G i))
      → map g (value_lines M) ≡ word_item (codes "values\n")
      ∷ blocks_items p (target_of G).map (together G.x G.a) (together (target_of G).y (target_of G).b) 0 M.vertices M.fillings M.images
  values_items a b c =
      ap (λ (l : List Item). word_item (codes "values\n") ∷ l)
      (map_each g (length M.images) (λ i. vertex i ∷ (each (length (get_or M.fillings i [])) (λ m. filling i m ∷ []) ++ image_line i ∷ []))
      ∙ each_within (length M.images) (λ i. map g (vertex i ∷ (each (length (get_or M.fillings i [])) (λ m. filling i m ∷ []) ++ image_line i ∷ [])))
      (λ i. B (0 + i) (get_or M.vertices i 0) (get_or M.fillings i []) (nth M.images i))
      (λ i l. cell_items i (c i (omega arith)) ∙ ap (λ (n : ℕ). B n (get_or M.vertices i 0) (get_or M.fillings i []) (nth M.images i)) (let q : i ≡ 0 + i = omega arith in q))
      ∙ ap (λ (n : ℕ). each n (λ i. B (0 + i) (get_or M.vertices i 0) (get_or M.fillings i []) (nth M.images i))) (sym a)
      ∙ blocks_by p (target_of G).map (together G.x G.a) (together (target_of G).y (target_of G).b) 0 M.vertices M.fillings M.images (omega arith) (omega arith))
