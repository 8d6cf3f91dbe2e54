-- The lines of a pair in a value of version 1 are a section of the form.
use Rattle.std.proofs.Common.{◌≡◌, ℕ, zero, suc, ◌+◌, ◌<◌, refl, sym, ap, ◌∙◌, arith, List, [], ◌∷◌, ◌++◌, length, map, append_assoc, subst, Option, None}
use Rattle.std.proofs.lemmas.List.{map-append, length-map}
use Rattle.std.specs.Prelude.{codes}
use Rattle.elem_cubes.specs.Cells.{dimension_of}
use Rattle.elem_cubes.specs.Laws.{cell_at}
use Rattle.homology_basis.specs.Bases.{in_degree}
use Rattle.witness_laws.specs.Lines.{Side, domain, range, Line, section, cycle, cocycle, homotopy, each}
use Rattle.witness_laws.specs.Inputs.{Given, x_of, a_of, relative_cells}
use Rattle.witness_laws.specs.Parts.{AreTerms, nth, relative_number}
use Rattle.witness_laws.specs.Tables.{Tables, PairTables, IsPairTables, pair_of, pair_lines}
use Rattle.witness_laws.proofs.Runs.{map_each, each_same, length_singles}
use Rattle.witness_runs.specs.Runs.{head_of}
use Rattle.section_reading.specs.Section.{degrees_of, kinds_of}
use Rattle.witness_reading.proofs.Forms.{Item, Run, AreRun}
use Rattle.witness_reading.proofs.Shapes.{chain_item, word_item}
use Rattle.witness_reading.proofs.Runs.{heads, length_heads, IsRunItem, run_items, run_length, run_are}
use Rattle.witness_reading.proofs.Cycling.{cycle_item, cycle_items}
use Rattle.witness_reading.proofs.Flat.{flat_from, each_of_list, each_flat, flat_are}
use Rattle.witness_reading.proofs.Items.{pair_kinds, item_of_line}
use Rattle.witness_reading.proofs.Sections.{Chains, Cocycles, Pair, Section}

-- ---- runs of lines

-- a whole run, and what stands behind it
pub run_of : {A : Type 0} (P : A → Item → Type 0) (ns : List A) (N : List Item → Type 0) (xs ys : List Item) → AreRun P ns xs → length xs ≡ length ns → N ys → Run P ns (λ _. N) (xs ++ ys)
run_of P [] N [] ys a e n = n
run_of P [] N (x ∷ xs) ys a e n = absurd a
run_of P (h ∷ ns) N [] ys a e n = absurd (omega arith)
run_of P (h ∷ ns) N (x ∷ xs) ys a e n = (a.0, run_of P ns N xs ys a.1 (omega arith) n)

-- a line for each chain, with numbers and kinds by place
pub each_run : (p : ℕ) (word : List ℕ) (first : Option ℕ) (kinds : List ℕ) (number kind : ℕ → ℕ) (cs : List (List (ℕ × ℕ)))
    → each (length cs) (λ i. chain_item word (head_of first (number i)) kinds (kind i) (nth cs i) ∷ [])
    ≡ run_items p word first kinds (heads (each (length cs) (λ i. number i ∷ [])) (each (length cs) (λ i. kind i ∷ []))) cs
each_run p word first kinds number kind [] = refl
each_run p word first kinds number kind (c ∷ cs) =
    ap (λ l. chain_item word (head_of first (number 0)) kinds (kind 0) c ∷ l) (each_run p word first kinds (λ i. number (suc i)) (λ i. kind (suc i)) cs)

-- a line for each chain with its degree
by_degrees : (p : ℕ) (word kinds : List ℕ) (zs : List (ℕ × List (ℕ × ℕ)))
    → map (λ (c : ℕ × List (ℕ × ℕ)). chain_item word (c.0 ∷ []) kinds (c.0 + 1) c.1) zs
    ≡ run_items p word None kinds (heads (degrees_of zs) (kinds_of zs)) (map (λ (c : ℕ × List (ℕ × ℕ)). c.1) zs)
by_degrees p word kinds [] = refl
by_degrees p word kinds (z ∷ zs) = ap (λ l. chain_item word (z.0 ∷ []) kinds (z.0 + 1) z.1 ∷ l) (by_degrees p word kinds zs)

cycles_are : (kinds : List ℕ) (zs : List (ℕ × List (ℕ × ℕ))) → map (λ (c : ℕ × List (ℕ × ℕ)). cycle_item kinds (c.0, c.1)) zs ≡ cycle_items kinds zs
cycles_are kinds [] = refl
cycles_are kinds (z ∷ zs) = ap (λ l. cycle_item kinds z ∷ l) (cycles_are kinds zs)

-- lines by degree
twice : (f : Line → Item) (y : ℕ → ℕ → Line) (g : ℕ → List (ℕ × ℕ) → Item) (size : ℕ → ℕ) (lists : ℕ → List (List (ℕ × ℕ))) (m : ℕ) → ((k : ℕ) → size k ≡ length (lists k))
    → ((k i : ℕ) → f (y k i) ≡ g k (nth (lists k) i))
    → map f (each m (λ k. each (size k) (λ i. y k i ∷ []))) ≡ map (λ (c : ℕ × List (ℕ × ℕ)). g c.0 c.1) (flat_from 0 m lists)
twice f y g size lists m s h =
    map_each f m (λ k. each (size k) (λ i. y k i ∷ []))
    ∙ each_same m (λ k. map f (each (size k) (λ i. y k i ∷ []))) (λ k. map (g k) (lists k))
    (λ k. map_each f (size k) (λ i. y k i ∷ [])
    ∙ each_same (size k) (λ i. f (y k i) ∷ []) (λ i. g k (nth (lists k) i) ∷ []) (λ i. ap (λ (z : Item). z ∷ []) (h k i))
    ∙ ap (λ (n : ℕ). each n (λ i. g k (nth (lists k) i) ∷ [])) (s k)
    ∙ each_of_list (g k) (lists k) [])
    ∙ each_flat g lists m

-- ---- degrees of lists of the same sizes

same_block : {A B : Type 0} (low : ℕ) (xs : List A) (ys : List B) (us : List (ℕ × A)) (vs : List (ℕ × B)) → length xs ≡ length ys
    → map (λ (c : ℕ × A). c.0) us ≡ map (λ (c : ℕ × B). c.0) vs
    → map (λ (c : ℕ × A). c.0) (map (λ x. (low, x)) xs ++ us) ≡ map (λ (c : ℕ × B). c.0) (map (λ x. (low, x)) ys ++ vs)
same_block low [] [] us vs e h = h
same_block low [] (y ∷ ys) us vs e h = absurd (omega arith)
same_block low (x ∷ xs) [] us vs e h = absurd (omega arith)
same_block low (x ∷ xs) (y ∷ ys) us vs e h = ap (λ l. low ∷ l) (same_block low xs ys us vs (omega arith) h)

pub same_degrees : {A B : Type 0} (low n : ℕ) (f : ℕ → List A) (g : ℕ → List B) → ((k : ℕ) → length (f k) ≡ length (g k))
    → map (λ (c : ℕ × A). c.0) (flat_from low n f) ≡ map (λ (c : ℕ × B). c.0) (flat_from low n g)
same_degrees low zero f g s = refl
same_degrees low (suc n) f g s = same_block low (f low) (g low) (flat_from (suc low) n f) (flat_from (suc low) n g) (s low) (same_degrees (suc low) n f g s)

kinds_by : (zs : List (ℕ × List (ℕ × ℕ))) → kinds_of zs ≡ map (λ d. d + 1) (degrees_of zs)
kinds_by [] = refl
kinds_by (z ∷ zs) = ap (λ l. (z.0 + 1) ∷ l) (kinds_by zs)

-- terms of all members
terms_block : (p low : ℕ) (xs : List (List (ℕ × ℕ))) (us : List (ℕ × List (ℕ × ℕ))) → ((i : ℕ) → i < length xs → AreTerms p 0 (nth xs i))
    → ((i : ℕ) → i < length (map (λ (c : ℕ × List (ℕ × ℕ)). c.1) us) → AreTerms p 0 (nth (map (λ (c : ℕ × List (ℕ × ℕ)). c.1) us) i))
    → (i : ℕ) → i < length (map (λ (c : ℕ × List (ℕ × ℕ)). c.1) (map (λ x. (low, x)) xs ++ us)) → AreTerms p 0 (nth (map (λ (c : ℕ × List (ℕ × ℕ)). c.1) (map (λ x. (low, x)) xs ++ us)) i)
terms_block p low [] us f g i l = g i l
terms_block p low (x ∷ xs) us f g zero l = f 0 (omega arith)
terms_block p low (x ∷ xs) us f g (suc i) l = terms_block p low xs us (λ j q. f (suc j) (omega arith)) g i (omega arith)

terms_flat : (p low n : ℕ) (f : ℕ → List (List (ℕ × ℕ))) → ((k i : ℕ) → i < length (f k) → AreTerms p 0 (nth (f k) i))
    → (i : ℕ) → i < length (map (λ (c : ℕ × List (ℕ × ℕ)). c.1) (flat_from low n f)) → AreTerms p 0 (nth (map (λ (c : ℕ × List (ℕ × ℕ)). c.1) (flat_from low n f)) i)
terms_flat p low zero f h i l = absurd (omega arith)
terms_flat p low (suc n) f h i l = terms_block p low (f low) (flat_from (suc low) n f) (h low) (terms_flat p (suc low) n f h) i l

-- ---- the lines of a pair

-- the first line
abbrev pub head_line : Side → List ℕ
head_line domain = codes "pair domain\n"
head_line range = codes "pair range\n"

-- the numbers of the relative cells, and the kinds of the cells that their chains may name
abbrev pub cell_numbers : Given → Side → List ℕ
cell_numbers G side = each (length (relative_cells (x_of G side) (a_of G side))) (λ i. relative_number (x_of G side) (a_of G side) i ∷ [])

abbrev pub cell_kinds : Given → Side → List ℕ
cell_kinds G side = each (length (relative_cells (x_of G side) (a_of G side))) (λ i. suc (dimension_of (cell_at (relative_cells (x_of G side) (a_of G side)) i) + 1) ∷ [])

module _ (p : ℕ) (G : Given) (W : Tables) (side : Side) (is : IsPairTables p G.top (x_of G side) (a_of G side) (pair_of W side)) where
  abbrev S : PairTables
  S = pair_of W side

  abbrev f : Line → Item
  f = item_of_line G W

  abbrev kinds : List ℕ
  kinds = pair_kinds G side

  -- the cycles with their degrees, and the cocycles
  abbrev pub flat_cycles : List (ℕ × List (ℕ × ℕ))
  flat_cycles = flat_from 0 (suc G.top) (in_degree S.cycles)

  abbrev pub flat_cocycles : List (ℕ × List (ℕ × ℕ))
  flat_cocycles = flat_from 0 (suc G.top) (in_degree S.cocycles)

  abbrev pub cocycle_chains : List (List (ℕ × ℕ))
  cocycle_chains = map (λ (c : ℕ × List (ℕ × ℕ)). c.1) flat_cocycles

  many : length S.cycles ≡ suc G.top
  many = let e = is.degrees in omega arith

  cycles_items : map f (each (length S.cycles) (λ k. each (length (in_degree S.cycles k)) (λ i. cycle side k i ∷ []))) ≡ cycle_items kinds flat_cycles
  cycles_items =
      ap (λ (n : ℕ). map f (each n (λ k. each (length (in_degree S.cycles k)) (λ i. cycle side k i ∷ [])))) many
      ∙ twice f (λ k i. cycle side k i) (λ k c. cycle_item kinds (k, c)) (λ k. length (in_degree S.cycles k)) (in_degree S.cycles) (suc G.top) (λ k. refl) (λ k i. refl)
      ∙ cycles_are kinds flat_cycles

  degrees_are : degrees_of flat_cocycles ≡ degrees_of flat_cycles
  degrees_are = same_degrees 0 (suc G.top) (in_degree S.cocycles) (in_degree S.cycles) is.sizes

  kinds_are : kinds_of flat_cocycles ≡ kinds_of flat_cycles
  kinds_are = kinds_by flat_cocycles ∙ ap (map (λ d. d + 1)) degrees_are ∙ sym (kinds_by flat_cycles)

  abbrev pub cocycle_heads : List (ℕ × ℕ)
  cocycle_heads = heads (degrees_of flat_cycles) (kinds_of flat_cycles)

  cocycles_items : map f (each (length S.cycles) (λ k. each (length (in_degree S.cycles k)) (λ i. cocycle side k i ∷ [])))
      ≡ run_items p (codes "c") None kinds cocycle_heads cocycle_chains
  cocycles_items =
      ap (λ (n : ℕ). map f (each n (λ k. each (length (in_degree S.cycles k)) (λ i. cocycle side k i ∷ [])))) many
      ∙ twice f (λ k i. cocycle side k i) (λ k c. chain_item (codes "c") (k ∷ []) kinds (k + 1) c) (λ k. length (in_degree S.cycles k)) (in_degree S.cocycles) (suc G.top)
      (λ k. sym (is.sizes k)) (λ k i. refl)
      ∙ by_degrees p (codes "c") kinds flat_cocycles
      ∙ ap (λ (l : List ℕ). run_items p (codes "c") None kinds (heads l (kinds_of flat_cocycles)) cocycle_chains) degrees_are
      ∙ ap (λ (l : List ℕ). run_items p (codes "c") None kinds (heads (degrees_of flat_cycles) l) cocycle_chains) kinds_are

  chain_items : map f (each (length S.homotopies) (λ i. homotopy side i ∷ [])) ≡ run_items p (codes "h") None kinds (heads (cell_numbers G side) (cell_kinds G side)) S.homotopies
  chain_items =
      let number : ℕ → ℕ = relative_number (x_of G side) (a_of G side) in
      let kind : ℕ → ℕ = λ i. suc (dimension_of (cell_at (relative_cells (x_of G side) (a_of G side)) i) + 1) in
      map_each f (length S.homotopies) (λ i. homotopy side i ∷ [])
      ∙ each_run p (codes "h") None kinds number kind S.homotopies
      ∙ ap (λ (n : ℕ). run_items p (codes "h") None kinds (heads (each n (λ i. number i ∷ [])) (each n (λ i. kind i ∷ []))) S.homotopies) is.cells

  length_cocycles : length cocycle_chains ≡ length cocycle_heads
  length_cocycles =
      let a : length cocycle_chains ≡ length flat_cocycles = length-map flat_cocycles (λ (c : ℕ × List (ℕ × ℕ)). c.1) in
      let b : length (degrees_of flat_cocycles) ≡ length flat_cocycles = length-map flat_cocycles (λ (c : ℕ × List (ℕ × ℕ)). c.0) in
      let d : length (degrees_of flat_cocycles) ≡ length (degrees_of flat_cycles) = ap length degrees_are in
      let e : length cocycle_heads ≡ length (degrees_of flat_cycles) = length_heads (degrees_of flat_cycles) (kinds_of flat_cycles) in
      omega arith

  abbrev pub chain_heads : List (ℕ × ℕ)
  chain_heads = heads (cell_numbers G side) (cell_kinds G side)

  length_chains : length S.homotopies ≡ length chain_heads
  length_chains =
      let a : length chain_heads ≡ length (cell_numbers G side) = length_heads (cell_numbers G side) (cell_kinds G side) in
      let b : length (cell_numbers G side) ≡ length (relative_cells (x_of G side) (a_of G side)) =
      length_singles (length (relative_cells (x_of G side) (a_of G side))) (relative_number (x_of G side) (a_of G side)) in
      let d = is.cells in omega arith

  module _ (K : List (ℕ × List (ℕ × ℕ)) → List Item → Type 0) (rest : List Item) (allowed : K flat_cycles rest) where
    chains_form : Chains p G.top kinds (cell_numbers G side) (cell_kinds G side) K flat_cycles (run_items p (codes "h") None kinds chain_heads S.homotopies ++ rest)
    chains_form = run_of (IsRunItem p (codes "h") None kinds) chain_heads (K flat_cycles) (run_items p (codes "h") None kinds chain_heads S.homotopies) rest
        (run_are p (codes "h") None kinds chain_heads S.homotopies is.homotopies)
        (run_length p (codes "h") None kinds chain_heads S.homotopies (let a = length_chains in omega arith) ∙ length_chains) allowed

    cocycles_form : Cocycles p G.top kinds (cell_numbers G side) (cell_kinds G side) K flat_cycles
        (run_items p (codes "c") None kinds cocycle_heads cocycle_chains ++ (run_items p (codes "h") None kinds chain_heads S.homotopies ++ rest))
    cocycles_form = run_of (IsRunItem p (codes "c") None kinds) cocycle_heads (Chains p G.top kinds (cell_numbers G side) (cell_kinds G side) K flat_cycles)
        (run_items p (codes "c") None kinds cocycle_heads cocycle_chains) (run_items p (codes "h") None kinds chain_heads S.homotopies ++ rest)
        (run_are p (codes "c") None kinds cocycle_heads cocycle_chains
        (terms_flat p 0 (suc G.top) (in_degree S.cocycles) (λ k i l. is.cocycles k i (let a = is.sizes k in omega arith))))
        (run_length p (codes "c") None kinds cocycle_heads cocycle_chains (let a = length_cocycles in omega arith) ∙ length_cocycles) chains_form

    pair_form : Pair p G.top kinds (cell_numbers G side) (cell_kinds G side) K
        (cycle_items kinds flat_cycles ++ (run_items p (codes "c") None kinds cocycle_heads cocycle_chains ++ (run_items p (codes "h") None kinds chain_heads S.homotopies ++ rest)))
    pair_form = record {
      cycles = flat_cycles;
      rest = run_items p (codes "c") None kinds cocycle_heads cocycle_chains ++ (run_items p (codes "h") None kinds chain_heads S.homotopies ++ rest);
      are = flat_are p 0 G.top G.top (in_degree S.cycles) is.cycles (let q : 0 + G.top ≡ G.top = omega arith in q);
      is = refl;
      allowed = cocycles_form;
    }

    head_is : f (section side) ≡ word_item (head_line side)
    head_is = by side
      where
        by : (s : Side) → item_of_line G W (section s) ≡ word_item (head_line s)
        by domain = refl
        by range = refl

    three : (a b c : List Line) → map f (a ++ b ++ c) ++ rest ≡ map f a ++ (map f b ++ (map f c ++ rest))
    three a b c =
        ap (λ l. l ++ rest) (map-append f (a ++ b) c ∙ ap (λ l. l ++ map f c) (map-append f a b))
        ∙ append_assoc (map f a ++ map f b) (map f c) rest ∙ append_assoc (map f a) (map f b) (map f c ++ rest)

    -- the lines of the pair, and what stands behind them
    pub pair_items : map f (pair_lines side S) ++ rest
        ≡ word_item (head_line side) ∷ (cycle_items kinds flat_cycles
        ++ (run_items p (codes "c") None kinds cocycle_heads cocycle_chains ++ (run_items p (codes "h") None kinds chain_heads S.homotopies ++ rest)))
    pair_items =
        let zs : List Line = each (length S.cycles) (λ k. each (length (in_degree S.cycles k)) (λ i. cycle side k i ∷ [])) in
        let cs : List Line = each (length S.cycles) (λ k. each (length (in_degree S.cycles k)) (λ i. cocycle side k i ∷ [])) in
        let hs : List Line = each (length S.homotopies) (λ i. homotopy side i ∷ []) in
        let e : map f (zs ++ cs ++ hs) ++ rest
        ≡ cycle_items kinds flat_cycles ++ (run_items p (codes "c") None kinds cocycle_heads cocycle_chains ++ (run_items p (codes "h") None kinds chain_heads S.homotopies ++ rest)) =
        three zs cs hs ∙ ap (λ l. l ++ (map f cs ++ (map f hs ++ rest))) cycles_items
        ∙ ap (λ l. cycle_items kinds flat_cycles ++ (l ++ (map f hs ++ rest))) cocycles_items
        ∙ ap (λ l. cycle_items kinds flat_cycles ++ (run_items p (codes "c") None kinds cocycle_heads cocycle_chains ++ (l ++ rest))) chain_items in
        ap (λ (z : Item). z ∷ (map f (zs ++ cs ++ hs) ++ rest)) head_is ∙ ap (λ (l : List Item). word_item (head_line side) ∷ l) e

    -- they are a section of the form
    pub section_form : Section p G.top kinds (cell_numbers G side) (cell_kinds G side) K (head_line side) (map f (pair_lines side S) ++ rest)
    section_form = subst (Section p G.top kinds (cell_numbers G side) (cell_kinds G side) K (head_line side)) (sym pair_items) (refl, pair_form)
