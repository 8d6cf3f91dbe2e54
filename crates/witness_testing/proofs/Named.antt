-- What was read names cells of the file, since its lines meet the law of the first pass.
use Rattle.std.proofs.Common.{◌≡◌, ℕ, zero, suc, ◌+◌, ◌<◌, ◌≤◌, ◌^◌, inl, inr, refl, sym, ap, ◌∙◌, subst, arith, List, [], ◌∷◌, length, get_or, map, true}
use Rattle.std.proofs.lemmas.List.{length-map}
use Rattle.elem_cubes.specs.Cells.{Factor, dimension_of}
use Rattle.elem_cubes.specs.Laws.{cell_at}
use Rattle.cell_complex.specs.RelativeComplex.{is_relative}
use Rattle.elem_cubes.proofs.Members.{In}
use Rattle.homology_basis.specs.Bases.{in_degree}
use Rattle.witness_laws.specs.Lines.{Side, Line, cycle, cocycle, homotopy, end}
use Rattle.witness_laws.specs.Formats.{Format, MeetsFirst}
use Rattle.witness_laws.specs.Inputs.{Given, x_of, a_of, all_cells, relative_cells}
use Rattle.witness_laws.specs.Parts.{NameCells, nth}
use Rattle.witness_laws.specs.Tables.{Tables, PairTables, IsPairTables, pair_of, pair_lines, lines_of_tables, tables_format}
use Rattle.witness_laws.proofs.Reaching.{in_cycles, in_cocycles, in_homotopies}
use Rattle.witness_types.specs.Parts.{beside, degrees_of, pair_tables, IsInOrder}
use Rattle.witness_types.specs.declared.part.PairPart.{PairPart}
use Rattle.witness_sections.specs.Readings.{IsNamed, AreNamed, IsReadable}
use Rattle.witness_testing.proofs.Lists.{length_each, each_at, in_beside}

pub named_of : (cells : List (List Factor)) (P : List Factor → Type 0) (ts : List (ℕ × ℕ)) → NameCells cells P ts → IsNamed (length cells) ts
named_of cells P [] w i l = absurd (omega (arith, l))
named_of cells P (t ∷ ts) w zero l = (w.0, w.1)
named_of cells P (t ∷ ts) w (suc i) l = named_of cells P ts w.3 i (omega (arith, l))

pub none_named : (n : ℕ) → IsNamed n []
none_named n i l = absurd (omega (arith, l))

in_index : {A : Type 0} (xs : List A) (y d : A) → In xs y → (i : ℕ) × (i < length xs) × (get_or xs i d ≡ y)
in_index [] y d h = absurd h
in_index (z ∷ xs) y d (inl e) = (0, omega arith, e)
in_index (z ∷ xs) y d (inr h) = let w = in_index xs y d h in (suc w.0, omega (arith, w.1), w.2)

pub first_at : {V : Type 0} (F : Format V) (v : V) → MeetsFirst F v → (l : Line) → In (F.lines v) l → F.first v l
first_at F v w l h = let i = in_index (F.lines v) l end h in subst (λ (x : Line). F.first v x) i.2 (w i.0 i.1)

-- the chains of a side
module _ (p : ℕ) (G : Given) (W : Tables) (first : MeetsFirst (tables_format p G) W) (side : Side) (reach : (l : Line) → In (pair_lines side (pair_of W side)) l → In (lines_of_tables W) l) where
  abbrev S : PairTables
  S = pair_of W side

  abbrev cells : List (List Factor)
  cells = all_cells (x_of G side) (a_of G side)

  abbrev Kind : ℕ → List Factor → Type 0
  Kind k q = (is_relative (x_of G side) (a_of G side) q ≡ true) × (dimension_of q ≡ k)

  pub cycle_named : (k i : ℕ) → k < length S.cycles → i < length (in_degree S.cycles k) → IsNamed (length cells) (nth (in_degree S.cycles k) i)
  cycle_named k i l m = named_of cells (Kind k) (nth (in_degree S.cycles k) i) (first_at (tables_format p G) W first (cycle side k i) (reach (cycle side k i) (in_cycles side S k i l m)))

  pub cocycle_named : (k i : ℕ) → k < length S.cycles → i < length (in_degree S.cycles k) → IsNamed (length cells) (nth (in_degree S.cocycles k) i)
  cocycle_named k i l m = named_of cells (Kind k) (nth (in_degree S.cocycles k) i) (first_at (tables_format p G) W first (cocycle side k i) (reach (cocycle side k i) (in_cocycles side S k i l m)))

  pub homotopy_named : (i : ℕ) → i < length S.homotopies → IsNamed (length cells) (nth S.homotopies i)
  homotopy_named i l = named_of cells (Kind (dimension_of (cell_at (relative_cells (x_of G side) (a_of G side)) i) + 1)) (nth S.homotopies i) (first_at (tables_format p G) W first (homotopy side i) (reach (homotopy side i) (in_homotopies side S i l)))

-- chains of a list, where those of each degree name cells
flat_named : (n top : ℕ) (ds : List ℕ) (xs : List (List (ℕ × ℕ))) → length ds ≡ length xs → ((i : ℕ) → i < length xs → get_or ds i 0 ≤ top)
    → ((k j : ℕ) → k ≤ top → j < length (beside k ds xs) → IsNamed n (get_or (beside k ds xs) j [])) → AreNamed n xs
flat_named n top ds xs sizes within h i l =
    let w = in_beside (get_or ds i 0) ds xs i (omega (arith, sizes, l)) l refl in
    subst (IsNamed n) w.2 (h (get_or ds i 0) w.0 (within i l) w.1)

-- a part is readable
module _ {p : ℕ} (G : Given) (W : Tables) (side : Side) (part : PairPart p) (first : MeetsFirst (tables_format p G) W) (reach : (l : Line) → In (pair_lines side (pair_of W side)) l → In (lines_of_tables W) l)
    (is : pair_of W side ≡ pair_tables G.top part) (order : IsInOrder G.top part) (fits : IsPairTables p G.top (x_of G side) (a_of G side) (pair_of W side)) where
  abbrev ds : List ℕ
  ds = degrees_of part.cycles.items

  abbrev zs : List (List (ℕ × ℕ))
  zs = map (λ z. z.1) part.cycles.items

  abbrev n : ℕ
  n = length (all_cells (x_of G side) (a_of G side))

  below : (k : ℕ) → k ≤ G.top → k < length (pair_of W side).cycles
  below k l = let e = fits.degrees in omega (arith, e, l)

  cycles_are : (k : ℕ) → k ≤ G.top → in_degree (pair_of W side).cycles k ≡ beside k ds zs
  cycles_are k l = ap (λ (S : PairTables). in_degree S.cycles k) is ∙ each_at (suc G.top) (λ j. beside j ds zs) k [] (omega (arith, l))

  cocycles_are : (k : ℕ) → k ≤ G.top → in_degree (pair_of W side).cocycles k ≡ beside k ds part.cocycles.items
  cocycles_are k l = ap (λ (S : PairTables). in_degree S.cocycles k) is ∙ each_at (suc G.top) (λ j. beside j ds part.cocycles.items) k [] (omega (arith, l))

  pub cycles_named : AreNamed n zs
  cycles_named = flat_named n G.top ds zs (length-map part.cycles.items (λ z. z.0) ∙ sym (length-map part.cycles.items (λ z. z.1)))
      (λ i l. order.within i (let e = length-map part.cycles.items (λ z. z.1) in omega (arith, e, l)))
      (λ k j lk lj. subst (λ (us : List (List (ℕ × ℕ))). IsNamed n (get_or us j [])) (cycles_are k lk)
      (cycle_named p G W first side reach k j (below k lk) (let e = ap length (cycles_are k lk) in omega (arith, e, lj))))

  pub cocycles_named : AreNamed n part.cocycles.items
  cocycles_named = flat_named n G.top ds part.cocycles.items (length-map part.cycles.items (λ z. z.0) ∙ sym order.cocycles)
      (λ i l. order.within i (let e = order.cocycles in omega (arith, e, l)))
      (λ k j lk lj. subst (λ (us : List (List (ℕ × ℕ))). IsNamed n (get_or us j [])) (cocycles_are k lk)
      (cocycle_named p G W first side reach k j (below k lk) (let e = ap length (cocycles_are k lk) in let f = fits.sizes k in omega (arith, e, f, lj))))

  homotopies_are : (pair_of W side).homotopies ≡ part.homotopy.items
  homotopies_are = ap (λ (S : PairTables). S.homotopies) is

  homotopies_named : AreNamed n part.homotopy.items
  homotopies_named = subst (AreNamed n) homotopies_are (λ i l. homotopy_named p G W first side reach i l)

  pub readable : length part.cycles.items < 2 ^ 32 → IsReadable n (length (relative_cells (x_of G side) (a_of G side))) part
  readable few = record {
    cycles = cycles_named;
    cocycles = cocycles_named;
    homotopies = homotopies_named;
    sizes = order.cocycles;
    few = few;
    each = ap length (sym homotopies_are) ∙ fits.cells;
  }
