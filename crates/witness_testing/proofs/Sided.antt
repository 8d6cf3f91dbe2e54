-- The section of a part, and the side of any witness that has it.
use Rattle.std.proofs.Common.{◌≡◌, ℕ, zero, suc, ◌+◌, ◌<◌, ◌≤◌, ◌^◌, refl, sym, ap, ◌∙◌, subst, arith, List, [], ◌∷◌, length, get_or, map}
use Rattle.std.proofs.lemmas.List.{length-map}
use Rattle.field_mod.specs.Sums.{total}
use Rattle.elem_cubes.specs.Cells.{Factor}
use Rattle.homology_basis.specs.Bases.{in_degree}
use Rattle.witness_laws.specs.declared.law.WitnessFault.{WitnessFault}
use Rattle.witness_laws.specs.Lines.{Side}
use Rattle.witness_laws.specs.Inputs.{Given, x_of, a_of, all_cells, relative_cells}
use Rattle.witness_laws.specs.Tables.{PairTables, Tables, pair_of}
use Rattle.witness_types.specs.Parts.{beside, degrees_of, pair_tables}
use Rattle.witness_types.specs.declared.part.PairPart.{PairPart}
use Rattle.witness_sections.specs.declared.section.Degree.{Degree}
use Rattle.witness_sections.specs.declared.section.Section.{Section}
use Rattle.witness_sections.specs.Readings.{IsSectionOf, IsSideOf, ArePassedOf, IsFaultOf, section_lines, cycle_count, line_count}
use Rattle.witness_testing.specs.Sides.{IsSideWith, SidePassed, IsSideFault}
use Rattle.witness_testing.proofs.Lists.{length_each, each_at, beside_total}

count_is : {p : ℕ} (ds : List (Degree p)) (f : ℕ → ℕ) → ((k : ℕ) (d : Degree p) → k < length ds → length (get_or ds k d).cycles.items ≡ f k) → cycle_count ds ≡ total (length ds) f
count_is [] f h = refl
count_is (d ∷ ds) f h =
    let a = h 0 d (omega arith) in
    let b = count_is ds (λ k. f (suc k)) (λ k e l. h (suc k) e (omega (arith, l))) in
    omega (arith, a, b)

module _ {p : ℕ} (x a : List (List Factor)) (top : ℕ) (part : PairPart p) (s : Section p) (w : IsSectionOf x a (pair_tables top part) s) where
  abbrev ds : List ℕ
  ds = degrees_of part.cycles.items

  abbrev zs : List (List (ℕ × ℕ))
  zs = map (λ z. z.1) part.cycles.items

  degrees : length s.degrees.items ≡ suc top
  degrees = w.count ∙ length_each (suc top) (λ k. beside k ds zs)

  -- there are as many cycles as were read, at most
  pub cycles_few : cycle_count s.degrees.items ≤ length part.cycles.items
  cycles_few =
      let a = count_is s.degrees.items (λ k. length (beside k ds zs))
      (λ k d l. (w.degrees k d (let c = w.count in omega (arith, c, l))).cycles.count ∙ ap length (each_at (suc top) (λ j. beside j ds zs) k [] (let e = degrees in omega (arith, e, l)))) in
      let b = beside_total (length s.degrees.items) ds zs in
      let c = length-map part.cycles.items (λ z. z.1) in
      omega (arith, a, b, c)

  pub lines_few : length part.cycles.items < 2 ^ 32 → line_count s ≤ 2 ^ 36
  lines_few few =
      let a = cycles_few in
      let b = w.homotopies.count in
      let c = w.cells in
      let d = w.complex.complex.short in
      omega (arith, a, b, c, d, few)

  side_is : (G : Given) (W : Tables) (side : Side) → IsSideWith x a (pair_tables top part) G W side → IsSideOf s G W side
  side_is G W side q =
      subst (λ (u : List (List Factor)). IsSectionOf u (a_of G side) (pair_of W side) s) (sym q.first)
      (subst (λ (u : List (List Factor)). IsSectionOf x u (pair_of W side) s) (sym q.second)
      (subst (λ (S : PairTables). IsSectionOf x a S s) (sym q.tables) w))

  pub side_passed : (from behind : ℕ) → ArePassedOf s section_lines from behind → SidePassed p x a (pair_tables top part) from behind
  side_passed from behind h G W side q = h G W side (side_is G W side q)

  pub side_fault : (from : ℕ) (fault : WitnessFault) → IsFaultOf s section_lines from fault → IsSideFault p x a (pair_tables top part) from fault
  side_fault from fault h G W side q = h G W side (side_is G W side q)
