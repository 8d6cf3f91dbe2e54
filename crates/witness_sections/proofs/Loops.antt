-- Lines tested one after the other.
use Rattle.std.proofs.Common.{◌≡◌, ℕ, zero, suc, ◌+◌, ◌<◌, ◌≤◌, refl, sym, ap, ◌∙◌, subst, arith, List, [], ◌∷◌, length, get_or, drop, Option, Some, None}
use Rattle.std.proofs.lemmas.List.{get_or_default}
use Rattle.elem_cubes.specs.Cells.{Factor}
use Rattle.witness_laws.specs.declared.law.Law.{Law}
use Rattle.witness_laws.specs.declared.law.Law.TheVariants as laws
use Rattle.witness_laws.specs.declared.law.WitnessFault.{WitnessFault}
use Rattle.witness_laws.specs.declared.law.WitnessFault.TheVariants.{At, NoMemory}
use Rattle.homology_basis.specs.Bases.{in_degree}
use Rattle.witness_laws.specs.Lines.{Side, Line, cycle, cocycle, homotopy, each}
use Rattle.witness_laws.specs.Inputs.{Given, x_of, a_of, all_cells, relative_cells}
use Rattle.witness_laws.specs.Parts.{nth}
use Rattle.witness_laws.specs.Tables.{PairTables, Tables, pair_of, holds}
use Rattle.witness_sections.specs.declared.section.Degree.{Degree}
use Rattle.witness_sections.specs.declared.section.Section.{Section}
use Rattle.witness_sections.specs.Outcomes.{FailsBy, IsLineOutcome, Meet, Fails, ArePassed, IsFaultAmong}
use Rattle.witness_sections.specs.Readings.{IsRead, IsDegreeOf, IsSideOf, ArePassedOf, IsFaultOf, IsNoneBy, IsCocycleOutcome, ContractsBy, cycles_in, cocycles_in, homotopy_lines, count_at, cycle_count}
use Rattle.witness_sections.proofs.Lining.{meet_more, fails_in_each, length_each, length_more}
use Rattle.witness_sections.proofs.Judging.{closed_to, closed_from, dual_to, dual_from, cocycle_to, cocycle_from, contracts_to, contracts_from}
use Rattle.witness_sections.proofs.Telling.{cycle_holds, cycle_fails, cocycle_holds, dual_fails, cocycle_fails, homotopy_holds, homotopy_fails}

-- ---- counts

pub count_here : {p : ℕ} (ds : List (Degree p)) (k : ℕ) (d : Degree p) → k < length ds → d ≡ get_or ds k d → count_at ds k ≡ length d.cycles.items
count_here [] k d l e = absurd (omega (arith, l))
count_here {p} (c ∷ ds) zero d l e = ap (λ (b : Degree p). length b.cycles.items) (sym e)
count_here (c ∷ ds) (suc k) d l e = count_here ds k d (omega (arith, l)) e

count_next : {p : ℕ} (ds : List (Degree p)) (k : ℕ) → k < length ds → cycle_count (drop k ds) ≡ count_at ds k + cycle_count (drop (suc k) ds)
count_next [] k l = absurd (omega (arith, l))
count_next (c ∷ ds) zero l = refl
count_next (c ∷ ds) (suc k) l = count_next ds k (omega (arith, l))

pub count_more : {p : ℕ} (ds : List (Degree p)) (k line next behind : ℕ) → k < length ds → behind ≡ next + count_at ds k → next + cycle_count (drop k ds) ≡ line + cycle_count ds → behind + cycle_count (drop (k + 1) ds) ≡ line + cycle_count ds
count_more ds k line next behind l e so_far =
    let a = count_next ds k l in
    let b : cycle_count (drop (k + 1) ds) ≡ cycle_count (drop (suc k) ds) = ap (λ n. cycle_count (drop n ds)) (let f : k + 1 ≡ suc k = omega arith in f) in
    omega (arith, a, b, e, so_far)

pub count_room : {p : ℕ} (ds : List (Degree p)) (k line next : ℕ) → k < length ds → next + cycle_count (drop k ds) ≡ line + cycle_count ds → next + count_at ds k ≤ line + cycle_count ds
count_room ds k line next l so_far = let a = count_next ds k l in omega (arith, a, so_far)

pub count_below : {p : ℕ} (ds : List (Degree p)) (k : ℕ) → count_at ds k ≤ cycle_count ds
count_below [] k = omega arith
count_below (d ∷ ds) zero = omega arith
count_below (d ∷ ds) (suc k) = let a = count_below ds k in omega (arith, a)

pub count_end : {p : ℕ} (ds : List (Degree p)) (k line next : ℕ) → length ds ≤ k → next + cycle_count (drop k ds) ≡ line + cycle_count ds → next ≡ line + cycle_count ds
count_end ds k line next past so_far = let e = none ds k past in omega (arith, e, so_far)
  where
    none : {p : ℕ} (ds : List (Degree p)) (k : ℕ) → length ds ≤ k → cycle_count (drop k ds) ≡ 0
    none [] zero l = refl
    none [] (suc k) l = refl
    none (d ∷ ds) zero l = absurd (omega (arith, l))
    none (d ∷ ds) (suc k) l = none ds k (omega (arith, l))

-- ---- a line in a row of lines

pub fault_in_row : (H : Law → Line → Type 0) (line : ℕ → Line) (i n from : ℕ) (law : Law) → i < n → Meet H (each i (λ j. line j ∷ [])) → FailsBy H (line i) law → IsFaultAmong H (each n (λ j. line j ∷ [])) from (At (from + i) law)
fault_in_row H line i n from law l met fails =
    (i, refl, subst (λ (k : ℕ). Fails H (each n (λ j. line j ∷ [])) k law) (let e = length_each i line in omega (arith, e)) (fails_in_each H i n 0 law (λ j. line j ∷ []) l met fails))

pub passed_row : (H : Law → Line → Type 0) (line : ℕ → Line) (i n from : ℕ) → i ≡ n → Meet H (each i (λ j. line j ∷ [])) → ArePassed H (each n (λ j. line j ∷ [])) from (from + i)
passed_row H line i n from e met = record {
  next = let l = length_each n line in omega (arith, l, e);
  meet = subst (λ (k : ℕ). Meet H (each k (λ j. line j ∷ []))) e met;
}

module _ {p : ℕ} (s : Section p) where
  -- the lines so far meet all laws, whatever witness has the section
  abbrev RowMeets : (Side → ℕ → Line) → ℕ → Type 0
  RowMeets line i = (G : Given) (W : Tables) (side : Side) → IsSideOf s G W side → Meet (holds p G W) (each i (λ j. line side j ∷ []))

  pub row_none : (line : Side → ℕ → Line) → RowMeets line 0
  row_none line G W side w = tt

  -- ---- the lines of a degree

  module _ (k : ℕ) (d : Degree p) (l : k < length s.degrees.items) (kept : d ≡ get_or s.degrees.items k d) where
    degree : (G : Given) (W : Tables) (side : Side) → IsSideOf s G W side
        → IsDegreeOf (all_cells (x_of G side) (a_of G side)) (relative_cells (x_of G side) (a_of G side)) (in_degree (pair_of W side).cycles k) (in_degree (pair_of W side).cocycles k) d
    degree G W side w = subst (λ (e : Degree p). IsDegreeOf (all_cells (x_of G side) (a_of G side)) (relative_cells (x_of G side) (a_of G side)) (in_degree (pair_of W side).cycles k) (in_degree (pair_of W side).cocycles k) e) (sym kept)
        (w.degrees k d (let c = w.count in omega (arith, c, l)))

    module _ (i : ℕ) (u : List (ℕ × ℕ)) (li : i < length d.cycles.items) (read : u ≡ get_or d.cycles.items i u) where
      cycle_read : (G : Given) (W : Tables) (side : Side) → IsSideOf s G W side → IsRead p (all_cells (x_of G side) (a_of G side)) (relative_cells (x_of G side) (a_of G side)) (nth (in_degree (pair_of W side).cycles k) i) u
      cycle_read G W side w = subst (λ (v : List (ℕ × ℕ)). IsRead p (all_cells (x_of G side) (a_of G side)) (relative_cells (x_of G side) (a_of G side)) (nth (in_degree (pair_of W side).cycles k) i) v)
          (sym (read ∙ get_or_default d.cycles.items i u [] li)) ((degree G W side w).cycles.each i)

      pub cycles_more : IsNoneBy p s.complex.boundaries u → RowMeets (λ side. cycle side k) i → RowMeets (λ side. cycle side k) (i + 1)
      cycles_more h so_far G W side w = meet_more (holds p G W) i (λ j. cycle side k j ∷ []) (so_far G W side w)
          (cycle_holds p G W side k i (closed_to p (x_of G side) (a_of G side) s.complex w.complex (nth (in_degree (pair_of W side).cycles k) i) u (cycle_read G W side w) h), tt)

      pub cycles_fault : (from : ℕ) → (IsNoneBy p s.complex.boundaries u → ⊥) → RowMeets (λ side. cycle side k) i → IsFaultOf s (cycles_in k) from (At (from + i) laws.Cycle)
      cycles_fault from h so_far G W side w = fault_in_row (holds p G W) (cycle side k) i (length (in_degree (pair_of W side).cycles k)) from laws.Cycle (let c = (degree G W side w).cycles.count in omega (arith, c, li)) (so_far G W side w)
          (cycle_fails p G W side k i (λ c. h (closed_from p (x_of G side) (a_of G side) s.complex w.complex (nth (in_degree (pair_of W side).cycles k) i) u (cycle_read G W side w) c)))

    pub cycles_passed : (i from : ℕ) → i ≡ length d.cycles.items → RowMeets (λ side. cycle side k) i → ArePassedOf s (cycles_in k) from (from + i)
    cycles_passed i from e so_far G W side w = passed_row (holds p G W) (cycle side k) i (length (in_degree (pair_of W side).cycles k)) from (e ∙ (degree G W side w).cycles.count) (so_far G W side w)

    module _ (i : ℕ) (u : List (ℕ × ℕ)) (li : i < length d.cocycles.items) (read : u ≡ get_or d.cocycles.items i u) where
      cocycle_outcome : (o : Option Law) → IsCocycleOutcome p s.coboundaries.items d.at_cycles.items u i o → (G : Given) (W : Tables) (side : Side) → IsSideOf s G W side → IsLineOutcome (holds p G W) (cocycle side k i) o
      cocycle_outcome o h G W side w = by o h
        where
          x0 : List (List Factor)
          x0 = x_of G side

          a0 : List (List Factor)
          a0 = a_of G side

          zs : List (List (ℕ × ℕ))
          zs = in_degree (pair_of W side).cycles k

          c : List (ℕ × ℕ)
          c = nth (in_degree (pair_of W side).cocycles k) i

          D : IsDegreeOf (all_cells (x_of G side) (a_of G side)) (relative_cells (x_of G side) (a_of G side)) (in_degree (pair_of W side).cycles k) (in_degree (pair_of W side).cocycles k) d
          D = degree G W side w

          r : IsRead p (all_cells (x_of G side) (a_of G side)) (relative_cells (x_of G side) (a_of G side)) (nth (in_degree (pair_of W side).cocycles k) i) u
          r = subst (λ (v : List (ℕ × ℕ)). IsRead p (all_cells (x_of G side) (a_of G side)) (relative_cells (x_of G side) (a_of G side)) (nth (in_degree (pair_of W side).cocycles k) i) v)
              (sym (read ∙ get_or_default d.cocycles.items i u [] li)) (D.cocycles.each i)

          inside : i < length (in_degree (pair_of W side).cycles k)
          inside = let m = D.cocycles.count in let n = D.sizes in omega (arith, m, n, li)

          by : (o : Option Law) → IsCocycleOutcome p s.coboundaries.items d.at_cycles.items u i o → IsLineOutcome (holds p G W) (cocycle side k i) o
          by None h = cocycle_holds p G W side k i (dual_to p x0 a0 s.complex w.complex d.at_cycles.items zs d.cycles.items D.at_count D.at_cycles D.cycles c u r i h.0) (cocycle_to p x0 a0 s.complex w.complex s.coboundaries.items w.co_count w.coboundaries c u r h.1)
          by (Some laws.Dual) h = dual_fails p G W side k i (λ q. h (dual_from p x0 a0 s.complex w.complex d.at_cycles.items zs d.cycles.items D.at_count D.at_cycles D.cycles c u r i inside q))
          by (Some laws.Cocycle) h = cocycle_fails p G W side k i (dual_to p x0 a0 s.complex w.complex d.at_cycles.items zs d.cycles.items D.at_count D.at_cycles D.cycles c u r i h.0) (λ q. h.1 (cocycle_from p x0 a0 s.complex w.complex s.coboundaries.items w.co_count w.coboundaries c u r q))
          by (Some laws.Text) h = absurd h
          by (Some laws.Header) h = absurd h
          by (Some laws.Cell) h = absurd h
          by (Some laws.Cycle) h = absurd h
          by (Some laws.Contraction) h = absurd h
          by (Some laws.ValueContraction) h = absurd h
          by (Some laws.Carried) h = absurd h
          by (Some laws.Augmentation) h = absurd h
          by (Some laws.Commutes) h = absurd h
          by (Some laws.Matrix) h = absurd h

      pub cocycles_more : (o : Option Law) → o ≡ None → IsCocycleOutcome p s.coboundaries.items d.at_cycles.items u i o → RowMeets (λ side. cocycle side k) i → RowMeets (λ side. cocycle side k) (i + 1)
      cocycles_more o e h so_far G W side w = meet_more (holds p G W) i (λ j. cocycle side k j ∷ []) (so_far G W side w)
          (cocycle_outcome None (subst (IsCocycleOutcome p s.coboundaries.items d.at_cycles.items u i) e h) G W side w, tt)

      pub cocycles_fault : (o : Option Law) (law : Law) (from : ℕ) → o ≡ Some law → IsCocycleOutcome p s.coboundaries.items d.at_cycles.items u i o → RowMeets (λ side. cocycle side k) i → IsFaultOf s (cocycles_in k) from (At (from + i) law)
      cocycles_fault o law from e h so_far G W side w = fault_in_row (holds p G W) (cocycle side k) i (length (in_degree (pair_of W side).cycles k)) from law (let m = (degree G W side w).cocycles.count in let n = (degree G W side w).sizes in omega (arith, m, n, li)) (so_far G W side w)
          (cocycle_outcome (Some law) (subst (IsCocycleOutcome p s.coboundaries.items d.at_cycles.items u i) e h) G W side w)

    pub cocycles_passed : (i from : ℕ) → i ≡ length d.cocycles.items → RowMeets (λ side. cocycle side k) i → ArePassedOf s (cocycles_in k) from (from + i)
    cocycles_passed i from e so_far G W side w = passed_row (holds p G W) (cocycle side k) i (length (in_degree (pair_of W side).cycles k)) from (e ∙ (degree G W side w).cocycles.count ∙ (degree G W side w).sizes) (so_far G W side w)

  -- ---- the lines of cells

  cell_inside : (i : ℕ) → i < length s.complex.boundaries → (G : Given) (W : Tables) (side : Side) → IsSideOf s G W side → i < length (relative_cells (x_of G side) (a_of G side))
  cell_inside i li G W side w = let c = w.complex.complex.count in omega (arith, c, li)

  pub contractions_more : (i : ℕ) → i < length s.complex.boundaries → ContractsBy s i → RowMeets homotopy i → RowMeets homotopy (i + 1)
  contractions_more i li h so_far G W side w = meet_more (holds p G W) i (λ j. homotopy side j ∷ []) (so_far G W side w)
      (homotopy_holds p G W side i (contracts_to (x_of G side) (a_of G side) (pair_of W side) s w i (cell_inside i li G W side w) h), tt)

  pub contractions_fault : (i from : ℕ) → i < length s.complex.boundaries → (ContractsBy s i → ⊥) → RowMeets homotopy i → IsFaultOf s homotopy_lines from (At (from + i) laws.Contraction)
  contractions_fault i from li h so_far G W side w = fault_in_row (holds p G W) (homotopy side) i (length (pair_of W side).homotopies) from laws.Contraction (let c = w.cells in let e = cell_inside i li G W side w in omega (arith, c, e)) (so_far G W side w)
      (homotopy_fails p G W side i (λ c. h (contracts_from (x_of G side) (a_of G side) (pair_of W side) s w i (cell_inside i li G W side w) c)))

  pub contractions_passed : (i from : ℕ) → i ≡ length s.complex.boundaries → RowMeets homotopy i → ArePassedOf s homotopy_lines from (from + i)
  contractions_passed i from e so_far G W side w = passed_row (holds p G W) (homotopy side) i (length (pair_of W side).homotopies) from (e ∙ w.complex.complex.count ∙ sym w.cells) (so_far G W side w)

  -- ---- the lines of all degrees

  module _ (lines : ℕ → PairTables → Side → List Line) where
    abbrev DegreesPassed : ℕ → ℕ → ℕ → Type 0
    DegreesPassed k from next = (G : Given) (W : Tables) (side : Side) → IsSideOf s G W side → ArePassed (holds p G W) (each k (λ j. lines j (pair_of W side) side)) from next

    pub degrees_none : (from : ℕ) → DegreesPassed 0 from from
    degrees_none from G W side w = record { next = omega arith; meet = tt }

    pub degrees_more : (k from next behind : ℕ) → DegreesPassed k from next → ArePassedOf s (lines k) next behind → DegreesPassed (k + 1) from behind
    degrees_more k from next behind so_far here G W side w =
        let a = so_far G W side w in
        let b = here G W side w in
        record {
          next = let e = length_more k (λ j. lines j (pair_of W side) side) in let f = a.next in let g = b.next in omega (arith, e, f, g);
          meet = meet_more (holds p G W) k (λ j. lines j (pair_of W side) side) a.meet b.meet;
        }

    pub degrees_fault : (k from next : ℕ) (fault : WitnessFault) → k < length s.degrees.items → DegreesPassed k from next → IsFaultOf s (lines k) next fault → IsFaultOf s (λ S side. each (length S.cycles) (λ j. lines j S side)) from fault
    degrees_fault k from next (At line law) l so_far here G W side w =
        let a = so_far G W side w in
        let b = here G W side w in (
          length (each k (λ j. lines j (pair_of W side) side)) + b.0,
          (let f = a.next in let g = b.1 in omega (arith, f, g)),
          fails_in_each (holds p G W) k (length (pair_of W side).cycles) b.0 law (λ j. lines j (pair_of W side) side) (let c = w.count in omega (arith, c, l)) a.meet b.2,
        )
    degrees_fault k from next NoMemory l so_far here G W side w = tt

    pub degrees_passed : (k from next : ℕ) → k ≡ length s.degrees.items → DegreesPassed k from next → ArePassedOf s (λ S side. each (length S.cycles) (λ j. lines j S side)) from next
    degrees_passed k from next e so_far G W side w = subst (λ (n : ℕ). ArePassed (holds p G W) (each n (λ j. lines j (pair_of W side) side)) from next) (e ∙ w.count) (so_far G W side w)
