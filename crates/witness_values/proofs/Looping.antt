-- The lines of all cells, one cell after the other.
use Rattle.std.proofs.Common.{◌≡◌, ℕ, zero, suc, ◌+◌, ◌<◌, ◌≤◌, sym, ap, ◌∙◌, subst, arith, List, length}
use Rattle.field_mod.specs.Sums.{total}
use Rattle.elem_cubes.specs.Cells.{Factor}
use Rattle.cube_maps.specs.CubeMaps.{Naming}
use Rattle.witness_laws.specs.declared.law.WitnessFault.{WitnessFault}
use Rattle.witness_laws.specs.declared.law.WitnessFault.TheVariants.{At, NoMemory}
use Rattle.witness_laws.specs.Lines.{each}
use Rattle.witness_laws.specs.Inputs.{Given}
use Rattle.witness_laws.specs.Tables.{Tables, map_of, holds}
use Rattle.read_parts.specs.declared.parts.ReadMap.{ReadMap}
use Rattle.witness_sections.specs.Outcomes.{ArePassed}
use Rattle.witness_sections.proofs.Lining.{meet_more, fails_in_each, length_more}
use Rattle.witness_values.specs.declared.cells.MapSides.{MapSides}
use Rattle.witness_values.specs.Cells.{AreSidesOf, CellsPassed, IsCellFaultOf, cell_lines, all_cell_lines, chains_at, cell_line_count}

total_next : (n : ℕ) (f : ℕ → ℕ) → total (suc n) f ≡ total n f + f n
total_next zero f = omega arith
total_next (suc n) f = let e = total_next n (λ i. f (suc i)) in omega (arith, e)

pub count_next : {p : ℕ} (part : ReadMap p) (n line next behind : ℕ) → next ≡ line + cell_line_count part n → behind ≡ next + chains_at part n + 2 → behind ≡ line + cell_line_count part (n + 1)
count_next part n line next behind e f =
    let a = total_next n (λ i. chains_at part i + 2) in
    let b : cell_line_count part (n + 1) ≡ cell_line_count part (suc n) = ap (cell_line_count part) (let g : n + 1 ≡ suc n = omega arith in g) in
    omega (arith, a, b, e, f)

total_below : (k n : ℕ) (f : ℕ → ℕ) → k < n → total k f + f k ≤ total n f
total_below k zero f l = absurd (omega (arith, l))
total_below zero (suc n) f l = omega arith
total_below (suc k) (suc n) f l = let e = total_below k n (λ i. f (suc i)) (omega (arith, l)) in omega (arith, e)

pub count_room : {p : ℕ} (part : ReadMap p) (k n line next : ℕ) → k < n → next ≡ line + cell_line_count part k → next + chains_at part k + 2 ≤ line + cell_line_count part n
count_room part k n line next l e = let a = total_below k n (λ i. chains_at part i + 2) l in omega (arith, a, e)

module _ {p : ℕ} (s : MapSides p) (m : List Naming) (set : List (List Factor)) (part : ReadMap p) where
  -- the lines of the first cells
  abbrev pub FirstPassed : ℕ → ℕ → ℕ → Type 0
  FirstPassed n from next = (G : Given) (W : Tables) → AreSidesOf s m set part G W → ArePassed (holds p G W) (each n (λ i. cell_lines i (map_of W))) from next

  pub first_none : (from : ℕ) → FirstPassed 0 from from
  first_none from G W w = record { next = omega arith; meet = tt }

  pub first_more : (n from next behind : ℕ) → FirstPassed n from next → CellsPassed s m set part (cell_lines n) next behind → FirstPassed (n + 1) from behind
  first_more n from next behind so_far here G W w =
      let a = so_far G W w in
      let b = here G W w in
      record {
        next = let e = length_more n (λ i. cell_lines i (map_of W)) in let f = a.next in let g = b.next in omega (arith, e, f, g);
        meet = meet_more (holds p G W) n (λ i. cell_lines i (map_of W)) a.meet b.meet;
      }

  size : (G : Given) (W : Tables) → AreSidesOf s m set part G W → length s.domain ≡ length (map_of W).images
  size G W w = ap length w.domain ∙ sym w.images.count

  pub first_fault : (n from next : ℕ) (fault : WitnessFault) → n < length s.domain → FirstPassed n from next → IsCellFaultOf s m set part (cell_lines n) next fault → IsCellFaultOf s m set part all_cell_lines from fault
  first_fault n from next (At line law) l so_far here G W w =
      let a = so_far G W w in
      let b = here G W w in (
        length (each n (λ i. cell_lines i (map_of W))) + b.0,
        (let f = a.next in let g = b.1 in omega (arith, f, g)),
        fails_in_each (holds p G W) n (length (map_of W).images) b.0 law (λ i. cell_lines i (map_of W)) (let e = size G W w in omega (arith, e, l)) a.meet b.2,
      )
  first_fault n from next NoMemory l so_far here G W w = tt

  pub all_passed : (n from next : ℕ) → n ≡ length s.domain → FirstPassed n from next → CellsPassed s m set part all_cell_lines from next
  all_passed n from next e so_far G W w = subst (λ (k : ℕ). ArePassed (holds p G W) (each k (λ i. cell_lines i (map_of W))) from next) (e ∙ size G W w) (so_far G W w)
