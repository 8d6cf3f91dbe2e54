use Rattle.std.proofs.Common.{◌≡◌, ◌<◌, ◌≤◌, ◌-◌, length, ℕ}
use Rattle.std.specs.declared.cmp.Ordering.TheVariants.{Less, Greater}
use Rattle.elem_cubes.specs.Corners.{corner_cmp}
use Rattle.cell_points.specs.Places.{place_at}
use Rattle.cell_points.proofs.search.place_of_corner.Given as goal

abbrev pub invariant-loop-low : goal.invariant-loop-low
invariant-loop-low l = record {
  apart : l.low ≤ l.high;
  within : l.high ≤ length l.places;
  below : (k : ℕ) → k < l.low → corner_cmp (place_at l.places k).corner l.corner ≡ Less;
  above : (k : ℕ) → l.high ≤ k → k < length l.places → corner_cmp (place_at l.places k).corner l.corner ≡ Greater;
}

abbrev pub decreases-loop-low : goal.decreases-loop-low
decreases-loop-low l = l.high - l.low
