use Rattle.std.proofs.Common.{◌≡◌, ◌≤◌, ◌-◌, true}
use Rattle.std.specs.declared.cmp.Ordering.TheVariants.{Less}
use Rattle.elem_cubes.specs.Corners.{corner_cmp}
use Rattle.cell_points.specs.Places.{place_at}
use Rattle.cell_points.proofs.search.place_from.Given as goal

abbrev pub invariant-loop-place : goal.invariant-loop-place
invariant-loop-place l = l.below ≡ true → (1 ≤ l.place) × (corner_cmp (place_at l.places (l.place - 1)).corner l.corner ≡ Less)
