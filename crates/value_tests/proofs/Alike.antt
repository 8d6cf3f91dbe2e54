-- A map and four sets of one dimension.
use Rattle.std.proofs.Common.{◌≡◌, ℕ, sym, ap, ◌∙◌, true, ◌&&◌, ◌||◌, eq-eqb}
use Rattle.std.specs.Prelude.{◌==◌}
use Rattle.cube_sets.specs.Sets.{Members, dimensions_agree}
use Rattle.cube_sets.specs.Neighbours.{are_full}
use Rattle.cube_maps.specs.CubeMaps.{Mapping}
use Rattle.map_checks.specs.Carriers.{AreOfOneDimension}

same : (a b : ℕ) → a ≡ b → dimensions_agree a b ≡ true
same a b e = ap (λ t. t || a == 0 || b == 0) (eq-eqb a b e)

pub of_one_dimension : (map : Mapping) (x a y b : Members)
    → are_full x.cells ≡ true → are_full a.cells ≡ true → are_full y.cells ≡ true → are_full b.cells ≡ true
    → map.dimension ≡ x.dimension → a.dimension ≡ x.dimension → y.dimension ≡ x.dimension → b.dimension ≡ x.dimension
    → AreOfOneDimension map x a y b
of_one_dimension map x a y b fx fa fy fb m n o p = record {
  full = λ i. fx i && fa i && fy i && fb i;
  map_x = same map.dimension x.dimension m;
  map_a = same map.dimension a.dimension (m ∙ sym n);
  map_y = same map.dimension y.dimension (m ∙ sym o);
  map_b = same map.dimension b.dimension (m ∙ sym p);
  x_a = same x.dimension a.dimension (sym n);
  x_y = same x.dimension y.dimension (sym o);
  x_b = same x.dimension b.dimension (sym p);
  a_y = same a.dimension y.dimension (n ∙ sym o);
  a_b = same a.dimension b.dimension (n ∙ sym p);
  y_b = same y.dimension b.dimension (o ∙ sym p);
}
