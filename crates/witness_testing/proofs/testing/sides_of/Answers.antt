use Rattle.std.proofs.Common.{refl}
use Rattle.witness_testing.proofs.testing.sides_of.Goals as goal

pub returns : goal.returns
returns g c = record {
  domain_cells = refl;
  all = refl;
  sorted = c.len-count.ensures.sorted;
  domain_complex = c.in_ok-domain_complex.ensures;
  range_complex = c.in_ok-range_complex.ensures;
  images = c.in_ok-images.ensures;
}
