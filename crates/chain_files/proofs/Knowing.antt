-- The numbers of a file so far fit each other, whatever a number makes.
use Rattle.std.proofs.Common.{◌≤◌, ℕ, ◌+◌, replicate, arith, length-append}
use Rattle.std.proofs.lemmas.List.{length-replicate}
use Rattle.chain_files.specs.Content.{not_given}
use Rattle.chain_files.specs.Known.{Known, with_generators}
use Rattle.chain_files.specs.Readers.{IsKnown}
use Rattle.chain_files.specs.Numbers.{most_generators}

pub known_degree : (s : Known) (k n : ℕ) → IsKnown s → s.here.first + s.here.count + n ≤ most_generators → IsKnown (with_generators s k n)
known_degree s k n h few =
    let more = length-append s.content.degrees (replicate n k) in
    let more' = length-append s.content.boundaries (replicate n not_given) in
    let long = length-replicate n k in
    let long' = length-replicate n not_given in
    record {
      degrees = omega (arith, more, more', long, long', h.degrees);
      here = omega (arith, more', long', h.here);
      below = omega (arith, h.below);
      few = omega (arith, more', long', h.here, few);
      terms = h.terms;
      last = omega (arith, more', h.last);
    }
