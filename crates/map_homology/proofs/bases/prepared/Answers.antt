use Rattle.std.proofs.Common.{refl, ap, ◌∙◌, arith, Err}
use Rattle.map_homology.proofs.Excised.{excised_few}
use Rattle.map_homology.proofs.bases.prepared.Goals as goal

pub unreachable-requires : goal.unreachable-requires
unreachable-requires g c =
    let many = c.prepare.ensures.many (c.in-Err-TooManyCells.is ∙ ap (λ fault. Err fault) c.in-Err-TooManyCells.field-0-is) in
    let less = excised_few c.args.x.now c.args.a.now in
    omega (arith, many, less, c.requires.few)

pub returns-in-Ok-clause-prepared : goal.returns-in-Ok-clause-prepared
returns-in-Ok-clause-prepared g c = record {
  relative = c.in-Ok.ensures.complex;
  sorted = c.len-count.ensures.sorted;
  nothing = c.in-Ok.ensures.nothing_left;
  counts = record {
    relative = (c.in-Ok.field-0.cells, c.in-Ok.ensures.complex.listing, refl);
    growth = c.in-Ok.ensures.grown;
    collapse = c.in-Ok.ensures.left;
    none_free = c.in-Ok.ensures.none_free;
    once = c.in-Ok.ensures.sorted;
  };
}
