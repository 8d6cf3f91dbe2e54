use Rattle.pair_witness.proofs.bases.prepared_of.Goals as goal

pub returns-in-Ok-clause-prepared : goal.returns-in-Ok-clause-prepared
returns-in-Ok-clause-prepared g c =
    let r = c.in-Ok.ensures in
    record { complex = r.complex; grown = r.grown; left = r.left; none_free = r.none_free; sorted = r.sorted; nothing_left = r.nothing_left }
