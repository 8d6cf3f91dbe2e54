use Rattle.face_reduction.proofs.free_pairs.next_free.Goals as goal

pub returns-clause-none : goal.returns-clause-none
returns-clause-none g c k l w = c.looking.invariant k l (c.in_default.ensures.none k) w
