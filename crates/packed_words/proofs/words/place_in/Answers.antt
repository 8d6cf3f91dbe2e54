use Rattle.std.proofs.Common.{sym}
use Rattle.packed_words.specs.Words.{no_key}
use Rattle.packed_words.proofs.Placed.{place_here, place_missing}
use Rattle.packed_words.proofs.words.place_in.Goals as goal

pub returns-in-Ok-clause-place : goal.returns-in-Ok-clause-place
returns-in-Ok-clause-place c = sym (place_here c.args.keys.now c.args.key.now c.in-Ok.place c.requires c.in-Ok.ensures.bound (c.in-Ok.ensures.ok no_key))

pub returns-in-Err-clause-place : goal.returns-in-Err-clause-place
returns-in-Err-clause-place c = sym (place_missing c.args.keys.now c.args.key.now c.in-Err.place c.binary_search.result c.in-Err.is c.requires c.binary_search.ensures.bound c.binary_search.ensures.position)
