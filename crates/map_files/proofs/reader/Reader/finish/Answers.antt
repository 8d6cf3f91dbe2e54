use Rattle.std.proofs.Common.{sym, ◌∙◌}
use Rattle.map_files.proofs.Finishing.{parts_full, pairs_full, pairs_named, whole_map}
use Rattle.map_files.proofs.reader.Reader.finish.Goals as goal

pub of_parts-requires-clause-cubes : goal.of_parts-requires-clause-cubes
of_parts-requires-clause-cubes c = rw c.in-Ok.ensures (parts_full c.args.self.now.gathered c.requires.0 c.requires.2.gathered)

pub of_parts-requires-clause-values : goal.of_parts-requires-clause-values
of_parts-requires-clause-values c = rw c.in-Ok-pairs.ensures (pairs_full c.args.self.now.gathered c.requires.0 c.requires.2.gathered)

pub of_parts-requires-clause-named : goal.of_parts-requires-clause-named
of_parts-requires-clause-named c = rw (c.in-Ok.ensures, c.in-Ok-pairs.ensures) (pairs_named c.args.self.now.gathered c.requires.0 c.requires.2.gathered)

pub returns : goal.returns
returns c = λ m o r. (
  sym (c.is_open.ensures o r.opening) ∙ c.if-is_open.false,
  whole_map c.args.self.now.gathered m c.in-Ok-of_parts.map r.gathered c.in-Ok-of_parts.ensures.map c.in-Ok-of_parts.ensures.dimension
      (λ q. rw (← c.in-Ok.ensures) (c.in-Ok-of_parts.ensures.names q))
      (λ q v. rw (← c.in-Ok-pairs.ensures) (c.in-Ok-of_parts.ensures.pairs q v)),
)
