-- What is left to show of `add_degree`.
use Rattle.std.proofs.Common.{arith}
use Rattle.chain_files.specs.Known.{Known}
use Rattle.chain_files.proofs.Knowing.{known_degree}
use Rattle.chain_files.proofs.gathered.Gathered.add_degree.Goals as goal

pub invariant_of-self-2 : goal.invariant_of-self-2
invariant_of-self-2 c =
    let s : Known = record {
      content = record { top = c.self.inside.top; degrees = c.self.inside.degrees.items; boundaries = c.self.inside.entries.items };
      next = c.self.inside.next;
      below = c.self.inside.below;
      here = c.self.inside.here;
      terms = c.self.inside.terms;
      last = c.self.inside.last;
    } in
    let known = known_degree s c.args.degree c.in-Ok.count c.self.invariant (omega arith) in
    rw (c.in_ok-extend_degrees.ensures.ok, c.in-Ok-extend_entries.ensures.ok, c.from-2.ensures) known
