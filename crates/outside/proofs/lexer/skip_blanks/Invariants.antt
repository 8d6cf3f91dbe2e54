-- What the loop of `skip_blanks` keeps, and what it counts down.
use Rattle.std.proofs.Common.{length}
use Rattle.outside.specs.Lexing.{FollowsBlanks}
use Rattle.outside.proofs.lexer.skip_blanks.Given as goal

abbrev pub invariant-loop-rest : goal.invariant-loop-rest
invariant-loop-rest l = FollowsBlanks l.bytes l.rest

abbrev pub decreases-loop-rest : goal.decreases-loop-rest
decreases-loop-rest l = length l.rest
