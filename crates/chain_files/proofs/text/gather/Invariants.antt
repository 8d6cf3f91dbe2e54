use Rattle.std.proofs.Common.{length}
use Rattle.outside.specs.Lexing.{tokens_at}
use Rattle.chain_files.proofs.Gathering.{IsReading}
use Rattle.chain_files.proofs.text.gather.Given as goal

abbrev pub invariant-tokens : goal.invariant-tokens
invariant-tokens g l = IsReading g.row.P l.bytes l.reader.known l.reader.due (tokens_at l.lexer)

abbrev pub decreases-tokens : goal.decreases-tokens
decreases-tokens g l = length (tokens_at l.lexer)
