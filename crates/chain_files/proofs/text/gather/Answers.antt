use Rattle.outside.specs.Lexing.{tokens_at, said}
use Rattle.chain_files.proofs.Gathering.{ended_value, ended_refusal, taken_refusal}
use Rattle.chain_files.proofs.text.gather.Goals as goal

pub returns-then-is_end-clause-value : goal.returns-then-is_end-clause-value
returns-then-is_end-clause-value g c =
    ended_value g.row.P c.args.bytes.now c.tokens.reader.known c.tokens.reader.due (tokens_at c.tokens.lexer) c.tokens.invariant c.next-place.result.0 (said c.next-place.result.1) (tokens_at c.next-place.new.self)
    c.next-place.ensures.tokens (c.is_end.ensures.end c.if-is_end.true) c.ended.result c.ended.ensures

pub returns-then-is_end-clause-refusal : goal.returns-then-is_end-clause-refusal
returns-then-is_end-clause-refusal g c =
    ended_refusal g.row.P c.args.bytes.now c.tokens.reader.known c.tokens.reader.due (tokens_at c.tokens.lexer) c.tokens.invariant c.next-place.result.0 (said c.next-place.result.1) (tokens_at c.next-place.new.self)
    c.next-place.ensures.tokens (c.is_end.ensures.end c.if-is_end.true) c.ended.result c.ended.ensures

pub returns-in-Err-clause-refusal : goal.returns-in-Err-clause-refusal
returns-in-Err-clause-refusal g c =
    let t = c.is_end.ensures.more c.if-is_end.false in
    rw c.fault_of.ensures (taken_refusal g.row.P c.args.bytes.now c.tokens.reader.known c.tokens.reader.due (tokens_at c.tokens.lexer) c.tokens.invariant c.next-place.result.0 (said c.next-place.result.1) (tokens_at c.next-place.new.self)
    c.next-place.ensures.tokens t.0 t.1 c.take.new.self.known c.take.new.self.due c.in-Err.refusal (c.in-Err.ensures.takes t.0 t.1))
