-- What is left to show of `skip_blanks`.
use Rattle.std.proofs.Common.{refl, ◌∙◌, sym}
use Rattle.outside.proofs.Lexing.{passes_blank, passes_comment}
use Rattle.outside.proofs.lexer.skip_blanks.Goals as goal

pub loop-rest-preserved-then-b-eq59 : goal.loop-rest-preserved-then-b-eq59
loop-rest-preserved-then-b-eq59 c = passes_comment _ _ _ _ c.loop-rest.invariant c.in-len1-up.len_at_least c.if-b-eq59.true refl c.line_len.ensures

pub loop-rest-preserved : goal.loop-rest-preserved
loop-rest-preserved c = passes_blank _ _ _ c.loop-rest.invariant c.in-len1-up.len_at_least (sym c.is_blank.ensures ∙ c.if-is_blank.true) refl
