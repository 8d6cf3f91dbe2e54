-- What is left to show of `next`.
use Rattle.outside.proofs.Lexing.{lexes_from}
use Rattle.outside.proofs.lexer.Lexer.next.Goals as goal

pub returns : goal.returns
returns c = lexes_from _ c.args.self.now c.skip_blanks-rest.result.now c.first_token.result.1.now _ c.self.view_is
    c.skip_blanks-rest.ensures.follows c.skip_blanks-rest.ensures.stands c.first_token.ensures.token c.first_token.ensures.behind
