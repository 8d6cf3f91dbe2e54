use Rattle.chains.proofs.TermLists.{term_is}
use Rattle.chains.proofs.chain.Chain.term.Goals as goal

pub returns-clause-nonzero : goal.returns-clause-nonzero
returns-clause-nonzero g c = (term_is g.row.P _ _ _ _ c.self.view_is c.self.invariant.normal c.requires c.term.ensures).0

pub returns-clause-below : goal.returns-clause-below
returns-clause-below g c = (term_is g.row.P _ _ _ _ c.self.view_is c.self.invariant.normal c.requires c.term.ensures).1

pub returns-clause-alone : goal.returns-clause-alone
returns-clause-alone g c = (term_is g.row.P _ _ _ _ c.self.view_is c.self.invariant.normal c.requires c.term.ensures).2
