use Rattle.chain_files.proofs.reader.Reader.mark.Goals as goal

pub returns-in-Colon-clause-turns : goal.returns-in-Colon-clause-turns
returns-in-Colon-clause-turns g c = rw c.in-Colon.is (c.expect_mark.ensures.turns _)

pub returns-in-Equals-clause-turns : goal.returns-in-Equals-clause-turns
returns-in-Equals-clause-turns g c = rw c.in-Equals.is (c.expect_mark-in-Equals.ensures.turns _)
