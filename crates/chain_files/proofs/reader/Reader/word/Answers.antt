use Rattle.chain_files.proofs.reader.Reader.word.Goals as goal

pub returns-in-Chain-clause-turns : goal.returns-in-Chain-clause-turns
returns-in-Chain-clause-turns g c = rw c.in-Chain.is (c.expect_word.ensures.turns _)

pub returns-in-Complex-clause-turns : goal.returns-in-Complex-clause-turns
returns-in-Complex-clause-turns g c = rw c.in-Complex.is (c.expect_word-in-Complex.ensures.turns _)

pub returns-in-Max-clause-turns : goal.returns-in-Max-clause-turns
returns-in-Max-clause-turns g c = rw c.in-Max.is (c.expect_word-in-Max.ensures.turns _)

pub returns-in-Dimension-clause-turns : goal.returns-in-Dimension-clause-turns
returns-in-Dimension-clause-turns g c = rw c.in-Dimension.is (c.expect_word-in-Dimension.ensures.turns _)
