use Rattle.map_files.proofs.reader.Reader.take_any.Goals as goal

pub returns-in-Some : goal.returns-in-Some
returns-in-Some c = λ m o reads. rw c.in-Some.is (c.take.ensures m o reads)
