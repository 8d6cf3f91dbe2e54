use Rattle.grid_files.proofs.reader.Reader.take_any.Goals as goal

pub returns-in-Some : goal.returns-in-Some
returns-in-Some c = λ set o reads. rw c.in-Some.is (c.take.ensures set o reads)
