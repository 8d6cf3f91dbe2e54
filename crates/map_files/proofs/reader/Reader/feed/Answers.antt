use Rattle.map_files.proofs.Readings.{feeds_ok, feeds_err}
use Rattle.map_files.proofs.reader.Reader.feed.Goals as goal

pub returns-in-Ok-clause-feeds : goal.returns-in-Ok-clause-feeds
returns-in-Ok-clause-feeds c = λ m o reads.
    feeds_ok m o c.args.self.now.start c.args.carry c.scan-scanned.result.carry c.args.place c.args.b c.scan-scanned.result.first c.scan-scanned.result.second _
    (c.in-Ok.ensures m o reads) c.scan-scanned.ensures.pieces

pub returns-in-Err-clause-feeds : goal.returns-in-Err-clause-feeds
returns-in-Err-clause-feeds c = λ m o reads.
    feeds_err m o c.args.self.now.start c.args.carry c.scan-scanned.result.carry c.args.place c.args.b c.scan-scanned.result.first c.scan-scanned.result.second c.take_both.new.self _
    (c.in-Err.ensures m o reads) c.scan-scanned.ensures.pieces
