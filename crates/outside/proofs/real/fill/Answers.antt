-- What is left to show of `fill`.
use Rattle.outside.proofs.Streams.{filled_from}
use Rattle.outside.proofs.real.fill.Goals as goal

pub returns-clause-bytes : goal.returns-clause-bytes
returns-clause-bytes g c = λ go. filled_from
    (g.T.Seek.stream_position c.args.file.now) (g.T.Seek.stream_position c.seek.new.self)
    (g.T.Seek.stream_bytes c.args.file.now) (g.T.Seek.stream_bytes c.seek.new.self)
    (g.T.Read.remaining c.seek.new.self) (g.T.Read.remaining c.fill_front.new.file)
    c.args.at c.in_ok-hear.field-0 c.fill_front.new.buf c.seek.result c.fill_front.result
    c.seek.ensures.moves c.in_ok-hear.ensures.ok c.seek.ensures.bytes (go c.seek.new.self)
    c.fill_front.ensures.bound c.fill_front.ensures.bytes c.fill_front.ensures.end
