use Rattle.std.proofs.Common.{refl, ap, ◌∙◌}
use Rattle.map_files.specs.Reading.{closing_place}
use Rattle.map_files.specs.Openings.{listed_in}
use Rattle.map_files.specs.declared.opening.Opening.TheVariants.{Nothing, InList}
use Rattle.map_files.proofs.Readings.{piece_goes, piece_adds, piece_closes, piece_refused}
use Rattle.map_files.proofs.reader.Reader.take.Goals as goal

pub returns-in-Goes : goal.returns-in-Goes
returns-in-Goes c = λ m o reads.
    piece_goes m o c.args.self.now (record { gathered = c.args.self.now.gathered; opening = c.in-Goes.opening; values = c.args.self.now.values; start = c.start_of-start.result }) c.args.at c.args.piece reads
    (c.in-Goes.ensures o reads.opening) refl refl (c.start_of-start.ensures o reads.opening)

pub returns-in-Ok : goal.returns-in-Ok
returns-in-Ok c = λ m o reads.
    piece_adds m o c.args.self.now (record { gathered = c.args.self.now.gathered; opening = InList c.in-Adds.left; values = c.add.new.self; start = c.start_of-start.result }) c.args.at c.args.piece c.in-Adds.left c.in-Adds.value reads
    (c.in-Adds.ensures o reads.opening) refl c.in-Ok.ensures refl (c.start_of-start.ensures o reads.opening)

pub returns-in-Ok-join : goal.returns-in-Ok-join
returns-in-Ok-join c = λ m o reads.
    piece_closes m o c.args.self.now (record { gathered = c.join.new.self; opening = Nothing; values = c.clear.new.self; start = 0 }) c.args.at c.args.piece c.in-Closes.closing reads
    (c.in-Closes.ensures o reads.opening) (λ i h fit. c.in-Ok-join.ensures m (listed_in o) i reads.gathered reads.values h fit) c.clear.ensures refl refl

pub returns-in-Err-Cause : goal.returns-in-Err-Cause
returns-in-Err-Cause c = λ m o reads.
    piece_refused m o c.args.self.now.start c.args.at c.closing_place-place.result c.args.piece c.in-Closes.closing c.in-Err-Cause.cause reads.fitting
    (c.in-Closes.ensures o reads.opening) (λ i h fit. rw c.in-Err-Cause.field-0-is at (c.in-Err-Cause.ensures m (listed_in o) i reads.gathered reads.values h fit))
    (λ i h. c.closing_place-place.ensures (listed_in o) i h ∙ ap (λ n. closing_place i n c.args.at) (c.start_of-start.ensures o reads.opening))
