use Rattle.std.proofs.Common.{refl, ap, ◌∙◌}
use Rattle.grid_files.specs.Reading.{closing_place}
use Rattle.grid_files.specs.declared.opening.Opening.TheVariants.{Nothing}
use Rattle.grid_files.proofs.Readings.{piece_goes, piece_closes, piece_refused}
use Rattle.grid_files.proofs.reader.Reader.take.Goals as goal

pub returns-in-Goes : goal.returns-in-Goes
returns-in-Goes c = λ set o reads.
    piece_goes set o c.args.self.now (record { gathered = c.args.self.now.gathered; opening = c.in-Goes.opening; start = c.start_of-start.result }) c.args.at c.args.piece reads
    (c.in-Goes.ensures o reads.opening) refl (c.start_of-start.ensures o reads.opening)

pub returns-in-Ok : goal.returns-in-Ok
returns-in-Ok c = λ set o reads.
    piece_closes set o c.args.self.now (record { gathered = c.join.new.self; opening = Nothing; start = 0 }) c.args.at c.args.piece c.in-Closes.closing reads
    (c.in-Closes.ensures o reads.opening) (λ i h fit. c.in-Ok.ensures.joins set i reads.gathered h fit) c.in-Ok.ensures.kept refl refl

pub returns-in-Err-Cause : goal.returns-in-Err-Cause
returns-in-Err-Cause c = λ set o reads.
    piece_refused c.args.self.now.gathered.kind set o c.args.self.now.start c.args.at c.closing_place-place.result c.args.piece c.in-Closes.closing c.in-Err-Cause.cause reads.fitting
    (c.in-Closes.ensures o reads.opening) (λ i h fit. rw c.in-Err-Cause.field-0-is at (c.in-Err-Cause.ensures.joins set i reads.gathered h fit))
    (λ i h. c.closing_place-place.ensures i h ∙ ap (λ n. closing_place i n c.args.at) (c.start_of-start.ensures o reads.opening))
