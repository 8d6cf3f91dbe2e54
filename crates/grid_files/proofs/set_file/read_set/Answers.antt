use Rattle.std.proofs.Common.{◌≡◌, ◌≤◌, length, arith, subst, ℕ, refl}
use Rattle.grid_files.proofs.SetFiles.{IsReading, fed_on, fed_fault, end_fault, ended, finished_value, finished_fault}
use Rattle.grid_files.proofs.Few.{result_few, result_full}
use Rattle.grid_files.proofs.set_file.read_set.Goals as goal

pub returns-in-Err-clause-refusal : goal.returns-in-Err-clause-refusal
returns-in-Err-clause-refusal c =
    let r = c.loop-place.invariant in
    fed_fault c.args.kind c.args.bytes.now c.loop-place.reader c.feed.new.self c.loop-place.carry c.loop-place.place c.in-Err.fault r c.loop-place-test.true (c.in-Err.ensures.feeds r.set r.o r.reads)

pub loop-place-preserved : goal.loop-place-preserved
loop-place-preserved c =
    let r = c.loop-place.invariant in
    fed_on c.args.kind c.args.bytes.now c.loop-place.reader c.feed.new.self c.loop-place.carry c.in-Ok.next c.loop-place.place r c.loop-place-test.true (c.in-Ok.ensures.feeds r.set r.o r.reads) c.in-Ok.ensures.carry

pub finish-requires : goal.finish-requires
finish-requires c =
    let r = c.loop-place.invariant in
    let f = c.in-Ok-feed.ensures.feeds r.set r.o r.reads in
    (f.set', f.o', f.reads)

pub returns-in-Ok-feed-clause-value : goal.returns-in-Ok-feed-clause-value
returns-in-Ok-feed-clause-value c =
    let at : c.loop-place.place ≡ length c.args.bytes.now = omega arith in
    let r : IsReading c.args.kind c.args.bytes.now c.loop-place.reader c.loop-place.carry (length c.args.bytes.now) =
    subst (λ (n : ℕ). IsReading c.args.kind c.args.bytes.now c.loop-place.reader c.loop-place.carry n) at c.loop-place.invariant in
    let f = c.in-Ok-feed.ensures.feeds r.set r.o r.reads in
    let le : length c.args.bytes.now ≤ length c.args.bytes.now = omega arith in
    finished_value c.args.kind c.args.bytes.now f.o' _ f.set' _ (ended c.args.kind c.args.bytes.now c.loop-place.reader c.feed-2.new.self c.loop-place.carry c.in-Ok-feed.field-0 (length c.args.bytes.now) r le f (c.in-Ok-feed.ensures.line refl)) (c.finish.ensures f.set' f.o' f.reads)

pub returns-in-Ok-feed-clause-few : goal.returns-in-Ok-feed-clause-few
returns-in-Ok-feed-clause-few c = result_few c.args.kind c.args.bytes.now _ (returns-in-Ok-feed-clause-value c)

pub returns-in-Ok-feed-clause-full : goal.returns-in-Ok-feed-clause-full
returns-in-Ok-feed-clause-full c = λ e. result_full c.args.kind c.args.bytes.now _ e (returns-in-Ok-feed-clause-value c)

pub returns-in-Ok-feed-clause-refusal : goal.returns-in-Ok-feed-clause-refusal
returns-in-Ok-feed-clause-refusal c =
    let at : c.loop-place.place ≡ length c.args.bytes.now = omega arith in
    let r : IsReading c.args.kind c.args.bytes.now c.loop-place.reader c.loop-place.carry (length c.args.bytes.now) =
    subst (λ (n : ℕ). IsReading c.args.kind c.args.bytes.now c.loop-place.reader c.loop-place.carry n) at c.loop-place.invariant in
    let f = c.in-Ok-feed.ensures.feeds r.set r.o r.reads in
    let le : length c.args.bytes.now ≤ length c.args.bytes.now = omega arith in
    finished_fault c.args.kind c.args.bytes.now f.o' _ f.set' _ (ended c.args.kind c.args.bytes.now c.loop-place.reader c.feed-2.new.self c.loop-place.carry c.in-Ok-feed.field-0 (length c.args.bytes.now) r le f (c.in-Ok-feed.ensures.line refl)) (c.finish.ensures f.set' f.o' f.reads)

pub returns-in-Err-feed-clause-refusal : goal.returns-in-Err-feed-clause-refusal
returns-in-Err-feed-clause-refusal c =
    let at : c.loop-place.place ≡ length c.args.bytes.now = omega arith in
    let r : IsReading c.args.kind c.args.bytes.now c.loop-place.reader c.loop-place.carry (length c.args.bytes.now) =
    subst (λ (n : ℕ). IsReading c.args.kind c.args.bytes.now c.loop-place.reader c.loop-place.carry n) at c.loop-place.invariant in
    let le : length c.args.bytes.now ≤ length c.args.bytes.now = omega arith in
    end_fault c.args.kind c.args.bytes.now c.loop-place.reader c.feed-2.new.self c.loop-place.carry (length c.args.bytes.now) c.in-Err-feed.fault r le (c.in-Err-feed.ensures.feeds r.set r.o r.reads)
