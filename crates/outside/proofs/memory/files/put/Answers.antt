-- What is left to show of `put`.
use Rattle.std.proofs.Common.{string_bytes}
use Rattle.outside.proofs.Held.{puts_new, puts_anew, puts_more, stays_without_more}
use Rattle.outside.proofs.memory.files.put.Goals as goal

pub returns-in_default-clause-ok : goal.returns-in_default-clause-ok
returns-in_default-clause-ok c = puts_new string_bytes (λ b. b.items) c.args.files.now.items c.push.new.self.items (c.in_ok-name.name, c.in_ok-bytes.bytes) c.args.first c.args.name.now c.args.piece.now
    c.in_ok-push.ensures.items (rw c.deref.ensures.value at c.in_default.ensures.missing) c.in_ok-name.ensures.ok c.in_ok-bytes.ensures.items

pub returns-then-first-clause-ok : goal.returns-then-first-clause-ok
returns-then-first-clause-ok c =
    let found = rw c.deref.ensures.value at c.in-Some.ensures.found in
    let first = rw c.deref.ensures.value at c.in-Some.ensures.first in
    puts_anew string_bytes (λ b. b.items) c.args.files.now.items c.in-Some.place c.index_mut.result.now c.in_ok-bytes-2.bytes c.args.first c.args.name.now c.args.piece.now
    found.0 c.index_mut.ensures.value first.0 first.1 c.if-first.true c.in_ok-bytes-2.ensures.items

pub returns-clause-ok : goal.returns-clause-ok
returns-clause-ok c =
    let found = rw c.deref.ensures.value at c.in-Some.ensures.found in
    let first = rw c.deref.ensures.value at c.in-Some.ensures.first in
    puts_more string_bytes (λ b. b.items) c.args.files.now.items c.in-Some.place c.index_mut-2.result.now c.extend_from_slice.new.self c.args.first c.args.name.now c.args.piece.now
    c.extend_from_slice.result found.0 c.index_mut-2.ensures.value first.0 first.1 found.1 c.if-first.false c.extend_from_slice.ensures.items

pub returns-clause-err : goal.returns-clause-err
returns-clause-err c =
    let found = rw c.deref.ensures.value at c.in-Some.ensures.found in
    stays_without_more string_bytes (λ b. b.items) c.args.files.now.items c.in-Some.place c.index_mut-2.result.now c.extend_from_slice.new.self c.args.piece.now
    c.extend_from_slice.result found.0 c.index_mut-2.ensures.value c.extend_from_slice.ensures.items
