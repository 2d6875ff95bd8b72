-- `trace::write` walks its rows, then writes.
-- Assumes nothing.
use Prim.Native.Nat.{◌≤◌}
use borrow.Author.Tests.{leb-true, le-ltb}
use lib.ListN.{length}
use Rattle.terms.proofs.Refusals.{walk, answered, agrees}
use Rattle.trace.specs.Traces.{file}
use Rattle.trace.proofs.Filling.{write_refused, write_taken, no_room}
use Rattle.trace.proofs.write.Goals as goal

pub returns-then-has_large : goal.returns-then-has_large
returns-then-has_large c = search (write_refused, walk) depth 12

pub returns-then-numbers-ne0 : goal.returns-then-numbers-ne0
returns-then-numbers-ne0 c = search (write_refused, walk) depth 12

pub returns-then-not-fits : goal.returns-then-not-fits
returns-then-not-fits c = search (write_refused, no_room, walk) depth 12

pub returns : goal.returns
returns c =
    let a = c.args in
    let large = c.has_large.ensures in
    let room : length (file a.numbers.now) ≤ length a.buffer.now = search (leb-true, answered) in
    let put = c.put_all in
    write_taken a.numbers.now a.buffer.now
    (answered _ _ _ large c.if-has_large.false, (agrees _ _ c.if-numbers-ne0.false, (le-ltb _ _ room, tt)))
    put.result _ put.ensures.0 put.ensures.1 room
