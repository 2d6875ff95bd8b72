-- `writing::fits` takes each number's groups off the room.
-- Assumes nothing.
use mathlib.Core.Path.{sym}
use Prim.Native.Nat.{◌<◌}
use native.Mathlib.Omega.{arith}
use lib.ListN.{length}
use borrow.Author.Tests.{le-leb, lt-leb}
use Rattle.trace.specs.Traces.{file}
use Rattle.trace.proofs.Groups.{small_at}
use Rattle.trace.proofs.Filling.{fitting_first, fitting_done, fitting_more, fitting_short}
use Rattle.trace.proofs.writing.fits.Goals as goal

pub returns-then-room-eq0 : goal.returns-then-room-eq0
returns-then-room-eq0 c =
    let a = c.args in
    let none : a.room < length (file a.numbers.now) = omega (arith, c.if-room-eq0.true) in
    sym (lt-leb (length (file a.numbers.now)) a.room none)

pub loop-number-init : goal.loop-number-init
loop-number-init c = search fitting_first

pub size-size-requires : goal.size-size-requires
size-size-requires c = search small_at

pub returns-then-left-size : goal.returns-then-left-size
returns-then-left-size c = sym (search (lt-leb, fitting_short))

pub loop-number-preserved : goal.loop-number-preserved
loop-number-preserved c = search fitting_more

pub returns : goal.returns
returns c = sym (search (le-leb, fitting_done))
