-- `writing::fits` takes each number's groups off the room.
-- Assumes nothing.
use Rattle.trace.proofs.Filling.{Fitting}
use Rattle.trace.proofs.writing.fits.Given as goal

abbrev pub invariant-loop-number : goal.invariant-loop-number
invariant-loop-number l = Fitting l.numbers l.room l.left l.number-index
