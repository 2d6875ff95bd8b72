-- `filled`: a byte that goes on after n bits has been filled n times; the loop counts from its second bit on.
-- Assumes nothing.
use mathlib.Core.Bool.{true}
use mathlib.Core.Path.{◌≡◌}
use Prim.Native.Nat.{◌≤◌}
use Rattle.packing.specs.Filling.{at_first, filled_to}
use Rattle.packing.proofs.filled.Given as goal

abbrev pub invariant-loop-n : goal.invariant-loop-n
invariant-loop-n l =
    (1 ≤ l.n)
    × ((l.n ≤ l.most)
    × (record { frame = record { lows = l.lows; used = l.used }; place = record { phase = l.phase; index = l.index }; going = true }
    ≡ filled_to l.packing l.load l.image l.n (at_first l.fn.place)))
