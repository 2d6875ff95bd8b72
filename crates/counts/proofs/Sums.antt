-- The sum over the ten phases, written out.
-- Assumes nothing.
use mathlib.Core.Path.{◌≡◌}
use Prim.Native.Nat.{ℕ, ◌+◌}
use native.Mathlib.Omega.{arith}
use Rattle.lent.specs.Bytes.{total}
use Rattle.counts.specs.Counts.{sum_of}
use Rattle.counts.specs.declared.Counts.{Counts}
use Rattle.counts.specs.declared.Plan.{Plan}

pub sum_is : (f : Counts → ℕ) (p : Plan) → sum_of f p
    ≡ f p.calibration + f p.handshake + f p.connection + f p.version + f p.command + f p.size + f p.image + f p.ram
    + f p.programming + f p.verification
unfolding sum_of total
sum_is f p = omega arith
