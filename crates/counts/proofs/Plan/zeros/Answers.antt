-- `Plan::zeros`: ten numbers of 32 bits fit 64.
-- Assumes nothing.
use native.Mathlib.Omega.{arith}
use Rattle.counts.proofs.Plan.zeros.Goals as goal

pub overflow_add-result : goal.overflow_add-result
overflow_add-result c = omega arith
