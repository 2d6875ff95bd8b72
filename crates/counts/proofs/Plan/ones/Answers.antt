-- `Plan::ones`: ten numbers of 32 bits fit 64.
-- Assumes nothing.
use native.Mathlib.Omega.{arith}
use Rattle.counts.proofs.Plan.ones.Goals as goal

pub overflow_add-from_size : goal.overflow_add-from_size
overflow_add-from_size c = omega arith

pub overflow_add-from_size-2 : goal.overflow_add-from_size-2
overflow_add-from_size-2 c = omega arith

pub overflow_add-from_size-3 : goal.overflow_add-from_size-3
overflow_add-from_size-3 c = omega arith

pub overflow_add-from_size-4 : goal.overflow_add-from_size-4
overflow_add-from_size-4 c = omega arith

pub overflow_add-result : goal.overflow_add-result
overflow_add-result c = omega arith
