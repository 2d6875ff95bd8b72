-- `numbers::number_at` reads group after group: what it has read and what follows is the number.
-- Assumes nothing.
use Rattle.std.proofs.Common.{◌+◌, ◌-◌}
use Rattle.numbers.specs.Numbers.{groups}
use Rattle.numbers.proofs.Going.{Going}
use Rattle.numbers.proofs.number_at.Given as goal

abbrev pub invariant-loop-next : goal.invariant-loop-next
invariant-loop-next l = Going groups l.trace l.at l.value l.scale l.next (l.at + groups - l.next)
