-- `writing::put` stores group after group.
-- Assumes nothing.
use Rattle.trace.proofs.Groups.{Putting}
use Rattle.trace.proofs.writing.put.Given as goal

abbrev pub invariant-loop-rest : goal.invariant-loop-rest
invariant-loop-rest l = Putting l.number l.initial.buffer l.at l.buffer l.rest l.next

abbrev pub decreases-loop-rest : goal.decreases-loop-rest
decreases-loop-rest l = l.rest
