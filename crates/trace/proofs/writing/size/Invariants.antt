-- `writing::size` divides until one group is left.
-- Assumes nothing.
use Rattle.trace.proofs.Groups.{Sizing}
use Rattle.trace.proofs.writing.size.Given as goal

abbrev pub invariant-loop-rest : goal.invariant-loop-rest
invariant-loop-rest l = Sizing l.number l.rest l.size

abbrev pub decreases-loop-rest : goal.decreases-loop-rest
decreases-loop-rest l = l.rest
