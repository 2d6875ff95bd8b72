-- `writing::put_all` stores the mark, then number after number.
-- Assumes nothing.
use Rattle.trace.proofs.Filling.{Filling}
use Rattle.trace.proofs.writing.put_all.Given as goal

abbrev pub invariant-loop-number : goal.invariant-loop-number
invariant-loop-number l = Filling l.numbers l.initial.buffer l.buffer l.at l.number-index
