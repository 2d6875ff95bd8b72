-- `cases::line_start` stands at the start of each line in turn.
-- Assumes nothing.
use mathlib.Core.Path.{◌≡◌}
use Rattle.cases.specs.Cases.{line_start}
use Rattle.cases.proofs.line_start.Given as goal

abbrev pub invariant-loop : goal.invariant-loop
invariant-loop l = l.start ≡ line_start l.text l.counter
