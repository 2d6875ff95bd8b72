-- `cases::line_end`: the line ends, seen from each place that is reached, where it ends from the first.
-- Assumes nothing.
use mathlib.Core.Path.{◌≡◌}
use Rattle.cases.specs.Cases.{line_end}
use Rattle.cases.proofs.line_end.Given as goal

abbrev pub invariant-loop-at : goal.invariant-loop-at
invariant-loop-at l = line_end l.text l.at ≡ line_end l.text l.from
