-- `cases::number`: what is left of the line has the number that all of it has.
-- Assumes nothing.
use mathlib.Core.Bool.{true}
use mathlib.Core.Path.{◌≡◌}
use lib.ListN.{drop}
use Rattle.cases.specs.Cases.{number_from}
use Rattle.cases.proofs.number.Given as goal

abbrev pub invariant-loop-at : goal.invariant-loop-at
invariant-loop-at l = number_from l.fresh (drop l.at l.line) l.words l.otherwise ≡ number_from true l.line l.words l.otherwise
