-- `cases::value`: the number so far, with the digits from the place that is reached, is the number of all digits.
-- Assumes nothing.
use mathlib.Core.Path.{◌≡◌}
use lib.ListN.{drop}
use Rattle.cases.specs.Cases.{value_from}
use Rattle.cases.proofs.value.Given as goal

abbrev pub invariant-loop-byte : goal.invariant-loop-byte
invariant-loop-byte l = value_from l.value (drop l.byte-index l.text) ≡ value_from 0 l.text
