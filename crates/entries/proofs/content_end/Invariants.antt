-- `entries::content_end`: the content ends, seen from each place that is reached, where it ends from the first.
-- Assumes nothing.
use mathlib.Core.Path.{◌≡◌}
use Rattle.entries.specs.Entries.{content_length}
use Rattle.entries.proofs.Texts.{content_end}
use Rattle.entries.proofs.content_end.Given as goal

abbrev pub invariant-loop-at : goal.invariant-loop-at
invariant-loop-at l = content_end l.line l.at ≡ content_length l.line
