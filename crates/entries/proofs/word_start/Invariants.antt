-- `entries::word_start` stands at the start of each word in turn.
-- Assumes nothing.
use mathlib.Core.Path.{◌≡◌}
use Rattle.entries.specs.Entries.{word_start}
use Rattle.entries.proofs.word_start.Given as goal

abbrev pub invariant-loop : goal.invariant-loop
invariant-loop l = l.start ≡ word_start l.text l.counter
