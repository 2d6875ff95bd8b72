-- `figures::read`: what is left of the text, after the number so far, spells what the whole text spells.
-- Assumes nothing.
use mathlib.Core.Path.{◌≡◌}
use Prim.Native.Nat.{◌<◌}
use lib.ListN.{drop}
use Rattle.figures.specs.Figures.{number_from}
use Rattle.figures.proofs.read.Given as goal

abbrev pub invariant-loop-byte : goal.invariant-loop-byte
invariant-loop-byte l = (number_from l.value (drop l.byte-index l.text) ≡ number_from 0 l.text) × (l.value < 4294967296)
