-- `playing::play`: what is left of the replay, from where it stands, is the whole replay.
-- Assumes nothing.
use mathlib.Core.Path.{◌≡◌}
use Prim.Native.Nat.{◌-◌}
use lib.ListN.{length}
use Rattle.trace.specs.Traces.{list_of, numbers_of}
use Rattle.replay.specs.Replay.{state, played}
use Rattle.replay.proofs.Turns.{Playing}
use Rattle.replay.proofs.playing.play.Given as goal

abbrev pub invariant-loop-at : goal.invariant-loop-at
invariant-loop-at l = record {
  turns :
      Playing l.trace (played (list_of (numbers_of l.trace)) (state l.initial.chip l.initial.ram l.initial.eeprom)) (state l.chip l.ram l.eeprom) l.at;
  ram : length l.ram ≡ length l.initial.ram;
  eeprom : length l.eeprom ≡ length l.initial.eeprom;
}

abbrev pub decreases-loop-at : goal.decreases-loop-at
decreases-loop-at l = length l.trace - l.at
