-- `pulses::play`: what is left of the run, from where it stands, is the whole run.
-- Assumes nothing.
use mathlib.Core.Path.{◌≡◌}
use Prim.Native.Nat.{◌-◌}
use lib.ListN.{length}
use Rattle.joined.specs.Joined.{rounded_down, played}
use Rattle.joined.specs.Run.{budget, state}
use Rattle.joined.proofs.pulses.play.Given as goal

abbrev pub invariant-loop-n : goal.invariant-loop-n
invariant-loop-n l = record {
  run :
      played (rounded_down l.clock.p l.clock.l) l.image (budget - l.n) (state l.joined l.ram l.eeprom)
      ≡ played (rounded_down l.clock.p l.clock.l) l.image budget (state l.initial.joined l.initial.ram l.initial.eeprom);
  ram : length l.ram ≡ length l.initial.ram;
  eeprom : length l.eeprom ≡ length l.initial.eeprom;
}
