-- `pulses::pulse` hands the host's pulse to the chip.
-- Assumes nothing.
use mathlib.Core.Path.{refl}
use Rattle.joined.proofs.Turns.{pulse_told}
use Rattle.joined.proofs.pulses.pulse.Goals as goal

pub returns-in-Ok : goal.returns-in-Ok
returns-in-Ok c = pulse_told _ _ _ _ _ _ _ _ c.in-Ok.ensures c.sees-seen.ensures c.listen.ensures

pub returns-in-Err : goal.returns-in-Err
returns-in-Err c = pulse_told _ _ _ _ _ _ _ _ c.in-Err.ensures c.sees-seen.ensures refl
