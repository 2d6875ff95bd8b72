-- `pulses::play`: what is left of the run, from where it stands, is the whole run.
-- Assumes nothing.
use mathlib.Core.Path.{◌≡◌, sym, ◌∙◌}
use Prim.Native.Nat.{◌+◌, ◌-◌}
use native.Mathlib.Omega.{arith}
use Rattle.joined.specs.Run.{budget}
use Rattle.joined.proofs.Turns.{left_after, left_none, left_ended, host_ends, host_goes}
use Rattle.joined.proofs.pulses.play.Goals as goal

pub returns-then-is_some : goal.returns-then-is_some
returns-then-is_some c =
    left_ended _ _ _ _ _ c.loop-n.invariant.run (host_ends _ _ c.end.ensures (sym c.is_some.ensures ∙ c.if-is_some.true))

pub loop-n-preserved : goal.loop-n-preserved
loop-n-preserved c =
    let same : budget - (c.loop-n.n + 1) ≡ budget - c.loop-n.n - 1 = omega arith in
    let goes = host_goes _ _ c.end.ensures (sym c.is_some.ensures ∙ c.if-is_some.false) in
    record {
      run = rw same (left_after _ _ _ _ _ c.loop-n.invariant.run _ (omega arith) goes c.pulse-joined.ensures);
      ram = c.pulse-joined.auto.ram ∙ c.loop-n.invariant.ram;
      eeprom = c.pulse-joined.auto.eeprom ∙ c.loop-n.invariant.eeprom;
    }

pub returns : goal.returns
returns c = left_none _ _ _ _ _ c.loop-n.invariant.run (omega arith)
