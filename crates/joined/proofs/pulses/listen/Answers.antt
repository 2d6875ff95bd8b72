-- `pulses::listen` plays the pulse to a chip that has not ended. Once the chip has answered, what its step left is what the pulse leaves.
-- Assumes nothing.
use mathlib.Core.Path.{refl, sym, ◌∙◌}
use Rattle.units.proofs.Lines.{seen_told}
use Rattle.joined.proofs.Turns.{listened_ended, listened_told, chip_ends, chip_goes}
use Rattle.joined.proofs.pulses.listen.Goals as goal

pub returns-then-is_some : goal.returns-then-is_some
returns-then-is_some c =
    listened_ended _ _ _ _ _ _ c.met.ensures (chip_ends _ _ c.end.ensures (sym c.is_some.ensures ∙ c.if-is_some.true))

pub returns-in-Ok : goal.returns-in-Ok
returns-in-Ok c =
    listened_told _ _ _ _ _ _ _ _ _ _ _ _ c.in-Ok.ensures c.waited-wait.ensures c.loops-low.ensures refl
    (chip_goes _ _ c.end.ensures (sym c.is_some.ensures ∙ c.if-is_some.false)) (rw (c.met-in-Ok.ensures, seen_told c.in-Ok.played.reply))

pub returns-in-Err : goal.returns-in-Err
returns-in-Err c =
    listened_told _ _ _ _ _ _ _ _ _ _ _ _ c.in-Err.ensures c.waited-wait.ensures c.loops-low.ensures refl
    (chip_goes _ _ c.end.ensures (sym c.is_some.ensures ∙ c.if-is_some.false)) (rw c.met-in-Err.ensures)
