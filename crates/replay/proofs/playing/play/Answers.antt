-- `playing::play`: what is left of the replay, from where it stands, is the whole replay.
-- Assumes nothing.
use mathlib.Core.Path.{sym, ◌∙◌}
use native.Mathlib.Omega.{arith}
use Rattle.replay.proofs.Turns.{told_over, playing_ended, playing_done, playing_over, playing_on, playing_more}
use Rattle.replay.proofs.playing.play.Goals as goal

pub returns-then-is_some : goal.returns-then-is_some
returns-then-is_some c =
    playing_ended _ _ _ _ c.loop-at.invariant.turns (sym (told_over _ _ c.end.ensures) ∙ sym c.is_some.ensures ∙ c.if-is_some.true)

pub returns-in_default : goal.returns-in_default
returns-in_default c = search playing_over

pub loop-at-smaller : goal.loop-at-smaller
loop-at-smaller c =
    let on = playing_on _ _ _ _ c.loop-at.invariant.turns c.loop-at-test.true _ c.pulse_at.ensures _ c.in-Some.is in
    omega (arith, on)

pub loop-at-preserved : goal.loop-at-preserved
loop-at-preserved c = record {
  turns =
      playing_more _ _ _ _ c.loop-at.invariant.turns c.loop-at-test.true _ c.pulse_at.ensures _ c.in-Some.is
      (sym (told_over _ _ c.end.ensures) ∙ sym c.is_some.ensures ∙ c.if-is_some.false) _ c.listen-chip.ensures;
  ram = c.listen-chip.auto.ram ∙ c.loop-at.invariant.ram;
  eeprom = c.listen-chip.auto.eeprom ∙ c.loop-at.invariant.eeprom;
}

pub returns : goal.returns
returns c = playing_done _ _ _ _ c.loop-at.invariant.turns (omega arith)
