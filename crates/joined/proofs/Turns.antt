-- One pulse as the code plays it is one pulse of the definition: by what the host answers, whether the chip has ended, and what it answers.
-- Assumes nothing.
use mathlib.Core.Bool.{true, false, true≢false, false≢true}
use mathlib.Core.List.{List}
use mathlib.Core.Path.{◌≡◌, refl, sym, ap, ◌∙◌}
use Prim.Native.Nat.{ℕ, zero, suc, ◌+◌, ◌-◌, ◌<◌, ◌≤◌}
use native.Mathlib.Numerals.{add-one}
use native.Mathlib.Omega.{arith}
use Rattle.terms.specs.Refusals.{Answer}
use Rattle.terms.proofs.Tests.{when_true, when_false}
use Rattle.units.specs.declared.Seen.{Seen}
use Rattle.units.specs.declared.Seen.TheVariants.{Silence}
use Rattle.host.specs.Step.{host_step}
use Rattle.host.specs.declared.Sent.{Sent}
use Rattle.std.specs.Prelude.{Option, None, Some, is_some}
use Rattle.place.specs.Endings.{end_at, told_end}
use Rattle.place.specs.Phases.{ended}
use Rattle.place.specs.declared.Ending as host_ending
use Rattle.place.specs.declared.Phase as host_phase
use Rattle.phases.specs.declared.Ending as chip_ending
use Rattle.phases.specs.declared.Phase as chip_phase
use Rattle.phases.specs.Endings as chips
use Rattle.phases.proofs.Endings as asked_chip
use Rattle.place.proofs.Endings.{goes_on, has_ended}
use Rattle.phases.specs.Phases as chip
use Rattle.chip.specs.Step.{Reply, Left, left, chip_step}
use Rattle.bits.specs.Seeing.{sees}
use Rattle.joined.specs.Joined.{State, Measuring, waited, lasted, listened, met, sent_to, pulsed, host_ended, played}
use Rattle.joined.specs.Run.{state, after}
use Rattle.joined.specs.declared.Joined.{Joined}

module _ (measured : Measuring) (image : List ℕ) where
  -- A run stops where the host has ended, and goes on where it has not.
  pub played_stops : (n : ℕ) (s : State) → host_ended s ≡ true → played measured image n s ≡ s
  unfolding played
  played_stops zero s e = refl
  played_stops (suc n) s e = when_true _ _ e

  pub played_goes : (n : ℕ) (s : State) → host_ended s ≡ false → played measured image (n + 1) s ≡ played measured image n (pulsed measured image s)
  unfolding played
  played_goes n s e = rw (add-one n) (when_false _ _ e)

  -- What is left of a run, after a turn of it and where it is over.
  module _ (n : ℕ) (s end : State) (run : played measured image n s ≡ end) where
    pub left_after : (s' : State) → 0 < n → host_ended s ≡ false → s' ≡ pulsed measured image s → played measured image (n - 1) s' ≡ end
    left_after s' some goes turn =
        let one : n - 1 + 1 ≡ n = omega arith in
        rw (turn, ← played_goes (n - 1) s goes, one) run

    pub left_none : n ≤ 0 → s ≡ end
    unfolding played
    left_none over =
        let none : n ≡ 0 = omega arith in
        rw none at run

    pub left_ended : host_ended s ≡ true → s ≡ end
    left_ended e = sym (played_stops n s e) ∙ run

  module _ (j : Joined) (ram eeprom : List ℕ) where
    abbrev here : State
    here = state j ram eeprom

    abbrev seen : Seen
    seen = sees j.host.session.place.phase j.host.session.place.index j.reply

    -- By what the host answers.
    pub pulse_told : (a : Answer Sent) (s : Seen) (x : State) → a ≡ host_step j.host image s → s ≡ seen
        → x ≡ sent_to measured here a → x ≡ pulsed measured image here
    unfolding pulsed
    pulse_told a s x q w h = h ∙ ap (sent_to measured here) (q ∙ ap (host_step j.host image) w)

-- What the chip makes of it.
module _ (measured : Measuring) (j : Joined) (ram eeprom : List ℕ) where
  module _ (sent : Sent) where
    -- The chip has ended.
    pub listened_ended : (x : Joined) → x ≡ after sent j.chip Silence → chip.ended j.chip.receiver.listener.phase ≡ true
        → state x ram eeprom ≡ met j.chip sent (listened measured (state j ram eeprom) sent)
    unfolding listened
    listened_ended x h e = ap (λ (y : Joined). state y ram eeprom) h ∙ ap (met j.chip sent) (sym (when_true _ _ e))

    -- It has not: what its step leaves is what the pulse leaves.
    pub stepped_so : (l : Left) (wait low ticks : ℕ) → l ≡ chip_step j.chip ram eeprom wait low
        → wait ≡ waited measured j.host.session.pulses (sent.fall.0 - j.rise.0)
        → low ≡ lasted measured j.host.session.pulses ticks → ticks ≡ sent.rise.0 - sent.fall.0
        → chip.ended j.chip.receiver.listener.phase ≡ false → l ≡ listened measured (state j ram eeprom) sent
    unfolding listened
    stepped_so l wait low ticks q w d b listens = rw (when_false _ _ listens, ← b, ← d, ← w) q

    -- By what its step answers.
    pub listened_told : (x : Joined) (ram' eeprom' : List ℕ) (a : Answer Reply) (wait low ticks : ℕ) → left a ram' eeprom' ≡ chip_step j.chip ram eeprom wait low
        → wait ≡ waited measured j.host.session.pulses (sent.fall.0 - j.rise.0)
        → low ≡ lasted measured j.host.session.pulses ticks → ticks ≡ sent.rise.0 - sent.fall.0
        → chip.ended j.chip.receiver.listener.phase ≡ false → state x ram' eeprom' ≡ met j.chip sent (left a ram' eeprom')
        → state x ram' eeprom' ≡ met j.chip sent (listened measured (state j ram eeprom) sent)
    listened_told x ram' eeprom' a wait low ticks q w d b goes h = rw (← stepped_so _ wait low ticks q w d b goes) h

-- Whether a side has ended, by what it was asked.
module _ (p : host_phase.Phase) where
  pub host_ends : (r : Option host_ending.Ending) → told_end r ≡ end_at p → is_some r ≡ true → ended p ≡ true
  host_ends (Some e) asked q = has_ended (Some e) p asked e refl
  host_ends None asked q = absurd (false≢true q)

  pub host_goes : (r : Option host_ending.Ending) → told_end r ≡ end_at p → is_some r ≡ false → ended p ≡ false
  host_goes None asked q = goes_on None p asked refl
  host_goes (Some e) asked q = absurd (true≢false q)

module _ (p : chip_phase.Phase) where
  pub chip_ends : (r : Option chip_ending.Ending) → chips.told_end r ≡ chips.end_at p → is_some r ≡ true → chip.ended p ≡ true
  chip_ends (Some e) asked q = asked_chip.has_ended (Some e) p asked e refl
  chip_ends None asked q = absurd (false≢true q)

  pub chip_goes : (r : Option chip_ending.Ending) → chips.told_end r ≡ chips.end_at p → is_some r ≡ false → chip.ended p ≡ false
  chip_goes None asked q = asked_chip.listens None p asked refl
  chip_goes (Some e) asked q = absurd (true≢false q)
