-- A pulse that is played to a chip within its ranges: where it leads, once it is known whether it is late and what is heard.
-- Assumes nothing.
use mathlib.Core.Bool.{true, false}
use mathlib.Core.Path.{◌≡◌, sym, ap, ◌∙◌}
use Prim.Native.Nat.{ℕ, ◌+◌, ◌-◌}
use native.Mathlib.Omega.{arith}
use lib.Dec.{leb}
use borrow.Author.Tests.{lt-leb, le-leb}
use Rattle.terms.proofs.Tests.{when_true, when_false}
use Rattle.terms.proofs.Refusals.{agrees}
use Rattle.phases.specs.Phases.{ended}
use Rattle.phases.specs.declared.Phase.{Phase}
use Rattle.line.specs.Reading.{distance_of}
use Rattle.margins.specs.Margins.{with_pulse}
use Rattle.margins.specs.declared.Margins.{Margins}
use Rattle.listener.specs.Heard.{heard}
use Rattle.listener.specs.declared.Heard.{Heard}
use Rattle.listener.specs.declared.Listener.{Listener}
use Rattle.countdown.specs.Countdown.{late, counting}
use Rattle.receiver.specs.Hears.{counted, hears}
use Rattle.receiver.specs.Late.{after_late}
use Rattle.receiver.specs.declared.Received.{Received}
use Rattle.chip.specs.Step.{Left, played, pulse, chip_step}
use Rattle.chip.specs.Work.{done}
use Rattle.chip.proofs.Steps.{step_played}
use Rattle.rules.specs.Pulses.{Pulse, phase, threshold, countdown, fault, At, Late, Timely, rest, bit_read, margins}

module _ (x : Pulse) where
  abbrev pub listener : Listener
  listener = x.chip.receiver.listener

  -- What was heard, with what is then left of the countdown.
  abbrev pub received : Heard → ℕ → Received
  received h n = record { heard = h; left = record { 0 = n }; margins = margins x }

  -- What the step leaves then.
  abbrev pub leaves : Heard → ℕ → Left
  leaves h n = played (received h n) (done (fault x) h.event x.ram x.eeprom)

  abbrev pub stepped : Left
  stepped = chip_step x.chip x.ram x.eeprom x.wait x.low

  -- The margins as they are kept, and with the pulse.
  abbrev before : Margins
  before = x.chip.receiver.margins

  abbrev with_it : Margins
  with_it = with_pulse before (phase x) (bit_read x) (distance_of (threshold x) x.low)

  plays : ended (phase x) ≡ false → stepped ≡ pulse x.chip x.ram x.eeprom (hears x.chip.receiver x.wait x.low)
  plays going =
      sym (step_played x.chip x.ram x.eeprom x.wait x.low
      (agrees _ _ x.ram_size, (agrees _ _ x.eeprom_size, (x.within, (going, tt)))))

  module _ (p : Phase) (at : At x p) (going : ended p ≡ false) (h : Heard) (n : ℕ) (left : counting p h.listener.phase (rest x) ≡ n) where
    plays_so : hears x.chip.receiver x.wait x.low ≡ received h (counting p h.listener.phase (rest x)) → stepped ≡ leaves h n
    plays_so e = plays (ap ended at ∙ going) ∙ ap (pulse x.chip x.ram x.eeprom) (e ∙ ap (received h) left)

    pub on_time : Timely x → heard listener p x.low (bit_read x) ≡ h → stepped ≡ leaves h n
    unfolding hears late
    on_time t e =
        let early : leb (countdown x) (x.wait + x.low) ≡ false = lt-leb (countdown x) (x.wait + x.low) t in
        let drawn : countdown x - x.wait - x.low ≡ countdown x - (x.wait + x.low) = omega arith in
        let spent : countdown x - x.wait - x.low ≡ rest x = drawn ∙ sym (when_false _ _ early) in
        let now : with_it ≡ margins x = sym (when_false _ _ early) in
        plays_so
        (when_false _ _ early
        ∙ ap (λ (q : Phase). counted (heard listener q x.low (bit_read x)) q (countdown x - x.wait - x.low) with_it) at
        ∙ ap (λ (g : Heard). counted g p (countdown x - x.wait - x.low) with_it) e
        ∙ ap (λ (m : ℕ). counted h p m with_it) spent
        ∙ ap (counted h p (rest x)) now)

    pub too_late : Late x → after_late listener p ≡ h → stepped ≡ leaves h n
    unfolding hears late
    too_late t e =
        let reached : leb (countdown x) (x.wait + x.low) ≡ true = le-leb (countdown x) (x.wait + x.low) t in
        let spent : countdown x ≡ rest x = sym (when_true _ (countdown x - (x.wait + x.low)) reached) in
        let now : before ≡ margins x = sym (when_true before with_it reached) in
        let on_time = counted (heard listener (phase x) x.low (bit_read x)) (phase x) (countdown x - x.wait - x.low) with_it in
        plays_so
        (when_true _ on_time reached
        ∙ ap (λ (q : Phase). counted (after_late listener q) q (countdown x) before) at
        ∙ ap (λ (g : Heard). counted g p (countdown x) before) e
        ∙ ap (λ (m : ℕ). counted h p m before) spent
        ∙ ap (counted h p (rest x)) now)
