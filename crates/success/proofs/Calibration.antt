-- The first two pulses calibrate the chip: whatever the threshold of their lows tells apart, it reads from then on.
-- Assumes nothing.
use mathlib.Core.Bool.{Bool, true, false, true≢false}
use mathlib.Core.List.{List}
use mathlib.Core.Path.{◌≡◌, refl, sym, ap, ◌∙◌, subst}
use Prim.Native.Nat.{ℕ, ◌+◌}
use Rattle.terms.specs.Choice.{when}
use Rattle.terms.proofs.Tests.{when_false}
use Rattle.units.specs.declared.Seen.TheVariants.{Silence}
use Rattle.load.specs.declared.Load.{Load}
use Rattle.follow.specs.Follow.{opened, onward, next}
use Rattle.place.specs.Phases as place
use Rattle.place.specs.declared.Phase.TheVariants as at
use Rattle.phases.specs.Phases as chip
use Rattle.phases.specs.declared.Phase.{Phase}
use Rattle.phases.specs.declared.Phase.TheVariants.{First, Second}
use Rattle.listener.specs.Settled.{settled}
use Rattle.countdown.specs.Countdown.{aligns}
use Rattle.receiver.specs.Hears.{hears}
use Rattle.receiver.specs.declared.Received.{Received}
use Rattle.line.specs.Reading.{threshold_of, reads}
use Rattle.listener.specs.declared.Listener.{Listener}
use Rattle.conversation.specs.Conversation.{Talk, are_in_step, bit_of, place_after, heard_of, passed, Reach, start}
use Rattle.joined.specs.Joined.{State, Measuring, pulsed, host_ended}
use Rattle.success.proofs.Simulation.{talk_of, Meets, wait_of, low_of, Clocking, Ready, Runs, pulsed_passed, pulsed_meets, runs_more, follows}

-- Both before the first pulse, and between the two.
abbrev deaf : Phase → Listener
deaf phase = record { threshold = record { 0 = 0 }; command = 0; size = record { 0 = 0 }; phase = phase }

abbrev pub before : List ℕ → List ℕ → Talk
before ram eeprom = record { place = opened at.Calibration; listener = deaf First; ram = ram; eeprom = eeprom; reply = Silence }

abbrev between : ℕ → List ℕ → List ℕ → Talk
between d ram eeprom = record {
  place = record { phase = at.Calibration; index = 1 };
  listener = deaf (Second (record { 0 = d }));
  ram = ram;
  eeprom = eeprom;
  reply = Silence;
}

-- What is known of both in the calibration.
record Calibrating (a : Talk) : Type 0 where
  host : place.ended a.place.phase ≡ false
  chip : chip.ended a.listener.phase ≡ false
  in_step : are_in_step a.place.phase a.listener.phase ≡ true
  unaligned : aligns a.listener.phase ≡ false

in_first : (ram eeprom : List ℕ) → Calibrating (before ram eeprom)
in_first ram eeprom = record { host = refl; chip = refl; in_step = refl; unaligned = refl }

in_second : (d : ℕ) (ram eeprom : List ℕ) → Calibrating (between d ram eeprom)
in_second d ram eeprom = record { host = refl; chip = refl; in_step = refl; unaligned = refl }

module _ (measured : Measuring) (image : List ℕ) (load : Load) where
  -- One pulse by its low and the bit that it reads as.
  abbrev heard_by : Talk → ℕ → Bool → Talk
  heard_by a low bit = passed a (place_after load a) (heard_of a low bit)

  first_heard : (ram eeprom : List ℕ) (low : ℕ) (bit : Bool) → heard_by (before ram eeprom) low bit ≡ between low ram eeprom
  unfolding next onward settled when
  first_heard ram eeprom low bit = refl

  second_heard : (ram eeprom : List ℕ) (d low : ℕ) (bit : Bool) → heard_by (between d ram eeprom) low bit ≡ start (threshold_of d low) ram eeprom
  unfolding next onward settled when
  second_heard ram eeprom d low bit = refl

  module _ (Low : Bool → ℕ → Type 0) (Clocked : State → Type 0)
      (clock : (s : State) (m : Meets measured image load s) (going : host_ended s ≡ false)
      (listens : chip.ended s.chip.receiver.listener.phase ≡ false)
      → are_in_step s.host.session.place.phase s.chip.receiver.listener.phase ≡ true → Clocked s
      → Clocking measured image load Low Clocked s m going listens)
      (right : (d₁ d₂ x : ℕ) (b : Bool) → Low true d₁ → Low false d₂ → Low b x → reads (threshold_of d₁ d₂) x ≡ b) where
    -- A pulse of the calibration.
    module _ (s : State) (m : Meets measured image load s) (c : Clocked s) (a : Talk) (e : talk_of s ≡ a) (o : Calibrating a) where
      going : host_ended s ≡ false
      going = ap (λ (x : Talk). place.ended x.place.phase) e ∙ o.host

      listens : chip.ended s.chip.receiver.listener.phase ≡ false
      listens = ap (λ (x : Talk). chip.ended x.listener.phase) e ∙ o.chip

      abbrev low : ℕ
      low = low_of measured image load s m going listens

      abbrev measuring : Clocking measured image load Low Clocked s m going listens
      measuring =
          clock s m going listens (ap (λ (x : Talk). are_in_step x.place.phase x.listener.phase) e ∙ o.in_step) c

      then_clocked : Clocked (pulsed measured image s)
      then_clocked =
          measuring.next (λ q.
          let none : aligns s.chip.receiver.listener.phase ≡ false = ap (λ (x : Talk). aligns x.listener.phase) e ∙ o.unaligned in
          absurd (true≢false (sym q ∙ none)))

      low_of_lem : Low (bit_of load image a) low
      low_of_lem = subst (λ (x : Talk). Low (bit_of load image x) low) e measuring.low

      hears_low : (hears s.chip.receiver (wait_of measured image load s m going listens) low).heard
          ≡ heard_of (talk_of s) low (reads s.chip.receiver.listener.threshold.0 low)
      unfolding hears
      hears_low = ap (λ (x : Received). x.heard) (when_false _ _ measuring.timely)

      then_at : talk_of (pulsed measured image s) ≡ heard_by a low (reads s.chip.receiver.listener.threshold.0 low)
      then_at =
          pulsed_passed measured image load s m going listens _ hears_low
          ∙ ap (λ (x : Talk). heard_by x low (reads s.chip.receiver.listener.threshold.0 low)) e

      then_meets : Meets measured image load (pulsed measured image s)
      then_meets = pulsed_meets measured image load s m going listens _ hears_low

    -- Both, and then the conversation from their threshold on.
    pub record Calibrated (n : ℕ) (s : State) (b : ℕ → Talk) : Type 0 where
      pub threshold : ℕ
      pub runs : Runs measured image load Low Clocked clock (n + 1 + 1) s (b threshold)

    module _ (s : State) (ram eeprom : List ℕ) (m : Meets measured image load s) (c : Clocked s) (e : talk_of s ≡ before ram eeprom) where
      abbrev s₁ : State
      s₁ = pulsed measured image s

      abbrev d₁ : ℕ
      d₁ = low s m c (before ram eeprom) e (in_first ram eeprom)

      at_second : talk_of s₁ ≡ between d₁ ram eeprom
      at_second =
          then_at s m c (before ram eeprom) e (in_first ram eeprom)
          ∙ first_heard ram eeprom d₁ (reads s.chip.receiver.listener.threshold.0 d₁)

      meets_second : Meets measured image load s₁
      meets_second = then_meets s m c (before ram eeprom) e (in_first ram eeprom)

      clocked_second : Clocked s₁
      clocked_second = then_clocked s m c (before ram eeprom) e (in_first ram eeprom)

      abbrev d₂ : ℕ
      d₂ = low s₁ meets_second clocked_second (between d₁ ram eeprom) at_second (in_second d₁ ram eeprom)

      abbrev s₂ : State
      s₂ = pulsed measured image s₁

      at_start : talk_of s₂ ≡ start (threshold_of d₁ d₂) ram eeprom
      at_start =
          then_at s₁ meets_second clocked_second (between d₁ ram eeprom) at_second (in_second d₁ ram eeprom)
          ∙ second_heard ram eeprom d₁ d₂ (reads s₁.chip.receiver.listener.threshold.0 d₂)

      ready : Ready measured image load Low Clocked s₂
      ready = record {
        meets = then_meets s₁ meets_second clocked_second (between d₁ ram eeprom) at_second (in_second d₁ ram eeprom);
        tells = λ b x n.
            ap (λ (a : Talk). reads a.listener.threshold.0 x) at_start
            ∙ right d₁ d₂ x b (low_of_lem s m c (before ram eeprom) e (in_first ram eeprom))
            (low_of_lem s₁ meets_second clocked_second (between d₁ ram eeprom) at_second (in_second d₁ ram eeprom)) n;
        clocked = then_clocked s₁ meets_second clocked_second (between d₁ ram eeprom) at_second (in_second d₁ ram eeprom);
      }

      pub calibrates : (n : ℕ) (b : ℕ → Talk) → ((threshold : ℕ) → Reach load image n (start threshold ram eeprom) (b threshold))
          → Calibrated n s b
      calibrates n b reach = record {
        threshold = threshold_of d₁ d₂;
        runs =
            let last = b (threshold_of d₁ d₂) in
            runs_more measured image load Low Clocked clock (n + 1) s last m.sound (going s m c (before ram eeprom) e (in_first ram eeprom))
            (listens s m c (before ram eeprom) e (in_first ram eeprom))
            (runs_more measured image load Low Clocked clock n s₁ last meets_second.sound
            (going s₁ meets_second clocked_second (between d₁ ram eeprom) at_second (in_second d₁ ram eeprom))
            (listens s₁ meets_second clocked_second (between d₁ ram eeprom) at_second (in_second d₁ ram eeprom))
            (follows measured image load Low Clocked clock n (start (threshold_of d₁ d₂) ram eeprom) last (reach (threshold_of d₁ d₂)) s₂ ready at_start));
      }
