-- The run follows the conversation: where each low may be measured as its bit and no time-out is met, one pulse of the run is one pulse
-- of the conversation.
-- Assumes nothing.
use mathlib.Core.Bool.{Bool, true, false}
use mathlib.Core.List.{List}
use mathlib.Core.Path.{◌≡◌, refl, sym, ap, ◌∙◌, subst}
use Prim.Native.Nat.{ℕ, ◌+◌, ◌-◌, ◌<◌}
use native.Mathlib.Numerals.{add-one}
use native.Mathlib.Omega.{arith}
use Rattle.terms.proofs.Tests.{when_false}
use Rattle.units.specs.Line.{told, seen}
use Rattle.units.specs.declared.Loops.{Loops}
use Rattle.units.specs.declared.Seen.{Seen}
use Rattle.units.proofs.Lines.{seen_told}
use Rattle.load.specs.declared.Load.{Load}
use Rattle.follow.specs.Follow.{next}
use Rattle.place.specs.declared.Place.{Place}
use Rattle.phases.specs.Phases as chip
use Rattle.listener.specs.Settled.{settled}
use Rattle.receiver.specs.Hears.{hears}
use Rattle.receiver.specs.declared.Received.{Received}
use Rattle.countdown.specs.Countdown.{late, aligns}
use Rattle.line.specs.Reading.{reads}
use Rattle.listener.specs.declared.Heard.{Heard}
use Rattle.eeprom.specs.declared.Fault.{Fault}
use Rattle.eeprom.specs.declared.Fault.TheVariants.{None}
use Rattle.chip.specs.Work.{done}
use Rattle.chip.specs.Step.{pulse}
use Rattle.conversation.specs.Conversation.{Talk, are_in_step, bit_of, place_after, heard_of, passed, talked, Open, Reach, stay, step}
use Rattle.conversation.proofs.Pulses.{sound_stays}
use Rattle.joined.specs.Ends.{after, Unrefused}
use Rattle.bits.specs.Seeing.{sees}
use Rattle.joined.specs.Joined.{State, Measuring, waited, lasted, listened, met, pulsed, host_ended}
use Rattle.joined.proofs.Budget.{before_all}
use Rattle.joined.proofs.Sound.{Sound, shot, chip_plays, pulsed_met, pulsed_sound, pulsed_count, unrefused_here}
use Rattle.success.proofs.Looking.{sees_enough}
use Rattle.success.proofs.Thresholds.{heard_same, settled_same}

-- The conversation at a state of the run.
abbrev pub talk_of : State → Talk
talk_of s =
    record { place = s.host.session.place; listener = s.chip.receiver.listener; ram = s.ram; eeprom = s.eeprom; reply = s.reply }

module _ (measured : Measuring) (image : List ℕ) (load : Load) where
  -- What is known of a state, whatever its clock.
  pub record Meets (s : State) : Type 0 where
    pub sound : Sound image s
    pub loaded : s.host.session.load ≡ load
    pub faultless : s.chip.fault ≡ None

  module _ (s : State) (m : Meets s) (going : host_ended s ≡ false) (listens : chip.ended s.chip.receiver.listener.phase ≡ false) where
    -- How the next pulse is measured.
    abbrev pub wait_of : ℕ
    wait_of = waited measured s.host.session.pulses ((shot measured image s m.sound going).fall.0 - s.rise)

    abbrev pub low_of : ℕ
    low_of =
        lasted measured s.host.session.pulses
        ((shot measured image s m.sound going).rise.0 - (shot measured image s m.sound going).fall.0)

    abbrev pub after_it : Received → State
    after_it r = met s.chip (shot measured image s m.sound going) (pulse s.chip s.ram s.eeprom r)

    pub pulsed_so : pulsed measured image s ≡ after_it (hears s.chip.receiver wait_of low_of)
    unfolding listened
    pulsed_so =
        pulsed_met measured image s m.sound going
        ∙ ap (met s.chip (shot measured image s m.sound going))
        (when_false _ _ listens ∙ sym (chip_plays measured image s m.sound going listens wait_of low_of))

    module _ (h : Heard) (e : (hears s.chip.receiver wait_of low_of).heard ≡ h) where
      -- The state after it, as the conversation has it.
      abbrev shaped : Heard → Place → Fault → Seen → Talk
      shaped x place fault reply = record {
        place = place;
        listener = settled x (done fault x.event s.ram s.eeprom).done.good;
        ram = (done fault x.event s.ram s.eeprom).ram;
        eeprom = (done fault x.event s.ram s.eeprom).eeprom;
        reply = reply;
      }

      pub pulsed_passed : talk_of (pulsed measured image s) ≡ passed (talk_of s) (place_after load (talk_of s)) h
      pulsed_passed =
          let phase = s.host.session.place.phase in
          let i = s.host.session.place.index in
          let place = ap (λ (x : Load). next x phase i (sees phase i s.reply)) m.loaded ∙ sees_enough load phase i s.reply in
          ap talk_of pulsed_so
          ∙ ap (λ (x : Heard). shaped x (next s.host.session.load phase i (sees phase i s.reply)) s.chip.fault (seen (told x.reply))) e
          ∙ ap (λ (x : Place). shaped h x s.chip.fault (seen (told h.reply))) place
          ∙ ap (λ (x : Fault). shaped h (place_after load (talk_of s)) x (seen (told h.reply))) m.faultless
          ∙ ap (shaped h (place_after load (talk_of s)) None) (seen_told h.reply)

      pub pulsed_meets : Meets (pulsed measured image s)
      pulsed_meets = record {
        sound = pulsed_sound measured image s m.sound going;
        loaded = ap (λ (x : State). x.host.session.load) pulsed_so ∙ m.loaded;
        faultless =
            ap (λ (x : State). x.chip.fault) pulsed_so
            ∙ ap (λ (x : Heard). (done s.chip.fault x.event s.ram s.eeprom).done.fault) e
            ∙ ap (λ (x : Fault). (done x h.event s.ram s.eeprom).done.fault) m.faultless
            ∙ sound_stays h.event s.ram s.eeprom;
      }

  -- What a bit may measure as, and what is known of the clock.
  module _ (Low : Bool → ℕ → Type 0) (Clocked : State → Type 0) where
    -- The next pulse is measured well, and the clock goes on if it is read right where the chip aligns.
    pub record Clocking (s : State) (m : Meets s) (going : host_ended s ≡ false) (listens : chip.ended s.chip.receiver.listener.phase ≡ false)
        : Type 0 where
      pub timely : late s.chip.receiver.left.0 (wait_of s m going listens) (low_of s m going listens) ≡ false
      pub low : Low (bit_of load image (talk_of s)) (low_of s m going listens)
      pub next : (aligns s.chip.receiver.listener.phase ≡ true
          → reads s.chip.receiver.listener.threshold.0 (low_of s m going listens) ≡ bit_of load image (talk_of s))
          → Clocked (pulsed measured image s)

    -- A calibrated chip, whose threshold tells a 1 from a 0.
    pub record Ready (s : State) : Type 0 where
      pub meets : Meets s
      pub tells : (b : Bool) (x : ℕ) → Low b x → reads s.chip.receiver.listener.threshold.0 x ≡ b
      pub clocked : Clocked s

    module _ (clock : (s : State) (m : Meets s) (going : host_ended s ≡ false) (listens : chip.ended s.chip.receiver.listener.phase ≡ false)
        → are_in_step s.host.session.place.phase s.chip.receiver.listener.phase ≡ true → Clocked s → Clocking s m going listens) where
      module _ (s : State) (r : Ready s) (o : Open (talk_of s)) where
        abbrev bit : Bool
        bit = bit_of load image (talk_of s)

        abbrev measuring : Clocking s r.meets o.host o.chip
        measuring = clock s r.meets o.host o.chip o.in_step r.clocked

        hears_bit : (hears s.chip.receiver (wait_of s r.meets o.host o.chip) (low_of s r.meets o.host o.chip)).heard
            ≡ heard_of (talk_of s) 0 bit
        unfolding hears
        hears_bit =
            ap (λ (x : Received). x.heard) (when_false _ _ measuring.timely)
            ∙ ap (heard_of (talk_of s) (low_of s r.meets o.host o.chip)) (r.tells bit _ measuring.low)
            ∙ o.calibrated _ bit

        pub talks_on : talk_of (pulsed measured image s) ≡ talked load image (talk_of s)
        unfolding talked
        talks_on = pulsed_passed s r.meets o.host o.chip (heard_of (talk_of s) 0 bit) hears_bit

        same_threshold : (pulsed measured image s).chip.receiver.listener.threshold ≡ s.chip.receiver.listener.threshold
        unfolding talked
        same_threshold =
            ap (λ (a : Talk). a.listener.threshold) talks_on
            ∙ settled_same (heard_of (talk_of s) 0 bit) _
            ∙ heard_same s.chip.receiver.listener 0 bit s.chip.receiver.listener.phase o.calibrated

        pub ready_on : Ready (pulsed measured image s)
        ready_on = record {
          meets = pulsed_meets s r.meets o.host o.chip (heard_of (talk_of s) 0 bit) hears_bit;
          tells = λ b x n. ap (λ (d : Loops). reads d.0 x) same_threshold ∙ r.tells b x n;
          clocked = measuring.next (λ e. r.tells bit _ measuring.low);
        }

      -- So many pulses of the run, neither side ending before the last.
      pub record Runs (n : ℕ) (s : State) (b : Talk) : Type 0 where
        pub host_goes : (k : ℕ) → k < n → host_ended (after measured image k s) ≡ false
        pub chip_goes : (k : ℕ) → k < n → chip.ended (after measured image k s).chip.receiver.listener.phase ≡ false
        pub unrefused : (k : ℕ) → k < n → Unrefused measured image (after measured image k s)
        pub ends : talk_of (after measured image n s) ≡ b
        pub counted : (after measured image n s).host.session.pulses ≡ s.host.session.pulses + n

      stays : (s : State) → Runs 0 s (talk_of s)
      unfolding after
      stays s = record {
        host_goes = λ k h. absurd (omega (arith, h));
        chip_goes = λ k h. absurd (omega (arith, h));
        unrefused = λ k h. absurd (omega (arith, h));
        ends = refl;
        counted = omega arith;
      }

      after_one : (n : ℕ) (s : State) → after measured image (n + 1) s ≡ after measured image n (pulsed measured image s)
      unfolding after
      after_one n s = ap (λ (k : ℕ). after measured image k s) (add-one n)

      -- One pulse that both sides take, and the rest.
      pub runs_more : (n : ℕ) (s : State) (b : Talk) → Sound image s → host_ended s ≡ false → chip.ended s.chip.receiver.listener.phase ≡ false
          → Runs n (pulsed measured image s) b → Runs (n + 1) s b
      runs_more n s b k going listens rest = record {
        host_goes = before_all measured image s n (λ (x : State). host_ended x ≡ false) going rest.host_goes;
        chip_goes = before_all measured image s n (λ (x : State). chip.ended x.chip.receiver.listener.phase ≡ false) listens rest.chip_goes;
        unrefused = before_all measured image s n (Unrefused measured image) (unrefused_here measured image s k going) rest.unrefused;
        ends = ap talk_of (after_one n s) ∙ rest.ends;
        counted =
            let one : (pulsed measured image s).host.session.pulses ≡ s.host.session.pulses + 1 = pulsed_count measured image s k going in
            let more : s.host.session.pulses + 1 + n ≡ s.host.session.pulses + (n + 1) = omega arith in
            ap (λ (x : State). x.host.session.pulses) (after_one n s) ∙ rest.counted ∙ ap (λ (k : ℕ). k + n) one ∙ more;
      }

      pub follows : (n : ℕ) (a b : Talk) → Reach load image n a b → (s : State) → Ready s → talk_of s ≡ a → Runs n s b
      follows _ a _ (stay _) s r e = subst (Runs 0 s) e (stays s)
      follows _ a b (step n _ _ o rest) s r e =
          let here : Open (talk_of s) = subst Open (sym e) o in
          runs_more n s b r.meets.sound here.host here.chip
          (follows n (talked load image a) b rest (pulsed measured image s) (ready_on s r here)
          (talks_on s r here ∙ ap (talked load image) e))
