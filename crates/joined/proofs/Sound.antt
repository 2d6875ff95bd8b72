-- What holds from a run's start on: both records lie in their ranges and both memories keep their sizes, so that neither side refuses a
-- pulse before the host has ended.
-- Assumes nothing.
use mathlib.Core.Bool.{false}
use mathlib.Core.List.{List}
use mathlib.Core.Path.{◌≡◌, sym, ap, subst}
use Prim.Native.Nat.{ℕ, ◌+◌}
use lib.ListN.{length}
use Rattle.terms.specs.Refusals.{refused, taken}
use Rattle.terms.proofs.Refusals.{not_both, clear_taken}
use Rattle.terms.proofs.Tests.{when_elim}
use Rattle.load.specs.Load.{other_image}
use Rattle.session.specs.Step.{pulse_of}
use Rattle.session.proofs.Within.{session_within}
use Rattle.host.specs.Step.{host_rows, host_step, timed}
use Rattle.host.specs.declared.Sent.{Sent}
use Rattle.host.proofs.Kept.{Kept, step_keeps}
use Rattle.phases.specs.Phases as chip
use Rattle.receiver.specs.Hears.{hears}
use Rattle.chip.specs.Step.{Left, chip_step, pulse}
use Rattle.chip.specs.Reached.{Reached, stepped}
use Rattle.chip.proofs.Sound.{step_plays, step_ram_size, step_eeprom_size, step_unrefused}
use Rattle.joined.specs.Ends.{Unrefused}
use Rattle.bits.specs.Seeing.{sees}
use Rattle.joined.specs.Joined.{State, Measuring, listened, replied, met, sent_to, sent, pulsed, host_ended}

-- What is known of both sides between two pulses.
pub record Sound (image : List ℕ) (s : State) : Type 0 where
  pub kept : Kept s.host
  pub lent : other_image s.host.session.load image ≡ false
  pub reached : Reached s.chip
  pub ram_size : length s.ram ≡ 32768
  pub eeprom_size : length s.eeprom ≡ 32768

module _ (measured : Measuring) (image : List ℕ) (s : State) (k : Sound image s) (going : host_ended s ≡ false) where
  -- The pulse that the host sends.
  abbrev pub shot : Sent
  shot =
      timed s.host
      (pulse_of s.host.session image (sees s.host.session.place.phase s.host.session.place.index s.reply))

  pub host_sends : sent image s ≡ taken shot
  unfolding host_step
  host_sends =
      clear_taken shot (host_rows s.host image)
      (k.kept.own, ((session_within s.host.session).1 k.kept.within, (going, (k.lent, tt))))

  -- What is said of what the chip leaves.
  record Fine (l : Left) : Type 0 where
    pub reached : Reached (replied s.chip l.answer).chip
    pub ram_size : length l.ram ≡ 32768
    pub eeprom_size : length l.eeprom ≡ 32768
    pub unrefused : (n : ℕ) → l.answer ≡ refused n → ⊥

  pub chip_plays : chip.ended s.chip.receiver.listener.phase ≡ false → (wait low : ℕ)
      → pulse s.chip s.ram s.eeprom (hears s.chip.receiver wait low) ≡ chip_step s.chip s.ram s.eeprom wait low
  chip_plays e wait low = step_plays s.chip s.ram s.eeprom k.reached k.ram_size k.eeprom_size e wait low

  plays_fine : chip.ended s.chip.receiver.listener.phase ≡ false → (wait low : ℕ) → Fine (chip_step s.chip s.ram s.eeprom wait low)
  plays_fine e wait low = record {
    reached =
        let plays = chip_plays e wait low in
        subst (λ (l : Left). Reached (replied s.chip l.answer).chip) plays (stepped s.chip s.ram s.eeprom wait low _ _ _ k.reached (sym plays));
    ram_size = step_ram_size s.chip s.ram s.eeprom k.reached k.ram_size k.eeprom_size e wait low;
    eeprom_size = step_eeprom_size s.chip s.ram s.eeprom k.reached k.ram_size k.eeprom_size e wait low;
    unrefused = step_unrefused s.chip s.ram s.eeprom k.reached k.ram_size k.eeprom_size e wait low;
  }

  listened_fine : Fine (listened measured s shot)
  unfolding listened
  listened_fine =
      when_elim
      Fine
      (chip.ended s.chip.receiver.listener.phase)
      _
      _
      (λ e. record {
        reached = k.reached;
        ram_size = k.ram_size;
        eeprom_size = k.eeprom_size;
        unrefused = λ n q. not_both (sym q);
      })
      (λ e. plays_fine e _ _)

  pub pulsed_met : pulsed measured image s ≡ met s.chip shot (listened measured s shot)
  unfolding pulsed
  pulsed_met = ap (sent_to measured s) host_sends

  pub pulsed_sound : Sound image (pulsed measured image s)
  pulsed_sound =
      subst (Sound image) (sym pulsed_met) (record {
        kept = step_keeps s.host image _ shot host_sends;
        lent = k.lent;
        reached = listened_fine.reached;
        ram_size = listened_fine.ram_size;
        eeprom_size = listened_fine.eeprom_size;
      })

  pub pulsed_count : (pulsed measured image s).host.session.pulses ≡ s.host.session.pulses + 1
  pulsed_count = ap (λ (x : State). x.host.session.pulses) pulsed_met

  pub unrefused_here : Unrefused measured image s
  unrefused_here = record { pulse = shot; by_host = host_sends; by_chip = λ e n q. listened_fine.unrefused n q }
