-- 01, "Host joined to chip": the conversation of host and chip once the chip is calibrated, without time. The bit that is sent is the bit
-- that is read, no time-out is met, and the EEPROM has no fault.
-- Assumes nothing.
use Rattle.std.specs.Prelude.{Bool, true, false, not, List, ◌≡◌, ℕ, ◌+◌, length}
use Rattle.units.specs.declared.Seen.{Seen}
use Rattle.units.specs.declared.Seen.TheVariants.{Silence}
use Rattle.load.specs.Load.{load_of}
use Rattle.load.specs.declared.Load.{Load}
use Rattle.bits.specs.Bits.{sent_bit}
use Rattle.follow.specs.Follow.{opened, next}
use Rattle.place.specs.Phases as host
use Rattle.place.specs.declared.Ending.TheVariants.{Done}
use Rattle.place.specs.declared.Phase as place
use Rattle.place.specs.declared.Phase.TheVariants as at
use Rattle.place.specs.declared.Place.{Place}
use Rattle.eeprom.specs.declared.Fault.TheVariants.{None}
use Rattle.phases.specs.Phases as chip
use Rattle.phases.specs.declared.Phase.{Phase}
use Rattle.phases.specs.declared.Phase.TheVariants as to
use Rattle.listener.specs.Heard.{heard}
use Rattle.listener.specs.Settled.{settled}
use Rattle.listener.specs.declared.Heard.{Heard}
use Rattle.listener.specs.declared.Listener.{Listener}
use Rattle.chip.specs.Work.{Worked, done}
use Rattle.conversation.specs.Final.{ram_after, eeprom_after, chip_ending, pulses_after}

-- Where both stand between two pulses: the host's place, the chip with its memories, and what the chip replied to the pulse before.
pub record Talk : Type 0 where
  pub place : Place
  pub listener : Listener
  pub ram : List ℕ
  pub eeprom : List ℕ
  pub reply : Seen

-- The bit that the host sends, and its next place: it sees the chip's reply.
abbrev pub bit_of : Load → List ℕ → Talk → Bool
bit_of load image a = sent_bit load image a.place.phase a.place.index

abbrev pub place_after : Load → Talk → Place
place_after load a = next load a.place.phase a.place.index a.reply

-- What the chip makes of a bit, by its low where it still calibrates.
abbrev pub heard_of : Talk → ℕ → Bool → Heard
heard_of a low bit = heard a.listener a.listener.phase low bit

-- The work of that.
abbrev pub work_of : Talk → Heard → Worked
work_of a h = done None h.event a.ram a.eeprom

-- Both after a pulse that leads the host to a place and the chip to what it heard.
abbrev pub passed : Talk → Place → Heard → Talk
passed a place h = record {
  place = place;
  listener = settled h (work_of a h).done.good;
  ram = (work_of a h).ram;
  eeprom = (work_of a h).eeprom;
  reply = h.reply;
}

-- One pulse.
unfoldable pub talked : Load → List ℕ → Talk → Talk
talked load image a = passed a (place_after load a) (heard_of a 0 (bit_of load image a))

-- The host waits for an acknowledgement.
abbrev pub waits : place.Phase → Bool
waits at.Calibration = false
waits at.Handshake = false
waits at.Connection = false
waits (at.Version v) = false
waits at.Command = false
waits at.Zeros = false
waits at.Size = false
waits at.Image = false
waits (at.Wait a) = true
waits (at.Ended e) = false

-- Both stand in step: where the chip aligns the host waits, and where the chip reads a bit it doesn't.
abbrev pub are_in_step : place.Phase → Phase → Bool
are_in_step host to.First = not (waits host)
are_in_step host (to.Second d) = not (waits host)
are_in_step host (to.Handshake k) = not (waits host)
are_in_step host (to.Answer r) = true
are_in_step host (to.Rest r) = true
are_in_step host (to.Command n bits) = not (waits host)
are_in_step host (to.Size n bits) = not (waits host)
are_in_step host (to.Long n k bits) = not (waits host)
are_in_step host (to.Align a) = waits host
are_in_step host (to.Ended e) = true

-- Neither has ended, they stand in step, and the chip is calibrated: no low counts by its length.
pub record Open (a : Talk) : Type 0 where
  pub host : host.ended a.place.phase ≡ false
  pub chip : chip.ended a.listener.phase ≡ false
  pub in_step : are_in_step a.place.phase a.listener.phase ≡ true
  pub calibrated : (low : ℕ) (bit : Bool) → heard_of a low bit ≡ heard_of a 0 bit

-- So many pulses lead from one to the other, and neither has ended before.
pub data Reach (load : Load) (image : List ℕ) : ℕ → Talk → Talk → Type 0 where
  stay : (a : Talk) → Reach load image 0 a a
  step : (n : ℕ) (a b : Talk) → Open a → Reach load image n (talked load image a) b → Reach load image (n + 1) a b

-- Both after the calibration.
abbrev pub start : ℕ → List ℕ → List ℕ → Talk
start threshold ram eeprom = record {
  place = opened at.Handshake;
  listener = record { threshold = record { 0 = threshold }; command = 0; size = record { 0 = 0 }; phase = to.Handshake 1 };
  ram = ram;
  eeprom = eeprom;
  reply = Silence;
}

-- Host and chip finish with success: after so many pulses the host has ended 0 and the chip as its command says, and they leave the
-- memories that 01 names.
pub record Success (command : ℕ) (image : List ℕ) (threshold : ℕ) (ram eeprom : List ℕ) : Type 0 where
  pub end : Talk
  pub reached : Reach (load_of command image) image (pulses_after command (length image)) (start threshold ram eeprom) end
  pub host : end.place ≡ opened (at.Ended Done)
  pub chip : end.listener.phase ≡ to.Ended (chip_ending command)
  pub ram_left : end.ram ≡ ram_after command image ram
  pub eeprom_left : end.eeprom ≡ eeprom_after command image eeprom
