-- 01, "Host joined to chip": one pulse, sent by the host and played to the chip.
-- Assumes nothing.
use Rattle.std.specs.Prelude.{Bool, List, ℕ, zero, suc, ◌+◌, ◌-◌, ◌*◌, eqb}
use Rattle.terms.specs.Choice.{when}
use Rattle.terms.specs.Refusals.{Answer, refused, taken}
use Rattle.units.specs.Line.{silence, seen}
use Rattle.units.specs.Units.{loops_in}
use Rattle.units.specs.declared.Seen.{Seen}
use Rattle.units.specs.declared.Seen.TheVariants.{Silence}
use Rattle.bits.specs.Seeing.{sees}
use Rattle.place.specs.Phases as place
use Rattle.host.specs.Step.{host_step}
use Rattle.host.specs.declared.Host.{Host}
use Rattle.host.specs.declared.Sent.{Sent}
use Rattle.phases.specs.Phases as chip
use Rattle.chip.specs.Step.{Reply, Left, left, chip_step}
use Rattle.chip.specs.declared.Chip.{Chip}

-- A host and a chip with its memories, the tick of the last rise and its exact time, and what the chip replied to the last pulse.
pub record State : Type 0 where
  pub host : Host
  pub chip : Chip
  pub ram : List ℕ
  pub eeprom : List ℕ
  pub rise : ℕ
  pub risen : ℕ
  pub reply : Seen

-- A way of measuring: the loops that are counted for some ticks, by the number of the measurement. Pulse n, from 0, has the
-- measurements 2n, of the wait before it, and 2n + 1, of its low.
abbrev pub Measuring : Type 0
Measuring = ℕ → ℕ → ℕ

-- Each count of loops of l ps rounded down, with ticks of p ps.
abbrev pub rounded_down : ℕ → ℕ → Measuring
rounded_down p l n ticks = loops_in ticks p l

-- The loops of the wait before pulse n: the first measures 0.
unfoldable pub waited : Measuring → ℕ → ℕ → ℕ
waited measured n ticks = when (eqb n 0) 0 (measured (n * 2) ticks)

-- The loops of its low.
abbrev pub lasted : Measuring → ℕ → ℕ → ℕ
lasted measured n ticks = measured (n * 2 + 1) ticks

-- A pulse played to the chip: it fell after the last rise, and rose after its fall. A chip that has ended stays silent.
unfoldable pub listened : Measuring → State → Sent → Left
listened measured s sent =
    when (chip.ended s.chip.receiver.listener.phase)
    (left (taken (record { chip = s.chip; reply = silence })) s.ram s.eeprom)
    (chip_step
    s.chip
    s.ram
    s.eeprom
    (waited measured s.host.session.pulses (sent.fall.0 - s.rise))
    (lasted measured s.host.session.pulses (sent.rise.0 - sent.fall.0)))

-- The chip's part of an answer; a chip that refused a step would be as it was, and silent.
abbrev pub replied : Chip → Answer Reply → Reply
replied c (refused n) = record { chip = c; reply = silence }
replied c (taken r) = r

-- Both sides after a pulse.
abbrev pub met : Chip → Sent → Left → State
met c sent l = record {
  host = sent.host;
  chip = (replied c l.answer).chip;
  ram = l.ram;
  eeprom = l.eeprom;
  rise = sent.rise.0;
  risen = sent.risen;
  reply = seen (replied c l.answer).reply;
}

-- Where the host refuses, nothing happens.
abbrev pub sent_to : Measuring → State → Answer Sent → State
sent_to measured s (refused n) = s
sent_to measured s (taken sent) = met s.chip sent (listened measured s sent)

-- What the host's step is given, and what it answers.
abbrev pub sent : List ℕ → State → Answer Sent
sent image s = host_step s.host image (sees s.host.session.place.phase s.host.session.place.index s.reply)

-- One pulse.
unfoldable pub pulsed : Measuring → List ℕ → State → State
pulsed measured image s = sent_to measured s (sent image s)

-- The host has ended.
abbrev pub host_ended : State → Bool
host_ended s = place.ended s.host.session.place.phase

-- Pulses until the host has ended, up to so many.
unfoldable pub played : Measuring → List ℕ → ℕ → State → State
played measured image zero s = s
played measured image (suc n) s = when (host_ended s) s (played measured image n (pulsed measured image s))

-- Before the first pulse.
abbrev pub begun : Host → Chip → List ℕ → List ℕ → State
begun host chip ram eeprom = record { host = host; chip = chip; ram = ram; eeprom = eeprom; rise = 0; risen = 0; reply = Silence }
