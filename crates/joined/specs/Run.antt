-- 01, "Host joined to chip" and the lines of `planned`, and 02, "Four" and "Six": a whole run.
-- Assumes nothing.
use Rattle.std.specs.Prelude.{List, ℕ, Result, Ok, Err}
use Rattle.terms.specs.Refusals.{Answer, refused, taken, number}
use Rattle.terms.specs.declared.Refusal.{Refusal}
use Rattle.units.specs.declared.Seen.{Seen}
use Rattle.place.specs.Endings as place
use Rattle.host.specs.Step.{host_start}
use Rattle.host.specs.declared.Host.{Host}
use Rattle.host.specs.declared.Sent.{Sent}
use Rattle.phases.specs.Endings as chips
use Rattle.margins.specs.Margins as margins
use Rattle.eeprom.specs.declared.Fault.{Fault}
use Rattle.chip.specs.Step.{chip_start}
use Rattle.chip.specs.declared.Chip.{Chip}
use Rattle.ticks.specs.declared.PhaseTicks.{PhaseTicks}
use Rattle.joined.specs.Joined.{State, Measuring, rounded_down, played, begun}
use Rattle.joined.specs.declared.Joined.{Joined}
use Rattle.joined.specs.declared.Report.{Report}

-- What a run comes to: pulses sent, bits 1, bits 0, the tick of the last rise and its exact time, the ticks of each phase, where host and
-- chip stand, and the nearest low that the chip read on each side.
pub record Outcome : Type 0 where
  pub pulses : ℕ
  pub ones : ℕ
  pub zeros : ℕ
  pub ticks : ℕ
  pub risen : ℕ
  pub phases : PhaseTicks
  pub host : place.End
  pub chip : chips.End
  pub nearest : margins.Told

abbrev pub outcome : Host → Chip → ℕ → ℕ → Outcome
outcome host chip rise risen = record {
  pulses = host.session.pulses;
  ones = host.session.ones;
  zeros = host.session.zeros;
  ticks = rise;
  risen = risen;
  phases = host.phases;
  host = place.end_at host.session.place.phase;
  chip = chips.end_at chip.receiver.listener.phase;
  nearest = margins.nearest chip.receiver.margins;
}

-- What a run leaves: its answer, and both memories.
pub record Left : Type 0 where
  pub answer : Answer Outcome
  pub ram : List ℕ
  pub eeprom : List ℕ

abbrev pub left : Answer Outcome → List ℕ → List ℕ → Left
left answer ram eeprom = record { answer = answer; ram = ram; eeprom = eeprom }

abbrev pub finished : State → Left
finished s = left (taken (outcome s.host s.chip s.rise s.risen)) s.ram s.eeprom

-- No session has more pulses than 264,362: 32,760 bytes, and every wait to its last pair.
abbrev pub budget : ℕ
budget = 264362

-- The refusals of the host's start come first, then those of the chip's.
abbrev pub from_chip : Measuring → List ℕ → List ℕ → List ℕ → Host → Answer Chip → Left
from_chip measured image ram eeprom host (refused n) = left (refused n) ram eeprom
from_chip measured image ram eeprom host (taken chip) = finished (played measured image budget (begun host chip ram eeprom))

abbrev pub from_host : Measuring → List ℕ → List ℕ → List ℕ → Fault → Answer Host → Left
from_host measured image ram eeprom fault (refused n) = left (refused n) ram eeprom
from_host measured image ram eeprom fault (taken host) = from_chip measured image ram eeprom host (chip_start ram eeprom fault)

-- A run with each count of loops of l ps rounded down.
unfoldable pub run_of : ℕ → ℕ → ℕ → ℕ → List ℕ → Fault → ℕ → List ℕ → List ℕ → Left
run_of t h p command image fault l ram eeprom =
    from_host (rounded_down p l) image ram eeprom fault (host_start t h p command image)

-- What the answers tell: the number of a refusal, otherwise what the run came to, with the host ended.
abbrev pub told_report : Report → Outcome
told_report r = record {
  pulses = r.pulses;
  ones = r.ones;
  zeros = r.zeros;
  ticks = r.ticks.0;
  risen = r.risen;
  phases = r.phases;
  host = place.ended (place.number r.host);
  chip = chips.told_end r.chip;
  nearest = margins.told r.nearest;
}

abbrev pub told_ran : Result Report Refusal → Answer Outcome
told_ran (Err n) = refused (number n)
told_ran (Ok r) = taken (told_report r)

-- Host and chip as the code keeps them, with the memories that are lent to it.
abbrev pub state : Joined → List ℕ → List ℕ → State
state j ram eeprom = record { host = j.host; chip = j.chip; ram = ram; eeprom = eeprom; rise = j.rise.0; risen = j.risen; reply = j.reply }

-- Both sides after a pulse.
abbrev pub after : Sent → Chip → Seen → Joined
after sent chip reply = record { host = sent.host; chip = chip; rise = sent.rise; risen = sent.risen; reply = reply }
