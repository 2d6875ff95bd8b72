-- 01, "What the chip does": the chip's start and its steps.
-- Assumes nothing.
use Rattle.std.specs.Prelude.{Bool, not, List, [], ◌∷◌, ℕ, eqb, length, Result, Ok, Err}
use Rattle.terms.specs.Choice.{either}
use Rattle.terms.specs.Refusals.{Row, Answer, refused, taken, ◌given-when◌, first, number}
use Rattle.terms.specs.declared.Refusal.{Refusal}
use Rattle.units.specs.Line.{Line, told}
use Rattle.phases.specs.Phases.{ended}
use Rattle.phases.specs.declared.Phase.TheVariants.{First}
use Rattle.margins.specs.Margins.{unread}
use Rattle.receiver.specs.Hears.{hears, settled}
use Rattle.receiver.specs.Ranges.{receiver_outside}
use Rattle.receiver.specs.declared.Received.{Received}
use Rattle.eeprom.specs.Eeprom.{fault_outside}
use Rattle.eeprom.specs.declared.Fault.{Fault}
use Rattle.chip.specs.Work.{Worked, done}
use Rattle.chip.specs.declared.Chip.{Chip}
use Rattle.chip.specs.declared.Played.{Played}

-- A chip before its first pulse.
abbrev pub fresh : Fault → Chip
fresh fault = record {
  fault = fault;
  receiver = record {
    listener = record { threshold = record { 0 = 0 }; command = 0; size = record { 0 = 0 }; phase = First };
    left = record { 0 = 375000 };
    margins = unread;
  };
}

-- 10 and 11: the slice is not 32,768 bytes.
abbrev pub other_size : List ℕ → Bool
other_size memory = not (eqb (length memory) 32768)

-- A start's rows, in their order.
abbrev pub start_rows : List ℕ → List ℕ → Fault → List Row
start_rows ram eeprom fault =
    10 given-when other_size ram
    ∷ 11 given-when other_size eeprom
    ∷ 12 given-when fault_outside fault
    ∷ []

-- The fresh chip, or the first row that applies.
unfoldable pub chip_start : List ℕ → List ℕ → Fault → Answer Chip
chip_start ram eeprom fault = first (start_rows ram eeprom fault) (fresh fault)

-- 13: some field lies outside its range.
unfoldable pub chip_outside : Chip → Bool
chip_outside c = either (fault_outside c.fault) (receiver_outside c.receiver)

-- A step's rows, in their order.
abbrev pub step_rows : Chip → List ℕ → List ℕ → List Row
step_rows c ram eeprom =
    10 given-when other_size ram
    ∷ 11 given-when other_size eeprom
    ∷ 13 given-when chip_outside c
    ∷ 14 given-when ended c.receiver.listener.phase
    ∷ []

-- What a call tells of a pulse that was played: the record after it, and what the line shows.
pub record Reply : Type 0 where
  pub chip : Chip
  pub reply : Line

-- What a step leaves: its answer, and both memories.
pub record Left : Type 0 where
  pub answer : Answer Reply
  pub ram : List ℕ
  pub eeprom : List ℕ

abbrev pub left : Answer Reply → List ℕ → List ℕ → Left
left answer ram eeprom = record { answer = answer; ram = ram; eeprom = eeprom }

-- The record after a pulse: what was heard, once the work went well or not.
abbrev pub after : Received → Fault → Bool → Chip
after r fault good = record { fault = fault; receiver = settled r good }

-- A pulse that was heard, with its work done.
abbrev pub played : Received → Worked → Left
played r w =
    left (taken (record { chip = after r w.done.fault w.done.good; reply = told r.heard.reply })) w.ram w.eeprom

-- A refused step leaves both memories as they are.
-- Any other leaves what the pulse's work made of them.
abbrev pub unless_refused : List ℕ → List ℕ → Answer Left → Left
unless_refused ram eeprom (refused n) = left (refused n) ram eeprom
unless_refused ram eeprom (taken l) = l

-- The pulse, played by its wait and its low.
abbrev pub pulse : Chip → List ℕ → List ℕ → Received → Left
pulse c ram eeprom r = played r (done c.fault r.heard.event ram eeprom)

-- The pulse, or the first row that applies.
unfoldable pub chip_step : Chip → List ℕ → List ℕ → ℕ → ℕ → Left
chip_step c ram eeprom wait low =
    unless_refused ram eeprom (first (step_rows c ram eeprom) (pulse c ram eeprom (hears c.receiver wait low)))

-- What a step's answer tells: the number of a refusal, otherwise what is handed back.
abbrev pub told_stepped : Result Played Refusal → Answer Reply
told_stepped (Err r) = refused (number r)
told_stepped (Ok p) = taken (record { chip = p.chip; reply = told p.reply })
