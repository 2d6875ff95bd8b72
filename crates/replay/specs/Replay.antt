-- 02, "Three": "a replay through the chip model that reports the ending"; and "Four": with the nearest low on each side.
-- Assumes nothing.
use Rattle.std.specs.Prelude.{List, [], ◌∷◌, ◌++◌, ℕ, Result, Ok, Err}
use Rattle.terms.specs.Choice.{when}
use Rattle.terms.specs.Refusals.{Row, Answer, refused, taken, first, number}
use Rattle.terms.specs.declared.Refusal.{Refusal}
use Rattle.units.specs.Units.{loops_of}
use Rattle.phases.specs.Endings.{End, end_at, told_end}
use Rattle.phases.specs.Phases.{ended}
use Rattle.eeprom.specs.declared.Fault.{Fault}
use Rattle.margins.specs.Margins as margins
use Rattle.chip.specs.Step.{Reply, fresh, start_rows, chip_step}
use Rattle.chip.specs.Step as step
use Rattle.chip.specs.declared.Chip.{Chip}
use Rattle.trace.specs.Traces.{list_of, numbers_of, file_rows}
use Rattle.replay.specs.declared.Report.{Report}

-- A chip with its memories.
pub record State : Type 0 where
  pub chip : Chip
  pub ram : List ℕ
  pub eeprom : List ℕ

abbrev pub state : Chip → List ℕ → List ℕ → State
state chip ram eeprom = record { chip = chip; ram = ram; eeprom = eeprom }

-- The chip's part of an answer; a chip that refused a step would be as it was.
abbrev pub replied : Chip → Answer Reply → Chip
replied c (refused n) = c
replied c (taken r) = r.chip

abbrev pub kept : Chip → step.Left → State
kept c l = state (replied c l.answer) l.ram l.eeprom

-- A pulse, by the loops of its wait and its low.
unfoldable pub listened : State → ℕ → ℕ → State
listened s wait low = kept s.chip (chip_step s.chip s.ram s.eeprom wait low)

-- Waits and lows by turns: "pulses after the chip's ending are not played".
unfoldable pub played : List ℕ → State → State
played [] s = s
played (w ∷ []) s = s
played (w ∷ l ∷ ns) s = when (ended s.chip.receiver.listener.phase) s (played ns (listened s (loops_of w) (loops_of l)))

-- What a replay comes to: the chip's ending, "a trace that ends before the chip does reports 'listening'", and its margins.
pub record Outcome : Type 0 where
  pub chip : End
  pub nearest : margins.Told

abbrev pub outcome : Chip → Outcome
outcome c = record { chip = end_at c.receiver.listener.phase; nearest = margins.nearest c.receiver.margins }

-- What a replay leaves: its answer, and both memories.
pub record Left : Type 0 where
  pub answer : Answer Outcome
  pub ram : List ℕ
  pub eeprom : List ℕ

abbrev pub left : Answer Outcome → List ℕ → List ℕ → Left
left answer ram eeprom = record { answer = answer; ram = ram; eeprom = eeprom }

abbrev pub finished : State → Left
finished s = left (taken (outcome s.chip)) s.ram s.eeprom

-- The rows of a replay: the start of the chip, 10 to 12, then the file, 17 to 19.
abbrev pub replay_rows : List ℕ → Fault → List ℕ → List ℕ → List Row
replay_rows trace fault ram eeprom = start_rows ram eeprom fault ++ file_rows trace

-- A refused replay leaves both memories as they are.
abbrev pub unless_refused : Fault → List ℕ → List ℕ → Answer (List ℕ) → Left
unless_refused fault ram eeprom (refused n) = left (refused n) ram eeprom
unless_refused fault ram eeprom (taken ns) = finished (played ns (state (fresh fault) ram eeprom))

unfoldable pub replay_of : List ℕ → Fault → List ℕ → List ℕ → Left
replay_of trace fault ram eeprom =
    unless_refused fault ram eeprom (first (replay_rows trace fault ram eeprom) (list_of (numbers_of trace)))

-- What the answers tell: the number of a refusal, otherwise what the replay came to.
abbrev pub told_report : Report → Outcome
told_report r = record { chip = told_end r.chip; nearest = margins.told r.nearest }

abbrev pub told_replayed : Result Report Refusal → Answer Outcome
told_replayed (Err r) = refused (number r)
told_replayed (Ok r) = taken (told_report r)
