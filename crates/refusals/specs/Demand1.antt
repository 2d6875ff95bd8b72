-- 01, "Refusal numbers": demand 1 as a list of facts. Each is of the definition that a call's contract cites, for every input and every
-- record. That each call ends is the meaning of its contract; that a caller need check nothing, its having no `requires`.
-- Assumes nothing.
use Rattle.std.specs.Prelude.{true, List, Option, ◌++◌, ◌↔◌, ◌≡◌, ℕ, length}
use Rattle.terms.specs.Refusals.{Row, refused, Given}
use Rattle.units.specs.declared.Seen.{Seen}
use Rattle.settings.specs.Settings.{settings_rows, checked}
use Rattle.settings.specs.declared.Settings.{Settings}
use Rattle.load.specs.Load.{load_rows, accepted}
use Rattle.place.specs.Phases as place
use Rattle.session.specs.Step.{session_start, session_step}
use Rattle.session.specs.Step as session
use Rattle.session.specs.declared.Session.{Session}
use Rattle.session.specs.Reached as session_reached
use Rattle.host.specs.Step.{host_start, host_rows, host_step}
use Rattle.host.specs.declared.Host.{Host}
use Rattle.host.specs.Reached as host_reached
use Rattle.serial.specs.Step.{serial_start, serial_rows, serial_step}
use Rattle.serial.specs.Reached as serial_reached
use Rattle.packing.specs.declared.Packing.{Packing}
use Rattle.serial.specs.declared.Serial.{Serial}
use Rattle.eeprom.specs.declared.Fault.{Fault}
use Rattle.phases.specs.Phases as phases
use Rattle.chip.specs.Step.{start_rows, step_rows, chip_start, chip_step}
use Rattle.chip.specs.Step as chip
use Rattle.chip.specs.declared.Chip.{Chip}
use Rattle.chip.specs.Reached as chip_reached
use Rattle.joined.specs.Run.{run_of}
use Rattle.joined.specs.Run as runs
use Rattle.trace.specs.Traces.{file_rows, judgement, write_rows, writes}
use Rattle.trace.specs.Traces as traces
use Rattle.replay.specs.Replay.{replay_rows, replay_of}
use Rattle.replay.specs.Replay as replays
use Rattle.counts.specs.Counts.{counted}
use Rattle.counts.specs.declared.Plan.{Plan}
use Rattle.times.specs.Times.{timed_rows, timed}

-- The rows of a run: the start of the host, 1 to 9, then that of the chip, 10 to 12.
abbrev pub run_rows : ℕ → ℕ → ℕ → ℕ → List ℕ → Fault → List ℕ → List ℕ → List Row
run_rows t h p command image fault ram eeprom = (settings_rows t h p ++ load_rows command image) ++ start_rows ram eeprom fault

pub record Demand1 : Type 0 where
  -- A number is given exactly when its row applies and no row before it: at each start,
  pub settings : (t h p n : ℕ) → (checked t h p ≡ refused n) ↔ Given n (settings_rows t h p)
  pub load : (command : ℕ) (image : List ℕ) (n : ℕ) → (accepted command image ≡ refused n) ↔ Given n (load_rows command image)
  pub session_start_lem : (command : ℕ) (image : List ℕ) (n : ℕ) → (session_start command image ≡ refused n) ↔ Given n (load_rows command image)
  pub host_start_lem : (t h p command : ℕ) (image : List ℕ) (n : ℕ)
      → (host_start t h p command image ≡ refused n) ↔ Given n (settings_rows t h p ++ load_rows command image)
  pub serial_start_lem : (packing : Packing) (command : ℕ) (image : List ℕ) (n : ℕ)
      → (serial_start packing command image ≡ refused n) ↔ Given n (load_rows command image)
  pub chip_start_lem : (ram eeprom : List ℕ) (fault : Fault) (n : ℕ) → (chip_start ram eeprom fault ≡ refused n) ↔ Given n (start_rows ram eeprom fault)
  -- at each step, of every record,
  pub session_step_lem : (s : Session) (image : List ℕ) (seen : Seen) (n : ℕ)
      → (session_step s image seen ≡ refused n) ↔ Given n (session.step_rows s image)
  pub host_step_lem : (x : Host) (image : List ℕ) (seen : Seen) (n : ℕ) → (host_step x image seen ≡ refused n) ↔ Given n (host_rows x image)
  pub serial_step_lem : (s : Serial) (image : List ℕ) (back : Option ℕ) (n : ℕ)
      → (serial_step s image back ≡ refused n) ↔ Given n (serial_rows s image back)
  pub chip_step_lem : (c : Chip) (ram eeprom : List ℕ) (wait low n : ℕ)
      → ((chip_step c ram eeprom wait low).answer ≡ refused n) ↔ Given n (step_rows c ram eeprom)
  -- of a trace that is judged, written or replayed,
  pub judge : (trace : List ℕ) (n : ℕ) → (judgement trace ≡ refused n) ↔ Given n (file_rows trace)
  pub write : (ns buffer : List ℕ) (n : ℕ) → ((writes ns buffer).answer ≡ refused n) ↔ Given n (write_rows ns buffer)
  pub replay : (trace : List ℕ) (fault : Fault) (ram eeprom : List ℕ) (n : ℕ)
      → ((replay_of trace fault ram eeprom).answer ≡ refused n) ↔ Given n (replay_rows trace fault ram eeprom)
  -- and of a run.
  pub run : (t h p command : ℕ) (image : List ℕ) (fault : Fault) (l : ℕ) (ram eeprom : List ℕ) (n : ℕ)
      → ((run_of t h p command image fault l ram eeprom).answer ≡ refused n) ↔ Given n (run_rows t h p command image fault ram eeprom)
  -- A refusal leaves both memories, and a buffer, as they were lent. Records go by value: a refused call hands none back.
  pub chip_left : (c : Chip) (ram eeprom : List ℕ) (wait low n : ℕ) → Given n (step_rows c ram eeprom)
      → chip_step c ram eeprom wait low ≡ chip.left (refused n) ram eeprom
  pub run_left : (t h p command : ℕ) (image : List ℕ) (fault : Fault) (l : ℕ) (ram eeprom : List ℕ) (n : ℕ)
      → Given n (run_rows t h p command image fault ram eeprom)
      → run_of t h p command image fault l ram eeprom ≡ runs.left (refused n) ram eeprom
  pub replay_left : (trace : List ℕ) (fault : Fault) (ram eeprom : List ℕ) (n : ℕ) → Given n (replay_rows trace fault ram eeprom)
      → replay_of trace fault ram eeprom ≡ replays.left (refused n) ram eeprom
  pub write_left : (ns buffer : List ℕ) (n : ℕ) → Given n (write_rows ns buffer) → writes ns buffer ≡ traces.left (refused n) buffer
  -- 13 is never given to a record got from a start by steps that weren't refused,
  pub session_never_13 : (s : Session) → session_reached.Reached s → (image : List ℕ) (seen : Seen) → session_step s image seen ≡ refused 13 → ⊥
  pub host_never_13 : (x : Host) → host_reached.Reached x → (image : List ℕ) (seen : Seen) → host_step x image seen ≡ refused 13 → ⊥
  pub serial_never_13 : (s : Serial) → serial_reached.Reached s → (image : List ℕ) (back : Option ℕ) → serial_step s image back ≡ refused 13 → ⊥
  pub chip_never_13 : (c : Chip) → chip_reached.Reached c → (ram eeprom : List ℕ) (wait low : ℕ)
      → (chip_step c ram eeprom wait low).answer ≡ refused 13 → ⊥
  -- and 14 always to such a record that has ended.
  pub session_ended : (s : Session) → session_reached.Reached s → place.ended s.place.phase ≡ true → (image : List ℕ) (seen : Seen)
      → session_step s image seen ≡ refused 14
  pub host_ended_lem : (x : Host) → host_reached.Reached x → place.ended x.session.place.phase ≡ true → (image : List ℕ) (seen : Seen)
      → host_step x image seen ≡ refused 14
  pub serial_ended : (s : Serial) → serial_reached.Reached s → place.ended s.place.phase ≡ true → (image : List ℕ) (back : Option ℕ)
      → serial_step s image back ≡ refused 14
  pub chip_ended : (c : Chip) → chip_reached.Reached c → phases.ended c.receiver.listener.phase ≡ true → (ram eeprom : List ℕ) (wait low : ℕ)
      → length ram ≡ 32768 → length eeprom ≡ 32768 → (chip_step c ram eeprom wait low).answer ≡ refused 14

-- The same of a batch report's counts and times: a number is given exactly when its row applies and no row before it.
pub record ReportRefusals : Type 0 where
  pub plan : (command : ℕ) (image : List ℕ) (n : ℕ) → (counted command image ≡ refused n) ↔ Given n (load_rows command image)
  pub times : (p : Plan) (s : Settings) (trackers n : ℕ) → (timed p s trackers ≡ refused n) ↔ Given n (timed_rows p s)
