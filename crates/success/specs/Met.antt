-- 01, "Host joined to chip": what demand 3 asks can be met, and `run` meets it.
-- Assumes nothing.
use Rattle.std.specs.Prelude.{List, ◌≡◌, ℕ, ◌+◌, ◌*◌, ◌≤◌, ◌<◌, length, replicate}
use Rattle.terms.specs.Refusals.{refused, taken}
use Rattle.load.specs.Load.{load_of}
use Rattle.session.specs.Step as session
use Rattle.place.specs.Endings.{ended}
use Rattle.host.specs.Step as host
use Rattle.host.specs.declared.Host.{Host}
use Rattle.eeprom.specs.declared.Fault.TheVariants.{None}
use Rattle.phases.specs.Endings.{name}
use Rattle.chip.specs.Step as chip
use Rattle.chip.specs.declared.Chip.{Chip}
use Rattle.checks.specs.Sample.{sample}
use Rattle.conversation.specs.Final.{AllBytes, ram_after, eeprom_after, chip_ending}
use Rattle.joined.specs.Joined.{rounded_down}
use Rattle.joined.specs.Run.{Outcome, left, run_of}
use Rattle.success.specs.Success.{May, Loop, Margin, Asked, pulses}

-- A host before its first pulse, and memories of zeros.
abbrev pub fresh : ℕ → ℕ → ℕ → ℕ → List ℕ → Host
fresh t h p command image = host.fresh (record { t = t; h = h; p = p }) (session.fresh (load_of command image))

abbrev pub zeros : List ℕ
zeros = replicate 32768 0

-- All that is asked, with the sample S on a bench of given figures, and each count rounded down.
abbrev pub AskedOfSample : ℕ → ℕ → ℕ → ℕ → Type 0
AskedOfSample t h p command =
    Asked t h p command sample (fresh t h p command sample) zeros zeros (chip.fresh None) 400000 (rounded_down p 400000)

-- What a run came to that succeeds, and how it leaves both memories.
pub record Answers (t h p command : ℕ) (image : List ℕ) (l : ℕ) (ram eeprom : List ℕ) (o : Outcome) : Type 0 where
  pub ran : run_of t h p command image None l ram eeprom ≡ left (taken o) (ram_after command image ram) (eeprom_after command image eeprom)
  pub sent : o.pulses ≡ pulses command (length image)
  pub host_ends : o.host ≡ ended 0
  pub chip_ends : o.chip ≡ name (chip_ending command)

pub record Met : Type 0 where
  -- Rounding down is one way that each count may be measured.
  pub rounding_down : (p l : ℕ) → 400000 ≤ l → (n ticks : ℕ) → ticks * p < 90001000000 → May p l ticks (rounded_down p l n ticks)
  -- All is met by S with each command, with the figures of `planned`, and where t is just five loops and four ticks.
  pub sample_met : (command : ℕ) → command ≤ 3 → AskedOfSample 8600 8600 700000 command
  pub just_met : AskedOfSample 4300 8600 575000 1
  pub just : 5 * 400000 + 4 * 575000 ≡ 4300 * 1000
  -- And by the slowest figures of a bench that are taken: with a tick of one picosecond more they are refused 16.
  pub slowest_met : AskedOfSample 8600 576800 219047 1
  pub slower : host.host_start 8600 576800 219048 1 sample ≡ refused 16
  -- `run` rounds down: it is taken wherever all is met, and then succeeds.
  pub run_taken : (t h p command : ℕ) (image : List ℕ) (host : Host) (ram eeprom : List ℕ) (chip : Chip) (l : ℕ)
      → Asked t h p command image host ram eeprom chip l (rounded_down p l) → (n : ℕ)
      → (run_of t h p command image None l ram eeprom).answer ≡ refused n → ⊥
  pub run_succeeds : (t h p command : ℕ) (image : List ℕ) (l : ℕ) (ram eeprom : List ℕ) (o : Outcome) → AllBytes image → Loop l
      → Margin t p l → (run_of t h p command image None l ram eeprom).answer ≡ taken o
      → Answers t h p command image l ram eeprom o
