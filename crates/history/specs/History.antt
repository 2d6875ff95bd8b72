-- 01, "Host joined to chip": a chip's history from its start on, over memories that nobody else writes.
-- Assumes nothing.
use Rattle.std.specs.Prelude.{List, ◌≡◌, ℕ, ◌+◌}
use Rattle.terms.specs.Refusals.{taken}
use Rattle.eeprom.specs.declared.Fault.{Fault}
use Rattle.chip.specs.Step.{Reply, chip_start, chip_step, left}
use Rattle.chip.specs.declared.Chip.{Chip}

-- A chip with its memories.
pub record State : Type 0 where
  pub chip : Chip
  pub ram : List ℕ
  pub eeprom : List ℕ

-- A fresh chip has played so many pulses, none of which was refused. Waits and lows go by the number of their pulse, from 1.
pub data Played (wait low : ℕ → ℕ) : ℕ → State → Type 0 where
  started : (ram eeprom : List ℕ) (fault : Fault) (c : Chip) → chip_start ram eeprom fault ≡ taken c
      → Played wait low 0 (record { chip = c; ram = ram; eeprom = eeprom })
  stepped : (n : ℕ) (s : State) (r : Reply) (ram eeprom : List ℕ) → Played wait low n s
      → chip_step s.chip s.ram s.eeprom (wait (n + 1)) (low (n + 1)) ≡ left (taken r) ram eeprom
      → Played wait low (n + 1) (record { chip = r.chip; ram = ram; eeprom = eeprom })
