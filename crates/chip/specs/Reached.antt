-- 01, row 13 of "Refusal numbers": the chips got from a start by steps that weren't refused.
-- Assumes nothing.
use Rattle.std.specs.Prelude.{List, ◌≡◌, ℕ}
use Rattle.terms.specs.Refusals.{taken}
use Rattle.eeprom.specs.declared.Fault.{Fault}
use Rattle.chip.specs.Step.{Reply, left, chip_start, chip_step}
use Rattle.chip.specs.declared.Chip.{Chip}

-- What a start and steps that weren't refused lead to, whatever is lent to each.
pub data Reached : Chip → Type 0 where
  started : (ram eeprom : List ℕ) (fault : Fault) (c : Chip) → chip_start ram eeprom fault ≡ taken c → Reached c
  stepped : (c : Chip) (ram eeprom : List ℕ) (wait low : ℕ) (r : Reply) (ram' eeprom' : List ℕ) → Reached c
      → chip_step c ram eeprom wait low ≡ left (taken r) ram' eeprom' → Reached r.chip
