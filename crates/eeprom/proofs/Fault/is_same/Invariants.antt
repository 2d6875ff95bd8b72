-- `Fault::is_same` has found no byte that differs among those it passed.
-- Assumes nothing.
use Rattle.std.proofs.Common.{◌≡◌, ℕ, ◌<◌, get_or}
use Rattle.eeprom.specs.Eeprom.{reads}
use Rattle.eeprom.proofs.Fault.is_same.Given as goal

abbrev pub invariant-loop-at : goal.invariant-loop-at
invariant-loop-at l = (k : ℕ) → k < l.at → get_or l.ram k 0 ≡ get_or (reads l.self l.eeprom) k 0
