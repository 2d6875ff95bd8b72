-- 01, "What the chip does": the work that follows a pulse, on both memories.
-- Assumes nothing.
use Rattle.std.specs.Prelude.{Bool, true, List, ℕ, ◌+◌, ◌*◌}
use Rattle.listener.specs.declared.Event.{Event}
use Rattle.listener.specs.declared.Event.TheVariants.{Nothing, Store, Finish, Program, Verify, Launch, Boot}
use Rattle.eeprom.specs.Eeprom.{programmed, programming, verifies, booted, boots}
use Rattle.ram.specs.Ram.{stored, finished, sums_to_zero, launches}
use Rattle.eeprom.specs.declared.Done.{Done}
use Rattle.eeprom.specs.declared.Fault.{Fault}

-- What work leaves: how it went, and both memories.
pub record Worked : Type 0 where
  pub done : Done
  pub ram : List ℕ
  pub eeprom : List ℕ

abbrev pub worked : Done → List ℕ → List ℕ → Worked
worked d ram eeprom = record { done = d; ram = ram; eeprom = eeprom }

-- How it went, with the fault as it was.
abbrev pub went : Bool → Fault → Done
went good fault = record { good = good; fault = fault }

-- RAM with long k of the image.
abbrev pub with_long : ℕ → ℕ → List ℕ → List ℕ
with_long k long ram = stored (k * 4) long ram

-- A load finished by its last long, k.
abbrev pub loaded : ℕ → ℕ → List ℕ → List ℕ
loaded k long ram = finished (k * 4 + 4) (with_long k long ram)

-- The work of each event.
abbrev pub done : Fault → Event → List ℕ → List ℕ → Worked
done fault Nothing ram eeprom = worked (went true fault) ram eeprom
done fault (Store k long) ram eeprom = worked (went true fault) (with_long k.0 long ram) eeprom
done fault (Finish k long) ram eeprom = worked (went (sums_to_zero (loaded k.0 long ram)) fault) (loaded k.0 long ram) eeprom
done fault Program ram eeprom = worked (programming fault ram eeprom) ram (programmed fault ram eeprom)
done fault Verify ram eeprom = worked (went (verifies fault ram eeprom) fault) ram eeprom
done fault Launch ram eeprom = worked (went (launches ram) fault) ram eeprom
done fault Boot ram eeprom = worked (went (boots fault ram eeprom) fault) (booted fault ram eeprom) eeprom
