-- 02, "One": what came back for the byte before is "looked at only after a $F9 of 01's steps 3, 4, 7 and 8". Elsewhere a step is the same
-- whatever came back.
-- Assumes nothing.
use Rattle.std.specs.Prelude.{false, List, ◌≡◌, ℕ, Option}
use Rattle.serial.specs.Phases.{awaits}
use Rattle.serial.specs.Step.{serial_step}
use Rattle.serial.specs.declared.Serial.{Serial}

abbrev pub ElsewhereIgnored : Type 0
ElsewhereIgnored =
    (s : Serial) (image : List ℕ) (back other : Option ℕ) → awaits s.place.phase s.place.index ≡ false
    → serial_step s image back ≡ serial_step s image other
