-- 02, "One", and 01, row 13: the serial sessions got from a start by steps that weren't refused.
-- Assumes nothing.
use Rattle.std.specs.Prelude.{List, ◌≡◌, ℕ, Option}
use Rattle.terms.specs.Refusals.{taken}
use Rattle.serial.specs.Step.{serial_start, serial_step}
use Rattle.packing.specs.declared.Packing.{Packing}
use Rattle.serial.specs.declared.Serial.{Serial}
use Rattle.serial.specs.declared.Turn.{Turn}

pub data Reached : Serial → Type 0 where
  started : (packing : Packing) (command : ℕ) (image : List ℕ) (s : Serial) → serial_start packing command image ≡ taken s → Reached s
  stepped : (s : Serial) (image : List ℕ) (back : Option ℕ) (t : Turn) → Reached s → serial_step s image back ≡ taken t → Reached t.serial
