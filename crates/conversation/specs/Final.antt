-- 01, "Host joined to chip": how a session ends, and what it leaves in both memories.
-- Assumes nothing.
use Rattle.std.specs.Prelude.{List, [], ◌∷◌, ◌++◌, ℕ, ◌+◌, ◌-◌, ◌*◌, ◌<◌, ltb, eqb, length, get_or, replicate}
use Rattle.terms.specs.Choice.{when, either}
use Rattle.lent.specs.Bytes.{word_at}
use Rattle.phases.specs.declared.Ending.{Ending}
use Rattle.phases.specs.declared.Ending.TheVariants.{Launched, Shut}

-- An image is a list of bytes.
abbrev pub AllBytes : List ℕ → Type 0
AllBytes image = (i : ℕ) → get_or image i 0 < 256

-- A flag long: FF FF F9 FF.
abbrev pub flag : List ℕ
flag = 255 ∷ 255 ∷ 249 ∷ 255 ∷ []

-- RAM after a load: the image, then zeros, with the two flag longs at D - 4 and D - 8; D is the word at 10.
unfoldable pub final_ram : List ℕ → List ℕ
final_ram image =
    image ++ replicate (word_at image 10 - 8 - length image) 0 ++ flag ++ flag ++ replicate (32768 - word_at image 10) 0

-- Command 0 leaves both memories untouched, 1 the EEPROM; 2 and 3 leave the EEPROM equal to RAM.
unfoldable pub ram_after : ℕ → List ℕ → List ℕ → List ℕ
ram_after command image ram = when (eqb command 0) ram (final_ram image)

unfoldable pub eeprom_after : ℕ → List ℕ → List ℕ → List ℕ
eeprom_after command image eeprom = when (ltb command 2) eeprom (final_ram image)

-- Commands 0 and 2 shut down, 1 and 3 launch.
unfoldable pub chip_ending : ℕ → Ending
chip_ending command = when (either (eqb command 0) (eqb command 2)) Shut Launched

-- The pulses after the calibration: 250 handshake bits, 250 connection pairs, 8 version pairs and 32 command bits; then 32 size bits, the
-- image's bits and two pairs of the RAM acknowledgement; for commands 2 and 3 two pairs each for programming and verification.
unfoldable pub pulses_after : ℕ → ℕ → ℕ
pulses_after command n = when (eqb command 0) 798 (when (eqb command 1) (834 + 8 * n) (842 + 8 * n))
