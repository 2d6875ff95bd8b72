-- 01, "What the host sends": values go low bit first; and so the chip reads them.
-- Assumes nothing.
use Rattle.std.specs.Prelude.{Bool, ◌≡◌, ℕ, zero, suc, ◌+◌, ◌^◌, ◌<◌}
use Rattle.terms.specs.Choice.{when}
use Rattle.line.specs.Reading.{grown}

-- The value that the first bits spell, low bit first.
unfoldable pub spelled : (ℕ → Bool) → ℕ → ℕ
spelled bits zero = 0
spelled bits (suc n) = spelled bits n + when (bits n) (2 ^ n) 0

-- A value into which the first bits were shifted, one after the other.
unfoldable pub shifted_in : ℕ → (ℕ → Bool) → ℕ → ℕ
shifted_in value bits zero = value
shifted_in value bits (suc n) = grown (shifted_in value bits n) (bits n)

-- 32 bits that are shifted in leave the value that they spell, whatever value stood there.
abbrev pub LowBitFirst : Type 0
LowBitFirst = (value : ℕ) (bits : ℕ → Bool) → value < 4294967296 → shifted_in value bits 32 ≡ spelled bits 32
