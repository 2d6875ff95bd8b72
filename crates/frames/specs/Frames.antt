-- 02, "One": how bits fill a serial byte: "one high bit time follows each low run, and after the last run all is high".
-- Assumes nothing.
use Rattle.std.specs.Prelude.{Bool, true, false, ℕ, ◌+◌, ◌-◌, ◌*◌, ◌/◌, ◌%◌, ◌^◌, leb}
use Rattle.std.specs.Int.Bits.{bit_or}
use Rattle.terms.specs.Choice.{when}
use Rattle.frames.specs.LowRuns.{run}
use Rattle.frames.specs.declared.Frame.{Frame}

-- The bit times of a bit: its low run, and the high one after it.
abbrev pub width : Bool → ℕ
width b = run b + 1

-- The low ones among them, as a number whose lowest place is the first.
abbrev pub lows_of : Bool → ℕ
lows_of true = 1
lows_of false = 3

abbrev pub empty : Frame
empty = record { lows = 0; used = 0 }

-- A byte has ten bit times.
unfoldable pub fits : Frame → Bool → Bool
fits f b = leb (f.used + width b) 10

-- A frame with one bit more; where it doesn't fit, the frame as it is. What fits ends within ten bit times, so that 16 places lose none.
unfoldable pub with : Frame → Bool → Frame
with f b = when (fits f b) (record { lows = bit_or f.lows (lows_of b * 2 ^ f.used % 2 ^ 16); used = f.used + width b }) f

-- The byte: the first bit time is the start bit, the next eight are the data bits, and what is not low is high. Eight bits are at most 255,
-- so that nothing is cut.
abbrev pub byte_of : ℕ → ℕ
byte_of lows = 255 - lows / 2 % 256
