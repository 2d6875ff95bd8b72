-- 01, "What the chip does": "Reading"; and 02, "Four": how far from the threshold a low lies.
-- Assumes nothing.
use Rattle.std.specs.Prelude.{Bool, ℕ, ◌+◌, ◌/◌, ltb, ℤ}
use Rattle.terms.specs.Choice.{when}
use Rattle.units.specs.Units.{difference}

-- The threshold of calibration lows d1 and d2, rounded down.
abbrev pub threshold_of : ℕ → ℕ → ℕ
threshold_of d1 d2 = (d1 + d2) / 2

-- A later low below the threshold is 1, otherwise 0.
abbrev pub reads : ℕ → ℕ → Bool
reads threshold low = ltb low threshold

-- Its signed distance: low minus threshold.
abbrev pub distance_of : ℕ → ℕ → ℤ
distance_of threshold low = difference low threshold

-- Values come low bit first: each bit is shifted in from the top of 32.
unfoldable pub grown : ℕ → Bool → ℕ
grown value bit = value / 2 + when bit 2147483648 0
