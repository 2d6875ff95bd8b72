-- 01, "Bench figures": bench ticks, chip loops, bytes and longs, and what one of them is in another.
-- Assumes nothing.
use Rattle.std.specs.Prelude.{ℕ, ◌+◌, ◌*◌, ◌/◌, min, eqb, ℤ, pos, ◌-ℤ◌}
use Rattle.terms.specs.Choice.{when}

-- The largest count of 32 bits, which stands for every larger one too.
abbrev pub most : ℕ
most = 4294967295

-- The longs in some bytes: four bytes each, what is left over does not count.
abbrev pub longs_in : ℕ → ℕ
longs_in bytes = min (bytes / 4) most

-- The bytes in some longs.
abbrev pub bytes_in : ℕ → ℕ
bytes_in longs = longs * 4

-- The bytes up to the end of long k, the first being long 0.
abbrev pub end_of : ℕ → ℕ
end_of k = bytes_in k + 4

-- The loops of a count that was recorded.
abbrev pub loops_of : ℕ → ℕ
loops_of n = min n most

-- The loops of l ps in some ticks of p ps, rounded down. In loops of no length there is no last one, and the count is the largest.
unfoldable pub loops_in : ℕ → ℕ → ℕ → ℕ
loops_in ticks p l = when (eqb l 0) most (min (ticks * p / l) most)

-- A count of loops less another, with its sign.
unfoldable pub difference : ℕ → ℕ → ℤ
difference a b = pos a -ℤ pos b
