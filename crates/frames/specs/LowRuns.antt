-- 02, "One": a serial byte on the line, "8 data bits, no parity, 1 stop: start bit low, low data bit first", and its low runs.
-- Assumes nothing.
use Rattle.std.specs.Prelude.{Bool, true, false, List, [], ◌∷◌, ◌++◌, ℕ, zero, suc, ◌+◌, ◌/◌, ◌%◌, eqb}
use Rattle.terms.specs.Choice.{when}

-- The lowest data bits of a byte as levels, the lowest first: true is high.
unfoldable pub levels : ℕ → ℕ → List Bool
levels zero byte = []
levels (suc n) byte = eqb (byte % 2) 1 ∷ levels n (byte / 2)

-- Its ten bit times: the start bit is low, eight data bits follow, the stop bit is high.
abbrev pub bit_times : ℕ → List Bool
bit_times byte = (false ∷ levels 8 byte) ++ (true ∷ [])

-- The lengths of the low runs among some levels, with n low ones before them.
unfoldable pub runs : ℕ → List Bool → List ℕ
runs n [] = when (eqb n 0) [] (n ∷ [])
runs n (true ∷ rest) = when (eqb n 0) (runs 0 rest) (n ∷ runs 0 rest)
runs n (false ∷ rest) = runs (n + 1) rest

-- The low runs of a byte, in bit times.
unfoldable pub low_runs : ℕ → List ℕ
low_runs byte = runs 0 (bit_times byte)

-- "each low run of one bit time a 1 and of two a 0".
abbrev pub run : Bool → ℕ
run true = 1
run false = 2
