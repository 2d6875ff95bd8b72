-- 01, "What the chip does": "RAM", "Checksum" and "Ending".
-- Assumes nothing.
use Rattle.std.specs.Prelude.{ℕ, ◌+◌, ◌-◌, ◌*◌, ◌/◌, ◌%◌, Bool, List, [], ◌∷◌, ◌++◌, length, take, drop, replicate, ◌==◌, nat_le, nat_lt}
use Rattle.terms.specs.Choice.{when}
use Rattle.lent.specs.Bytes.{word_at, total}

-- The four bytes of a long, low byte first.
abbrev pub long_bytes : ℕ → List ℕ
long_bytes v = v % 256 ∷ v / 256 % 256 ∷ v / 65536 % 256 ∷ v / 16777216 ∷ []

-- A long stored at an address; nothing where it does not fit.
unfoldable pub stored : ℕ → ℕ → List ℕ → List ℕ
stored at v ram = when (nat_le (at + 4) (length ram)) (take at ram ++ long_bytes v ++ drop (at + 4) ram) ram

-- The rest zeroed, from an address on; past the end there is none.
unfoldable pub zeroed : ℕ → List ℕ → List ℕ
zeroed at ram = take at ram ++ replicate (length ram - at) 0

-- The address so far below D, by 4 or 8, modulo 65,536, with its two lowest bits dropped.
abbrev pub flag_at : ℕ → ℕ → ℕ
flag_at d below = (d + 65536 - below) % 65536 / 4 * 4

-- The bytes FF FF F9 FF at an address; at 32,768 or above nothing is stored.
unfoldable pub flag_stored : ℕ → List ℕ → List ℕ
flag_stored at ram = when (nat_lt at 32768) (stored at 0xFFF9FFFF ram) ram

-- They are stored at D - 4 and then at D - 8.
abbrev pub flagged_below : ℕ → List ℕ → List ℕ
flagged_below d ram = flag_stored (flag_at d 8) (flag_stored (flag_at d 4) ram)

-- D is the word at 10.
unfoldable pub flagged : List ℕ → List ℕ
flagged ram = flagged_below (word_at ram 10) ram

-- A load whose longs end at an address, finished.
abbrev pub finished : ℕ → List ℕ → List ℕ
finished end ram = flagged (zeroed end ram)

-- The checksum is good when all bytes sum to 0 modulo 256.
abbrev pub sums_to_zero : List ℕ → Bool
sums_to_zero ram = total ram % 256 == 0

-- A launch: the word at 6 is 16.
abbrev pub launches : List ℕ → Bool
launches ram = word_at ram 6 == 16
