-- 01, "The bit sequence".
-- Assumes nothing.
use Rattle.std.specs.Prelude.{Bool, List, [], ◌∷◌, ℕ, zero, suc, ◌+◌, ◌*◌, ◌/◌, ◌%◌, ◌^◌, eqb}
use Rattle.std.specs.Int.Bits.{bit_xor}

-- Bit k of a number.
abbrev pub bit : ℕ → ℕ → ℕ
bit k s = s / 2 ^ k % 2

-- The exclusive or of bits 7, 5, 4, 1.
abbrev pub taps : ℕ → ℕ
taps s = bit_xor (bit_xor (bit_xor (bit 7 s) (bit 5 s)) (bit 4 s)) (bit 1 s)

-- The state is shifted left one place, kept to 8 bits, with bit 0, which the shift leaves 0, set to the taps.
unfoldable pub advanced : ℕ → ℕ
advanced s = s * 2 % 256 + taps s

-- The state after n advances from the seed $50.
unfoldable pub state : ℕ → ℕ
state zero = 0x50
state (suc n) = advanced (state n)

-- A draw gives bit 0 of the state, and then the state advances: draw k comes after k - 1 advances. Draw 0 is draw 255.
unfoldable pub draw : ℕ → Bool
draw zero = eqb (bit 0 (state 254)) 1
draw (suc n) = eqb (bit 0 (state n)) 1

-- The draws from number k on, so many of them.
unfoldable pub draws : ℕ → ℕ → List Bool
draws k zero = []
draws k (suc n) = draw k ∷ draws (k + 1) n

-- Draws 1 to 250, and draws 251 to 500.
abbrev pub handshake : List Bool
handshake = draws 1 250

abbrev pub connection : List Bool
connection = draws 251 250
