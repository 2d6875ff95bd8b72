-- A bench figure as a caller writes it, in decimal digits.
-- Assumes nothing.
use Rattle.std.specs.Prelude.{Bool, true, Option, None, Some, List, [], ◌∷◌, ℕ, ◌+◌, ◌-◌, ◌*◌, eqb, leb, ltb, length}
use Rattle.terms.specs.Choice.{when, both}

-- The bytes 48 to 57 are the digits 0 to 9.
unfoldable pub is_digit : ℕ → Bool
is_digit byte = both (leb 48 byte) (leb byte 57)

unfoldable pub all_digits : List ℕ → Bool
all_digits [] = true
all_digits (byte ∷ text) = both (is_digit byte) (all_digits text)

-- The value of a number with one digit more, and with all of a text's. Only of digits, 48 to 57, is it looked at.
abbrev pub grown : ℕ → ℕ → ℕ
grown value byte = value * 10 + (byte - 48)

unfoldable pub value_from : ℕ → List ℕ → ℕ
value_from value [] = value
value_from value (byte ∷ text) = value_from (grown value byte) text

-- Digits alone, and a value of 32 bits.
unfoldable pub number_from : ℕ → List ℕ → Option ℕ
number_from value text = when (both (all_digits text) (ltb (value_from value text) 4294967296)) (Some (value_from value text)) None

-- A text of no digits is no number.
unfoldable pub figure_of : List ℕ → Option ℕ
figure_of text = when (eqb (length text) 0) None (number_from 0 text)

-- A number with one digit more: as the code goes on (`at_digit` in proofs/Numbers.antt).
unfoldable pub with_digit : ℕ → ℕ → Option ℕ
with_digit value byte = when (is_digit byte) (when (ltb (grown value byte) 4294967296) (Some (grown value byte)) None) None
