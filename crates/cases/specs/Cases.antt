-- A case as a line of text: words, some with a number behind them.
-- Assumes nothing.
use Rattle.std.specs.Prelude.{Bool, true, false, List, [], ◌∷◌, ℕ, zero, suc, ◌+◌, ◌-◌, ◌*◌, min, eqb, leb, length, take, drop}
use Rattle.terms.specs.Choice.{when, both}

-- How many bytes stand before the first newline, byte 10; all of them where there is none.
unfoldable pub until_newline : List ℕ → ℕ
until_newline [] = 0
until_newline (byte ∷ text) = when (eqb byte 10) 0 (until_newline text + 1)

-- Where the line ends that a place stands in. A place past the text's end is its own line's end.
unfoldable pub line_end : List ℕ → ℕ → ℕ
line_end text from = from + until_newline (drop from text)

-- Where the line starts that follows the one at a place; the text's end where none does.
unfoldable pub next_line : List ℕ → ℕ → ℕ
next_line text from = min (length text) (line_end text from + 1)

-- Where a line starts, by its number from 0 on.
unfoldable pub line_start : List ℕ → ℕ → ℕ
line_start text zero = 0
line_start text (suc n) = next_line text (line_start text n)

-- Its bytes, and where they lie: a text lies at a place of a block.
unfoldable pub line_bytes : List ℕ → ℕ → List ℕ
line_bytes text n = take (until_newline (drop (line_start text n) text)) (drop (line_start text n) text)

unfoldable pub line_place : ℕ × ℕ → List ℕ → ℕ → ℕ × ℕ
line_place place text n = (place.0, place.1 + line_start text n)

-- The words stand at a text's start.
unfoldable pub starts_with : List ℕ → List ℕ → Bool
starts_with text [] = true
starts_with [] (word ∷ words) = false
starts_with (byte ∷ text) (word ∷ words) = both (eqb byte word) (starts_with text words)

-- Words begin at a fresh place only: at a line's start, or right behind a space, byte 32.
abbrev pub begin : Bool → List ℕ → List ℕ → Bool
begin fresh line words = both fresh (starts_with line words)

-- What stands right behind words that begin a line. Behind words that do not, nothing stands.
unfoldable pub behind : Bool → List ℕ → List ℕ → List ℕ
behind fresh line words = when (begin fresh line words) (drop (length words) line) []

-- The bytes 48 to 57 are the digits 0 to 9.
unfoldable pub is_digit : ℕ → Bool
is_digit byte = both (leb 48 byte) (leb byte 57)

unfoldable pub starts_with_digit : List ℕ → Bool
starts_with_digit [] = false
starts_with_digit (byte ∷ text) = is_digit byte

-- A number with one digit more, 48 to 57: at most the largest of 64 bits.
abbrev pub grown : ℕ → ℕ → ℕ
grown value byte = min (value * 10 + (byte - 48)) 18446744073709551615

-- A number with all digits more that a text starts with.
unfoldable pub value_from : ℕ → List ℕ → ℕ
value_from value [] = value
value_from value (byte ∷ text) = when (is_digit byte) (value_from (grown value byte) text) value

-- The number right behind the words, at the first of a line's places that has one.
unfoldable pub number_from : Bool → List ℕ → List ℕ → ℕ → ℕ
number_from fresh [] words otherwise = otherwise
number_from fresh (byte ∷ line) words otherwise =
    when
    (starts_with_digit (behind fresh (byte ∷ line) words))
    (value_from 0 (behind fresh (byte ∷ line) words))
    (number_from (eqb byte 32) line words otherwise)

-- The same from the line's start.
abbrev pub number : List ℕ → List ℕ → ℕ → ℕ
number line words otherwise = number_from true line words otherwise
