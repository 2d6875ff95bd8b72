-- 01, rows 5 to 9 of "Refusal numbers": what is wrong with an image.
-- Assumes nothing.
use Rattle.std.specs.Prelude.{Bool, not, List, ℕ, ◌+◌, ◌%◌, ltb, eqb, length}
use Rattle.terms.specs.Choice.{either}
use Rattle.lent.specs.Bytes.{word_at, total}

-- 5: its length is under 16, over 32,760, or no multiple of 4.
unfoldable pub bad_length : ℕ → Bool
bad_length n = either (ltb n 16) (either (ltb 32760 n) (not (eqb (n % 4) 0)))

-- 6: the word at byte 8 differs from the length.
unfoldable pub other_length : List ℕ → Bool
other_length image = not (eqb (word_at image 8) (length image))

-- 7: the word at byte 6 is not 16.
unfoldable pub other_start : List ℕ → Bool
other_start image = not (eqb (word_at image 6) 16)

-- 8: the word at byte 10 is no multiple of 4, is below length + 8, or above 32,768.
unfoldable pub bad_stack : List ℕ → Bool
bad_stack image =
    either (not (eqb (word_at image 10 % 4) 0))
    (either (ltb (word_at image 10) (length image + 8))
    (ltb 32768 (word_at image 10)))

-- 9: its bytes do not sum to 20 modulo 256.
unfoldable pub other_sum : List ℕ → Bool
other_sum image = not (eqb (total image % 256) 20)
