-- 01, "Refusal numbers" and "What the chip does": words, and the sum of bytes.
-- Assumes nothing.
use Rattle.std.specs.Prelude.{ℕ, ◌+◌, ◌*◌, List, [], ◌∷◌, slice_index}

-- Words are 16 bits, low byte first. A byte past the end reads as 0.
unfoldable pub word_at : List ℕ → ℕ → ℕ
word_at bytes at = slice_index bytes at + slice_index bytes (at + 1) * 256

-- The sum of all bytes.
unfoldable pub total : List ℕ → ℕ
total [] = 0
total (b ∷ bytes) = b + total bytes
