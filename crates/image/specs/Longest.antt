-- 01, "Bench figures" and "Refusal numbers", rows 5 to 9: the longest image, as a start takes it.
-- Assumes nothing.
use Rattle.std.specs.Prelude.{ℕ, zero, suc, ◌-◌, ◌%◌, List, [], ◌∷◌}
use Rattle.lent.specs.Bytes.{total}

-- So many bytes that count up from a number, modulo 251.
unfoldable pub counted : ℕ → ℕ → List ℕ
counted from zero = []
counted from (suc n) = from % 251 ∷ counted (suc from) n

-- An image of 32,760 bytes with a first byte: the word at 6 is 16, that at 8 is the length, that at 10 is 32,768.
unfoldable pub starting_with : ℕ → List ℕ
starting_with b = b ∷ 0 ∷ 0 ∷ 0 ∷ 0 ∷ 0 ∷ 16 ∷ 0 ∷ 248 ∷ 127 ∷ 0 ∷ 128 ∷ 0 ∷ 0 ∷ 0 ∷ 0 ∷ counted 16 32744

-- The first byte makes the sum 20 modulo 256.
unfoldable pub longest_image : List ℕ
longest_image = starting_with ((276 - total (starting_with 0) % 256) % 256)
