-- 02, "Three": "shortest form only". The form that is written is a number's shortest, and the only one that is read.
-- Assumes nothing.
use Rattle.std.specs.Prelude.{true, List, [], ◌∷◌, ◌++◌, ◌≡◌, ℕ, ◌+◌, ◌*◌, ◌%◌, ◌≤◌, ◌<◌, length}
use Rattle.std.proofs.Math.Pow.{are_bytes}
use Rattle.numbers.specs.Numbers.{groups, bound, found, number_in, written}

-- What groups are worth, the lowest first, in whatever form.
abbrev pub worth : List ℕ → ℕ
worth [] = 0
worth (b ∷ bytes) = b % 128 + worth bytes * 128

pub record EveryNumber : Type 0 where
  -- What is written reads as what it was, and the bytes after it stay.
  pub written_reads : (v : ℕ) (rest : List ℕ) → v < bound → number_in groups bound (written groups v ++ rest) ≡ found v rest
  -- What reads well is as it is written.
  pub reads_written : (bytes : List ℕ) → are_bytes bytes ≡ true → (v : ℕ) (rest : List ℕ)
      → number_in groups bound bytes ≡ found v rest → (v < bound) × (bytes ≡ written groups v ++ rest)
  -- What is written is worth the number, and no groups of that worth are fewer.
  pub written_worth : (v : ℕ) → v < bound → worth (written groups v) ≡ v
  pub shortest : (bytes : List ℕ) → 0 < length bytes → length (written groups (worth bytes)) ≤ length bytes
