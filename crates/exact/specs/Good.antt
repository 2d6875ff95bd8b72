-- The planned session: what a good chip that is never busy lets the host see, by the number of the call that is told.
-- Assumes nothing.
use Rattle.std.specs.Prelude.{true, ◌≡◌, ℕ, ◌+◌, ◌*◌, ◌<◌}
use Rattle.sequence.specs.Sequence.{draw}
use Rattle.units.specs.declared.Seen.{Seen}
use Rattle.units.specs.declared.Seen.TheVariants.{Silence, Zero, One}
use Rattle.follow.specs.Follow.{shows}

-- A wait of two pairs that begins with call n: the first is silent, the second is answered with 0.
pub record Answered (seen : ℕ → Seen) (n : ℕ) : Type 0 where
  pub aligns : seen (n + 1) ≡ Silence
  pub answers : seen (n + 3) ≡ Zero

-- The connection's draws, version 1, and the waits that the command has, with an image of so many bytes.
pub record Good (command size : ℕ) (seen : ℕ → Seen) : Type 0 where
  pub connects : (j : ℕ) → j < 250 → shows (seen (253 + j * 2)) (draw (251 + j)) ≡ true
  pub version_first : seen 753 ≡ One
  pub version_rest : (j : ℕ) → j < 7 → seen (755 + j * 2) ≡ Zero
  pub ram : (command ≡ 0 → ⊥) → Answered seen (832 + size * 8)
  pub programming : (command ≡ 0 → ⊥) → (command ≡ 1 → ⊥) → Answered seen (836 + size * 8)
  pub verification : (command ≡ 0 → ⊥) → (command ≡ 1 → ⊥) → Answered seen (840 + size * 8)
