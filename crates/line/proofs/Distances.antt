-- The distance of a low and its bit are decided together: negative means 1, and zero means 0.
-- Assumes nothing.
use mathlib.Core.Bool.{Bool, true, false}
use mathlib.Core.Path.{◌≡◌, refl}
use Prim.Native.Nat.{ℕ, suc, ◌-◌, ◌≤◌, ◌<◌}
use native.Mathlib.Omega.{arith}
use lib.IntN.{ℤ, pos, negsuc}
use lib.Signed.{lt_z}
use borrow.Author.Tests.{le-ltb}
use Rattle.units.proofs.Differences.{difference_elim}
use Rattle.line.specs.Reading.{reads, distance_of}

module _ (threshold low : ℕ) where
  -- What holds on either side of the threshold holds of what was read.
  pub distance_elim : (P : Bool → ℤ → Type 0) → (low < threshold → P true (negsuc (threshold - suc low)))
      → (threshold ≤ low → P false (pos (low - threshold))) → P (reads threshold low) (distance_of threshold low)
  distance_elim = difference_elim low threshold

  pub distance_negative : lt_z (distance_of threshold low) (pos 0) ≡ reads threshold low
  distance_negative = distance_elim (λ (b : Bool) (z : ℤ). lt_z z (pos 0) ≡ b) (λ h. refl) (λ h. le-ltb (low - threshold) 0 (omega arith))
