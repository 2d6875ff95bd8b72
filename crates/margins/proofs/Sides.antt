-- A low stays on its side: margins within their ranges are within them after it.
-- Assumes nothing.
use mathlib.Core.Bool.{Bool, true, false, not}
use mathlib.Core.Logic.{◌↔◌}
use mathlib.Core.Path.{◌≡◌, refl, sym, ap}
use Prim.Native.Nat.{ℕ, ◌-◌}
use native.Mathlib.Omega.{arith}
use lib.IntN.{ℤ, pos}
use lib.Signed.{lt_z}
use borrow.Author.Tests.{le-ltb}
use Rattle.terms.proofs.Tests.{when_elim, either_false}
use Rattle.phases.specs.declared.Phase.{Phase}
use Rattle.line.specs.Reading.{reads, distance_of}
use Rattle.line.proofs.Distances.{distance_elim}
use Rattle.margins.specs.Margins.{reads_bit, with_bit, with_pulse, margins_outside}
use Rattle.margins.specs.declared.Margins.{Margins}

-- Both sides, as a record within its ranges has them.
pub record Sides (m : Margins) : Type 0 where
  pub one : lt_z m.one.0 (pos 0) ≡ true
  pub zero : lt_z m.zero.0 (pos 0) ≡ false

negated : (b : Bool) → not b ≡ false → b ≡ true
negated true e = refl
negated false e = sym e

pub within_sides : (m : Margins) → (margins_outside m ≡ false) ↔ Sides m
unfolding margins_outside
within_sides m = (
  (λ q. let sides = (either_false _ _).0 q in record { one = negated _ sides.0; zero = sides.1 }),
  (λ s. (either_false _ _).1 (ap not s.one, s.zero)),
)

module _ (m : Margins) (s : Sides m) where
  with_bit_sides : (threshold low : ℕ) → Sides (with_bit m (reads threshold low) (distance_of threshold low))
  with_bit_sides threshold low =
      distance_elim threshold low (λ (b : Bool) (z : ℤ). Sides (with_bit m b z))
      (λ h. record { one = when_elim (λ (z : ℤ). lt_z z (pos 0) ≡ true) _ _ _ (λ e. refl) (λ e. s.one); zero = s.zero })
      (λ h. record { one = s.one; zero = when_elim (λ (z : ℤ). lt_z z (pos 0) ≡ false) _ _ _ (λ e. le-ltb (low - threshold) 0 (omega arith)) (λ e. s.zero) })

  pub with_pulse_sides : (phase : Phase) (threshold low : ℕ) → Sides (with_pulse m phase (reads threshold low) (distance_of threshold low))
  unfolding with_pulse
  with_pulse_sides phase threshold low = when_elim Sides (reads_bit phase) _ _ (λ e. with_bit_sides threshold low) (λ e. s)
