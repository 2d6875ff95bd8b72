-- How long a pulse and its spacer can be, and how late a record in its ranges.
-- Assumes nothing.
use mathlib.Core.Bool.{Bool, true, false}
use mathlib.Core.Path.{◌≡◌}
use Prim.Native.Nat.{ℕ, ◌*◌, ◌/◌, ◌≤◌, ◌<◌}
use native.Mathlib.Nat.{le-div_iff_mul-le, div-mul-le_self}
use native.Mathlib.Omega.{arith}
use borrow.Author.Tests.{ltb-false}
use Rattle.terms.specs.Choice.{when}
use Rattle.settings.specs.declared.Settings.{Settings}
use Rattle.settings.proofs.Exactly.{Fit}
use Rattle.host.specs.Step.{late}
use Rattle.host.specs.Time.{low, spacer}

module _ (s : Settings) (fit : Fit s.t s.h s.p) where
  pub low_most : (b : Bool) → low s b ≤ 52000000
  unfolding low when
  low_most true = omega (arith, fit.t_within.1)
  low_most false = omega (arith, fit.t_within.1)

  pub spacer_most : (b : Bool) → spacer s b ≤ 90000000000
  unfolding spacer when
  spacer_most true = omega (arith, fit.h_within.1)
  spacer_most false = omega (arith, fit.h_within.1)

pub not_late : (pulses time : ℕ) → late pulses time ≡ false → time ≤ pulses * 90052000000
unfolding late
not_late pulses time e = ltb-false (pulses * 90052000000) time e

-- A later time has no earlier tick.
pub tick_on : (x y p : ℕ) → 0 < p → x ≤ y → x / p ≤ y / p
tick_on x y p some h = (le-div_iff_mul-le {k = p} some).1 (omega (arith, div-mul-le_self x p, h))
