-- No record got from a start by steps that weren't refused is refused 13, and one that has ended is refused 14.
-- Assumes nothing.
use Rattle.std.specs.Prelude.{Option}
use mathlib.Core.Bool.{true, true≢false}
use mathlib.Core.List.{List}
use mathlib.Core.Logic.{inl, inr}
use mathlib.Core.Path.{◌≡◌, sym, ◌∙◌}
use Prim.Native.Nat.{ℕ}
use native.Mathlib.Omega.{arith}
use Rattle.terms.specs.Refusals.{refused, Given}
use Rattle.terms.proofs.Refusals.{refused_exactly}
use Rattle.terms.proofs.Tests.{when_true, when_false}
use Rattle.place.specs.Phases.{ended}
use Rattle.serial.specs.Reached.{Reached, started, stepped}
use Rattle.serial.specs.Step.{serial_rows, turn_of, serial_step}
use Rattle.serial.specs.declared.Serial.{Serial}
use Rattle.serial.proofs.Kept.{Within, not_outside, start_keeps, step_keeps}

pub reached_within : (s : Serial) → Reached s → Within s.load s.place
reached_within s (started packing command image _ e) = start_keeps packing command image s e
reached_within _ (stepped s image back t r e) = step_keeps s image back t e

module _ (s : Serial) (r : Reached s) (image : List ℕ) (back : Option ℕ) where
  no_13 : Given 13 (serial_rows s image back) → ⊥
  no_13 g = elim g [
    | inl p ↦ true≢false (sym p.1 ∙ not_outside s.load s.place (reached_within s r))
    | inr p ↦ elim p.1 [
      | inl q ↦ omega (arith, q.0)
      | inr q ↦ elim q.1 [
        | inl u ↦ omega (arith, u.0)
        | inr u ↦ elim u.1 [ inl v ↦ omega (arith, v.0) | inr v ↦ v.1 ]
      ]
    ]
  ]

  pub never_13 : serial_step s image back ≡ refused 13 → ⊥
  unfolding serial_step
  never_13 e = no_13 ((refused_exactly (turn_of s image back) 13 (serial_rows s image back)).0 e)

  pub ended_14 : ended s.place.phase ≡ true → serial_step s image back ≡ refused 14
  unfolding serial_step
  ended_14 e = when_false _ _ (not_outside s.load s.place (reached_within s r)) ∙ when_true _ _ e
