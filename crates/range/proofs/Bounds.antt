-- How long a phase can be, with all before it.
-- Assumes nothing.
use mathlib.Core.Bool.{false, true≢false}
use mathlib.Core.Path.{◌≡◌}
use Prim.Native.Nat.{ℕ, ◌+◌, ◌-◌, ◌*◌, ◌<◌, ◌≤◌}
use native.Mathlib.Omega.{arith}
use Rattle.load.specs.declared.Load.{Load}
use Rattle.place.specs.Phases.{image_pulses, pairs, places, ended}
use Rattle.range.specs.Ranges.{before, waited_before}
use Rattle.place.specs.declared.Acknowledgement.{Acknowledgement}
use Rattle.place.specs.declared.Acknowledgement.TheVariants.{Ram, Programming, Verification}
use Rattle.place.specs.declared.Phase.{Phase}
use Rattle.place.specs.declared.Phase.TheVariants.{Calibration, Handshake, Connection, Version, Command, Zeros, Size, Image, Wait, Ended}

-- A wait with the waits before it.
pub waits_most : (a : Acknowledgement) → waited_before a + pairs a * 2 ≤ 1450
waits_most Ram = omega arith
waits_most Programming = omega arith
waits_most Verification = omega arith

module _ (load : Load) where
  -- A phase that has not ended, with all before it.
  pub phase_most : (phase : Phase) → ended phase ≡ false → before load phase + places load phase ≤ image_pulses load + 2282
  phase_most Calibration h = omega arith
  phase_most Handshake h = omega arith
  phase_most Connection h = omega arith
  phase_most (Version v) h = omega arith
  phase_most Command h = omega arith
  phase_most Zeros h = omega arith
  phase_most Size h = omega arith
  phase_most Image h = omega arith
  phase_most (Wait a) h = omega (arith, waits_most a)
  phase_most (Ended e) h = absurd (true≢false h)

  -- The last place of a phase, with all before it: no session has more pulses than the longest.
  last_most : (phase : Phase) → before load phase + (places load phase - 1) ≤ 264362
  last_most Calibration = omega arith
  last_most Handshake = omega arith
  last_most Connection = omega arith
  last_most (Version v) = omega arith
  last_most Command = omega arith
  last_most Zeros = omega arith
  last_most Size = omega arith
  last_most Image = omega arith
  last_most (Wait a) = omega (arith, waits_most a)
  last_most (Ended e) = omega arith

  pub place_most : (phase : Phase) (i : ℕ) → i < places load phase → before load phase + i ≤ 264362
  place_most phase i h = omega (arith, last_most phase, h)
