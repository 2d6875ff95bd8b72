-- From its first place on a session sends what is spelled: the parts are joined from the last to the first.
-- Assumes nothing.
use mathlib.Core.Bool.{false}
use mathlib.Core.List.{List}
use mathlib.Core.Path.{◌≡◌, refl, ap, ◌∙◌}
use Prim.Native.Nat.{ℕ, zero, suc, ◌+◌, ◌*◌, ◌/◌, ◌≤◌}
use native.Mathlib.Nat.{min-eq_left, not-suc-le-zero}
use native.Mathlib.Omega.{arith}
use lib.Dec.{eqb}
use borrow.Author.Tests.{eqb-false}
use Rattle.load.specs.declared.Load.{Load}
use Rattle.sequence.specs.Sequence.{draw}
use Rattle.units.specs.Units.{most, longs_in}
use Rattle.units.specs.declared.Seen.{Seen}
use Rattle.bits.specs.Bits.{value_bit, image_bit}
use Rattle.follow.specs.Follow.{opened, after_command, after_ram}
use Rattle.place.specs.Phases.{image_pulses}
use Rattle.place.specs.declared.Acknowledgement.TheVariants.{Ram, Programming, Verification}
use Rattle.place.specs.declared.Ending.TheVariants.{Done, WrongVersion, BadRam, BadProgramming, BadVerification}
use Rattle.place.specs.declared.Phase.{Phase}
use Rattle.place.specs.declared.Phase.TheVariants.{Calibration, Handshake, Connection, Version, Command, Zeros, Size, Image, Wait, Ended}
use Rattle.sessions.specs.Spelled.{Part, over, ◌then◌, pair, bits, value, connection, version, wait, done_for, spelled}
use Rattle.sessions.proofs.Follows.{From, Follows, stands_at, over_sent, choice_sent}
use Rattle.sessions.proofs.Onward.{within, onward_last}
use Rattle.sessions.proofs.Parts.{bits_sent, pair_sent, connection_sent, version_sent, wait_sent}

-- A load, and the size of its image where it has one.
pub record Loads (load : Load) (size : ℕ) : Type 0 where
  pub is : load.length.0 ≡ size
  pub long : 1 ≤ size
  pub short : size ≤ 32760

module _ (load : Load) (size : ℕ) (lent : ℕ → List ℕ) (seen : ℕ → Seen) (loads : (load.command ≡ 0 → ⊥) → Loads load size) where
  -- What is spelled from each phase on.
  abbrev verifying : Part
  verifying = wait seen Verification 200 BadVerification then over Done

  abbrev programming : Part
  programming = wait seen Programming 500 BadProgramming then verifying

  abbrev storing : Part
  storing = wait seen Ram 25 BadRam then done_for load.command size lent seen 1 then programming

  abbrev imaging : Part
  imaging = bits Image (λ n i. image_bit (lent n) i) 0 (size * 8) then storing

  abbrev sizing : Part
  sizing = value Size (size / 4) then imaging

  abbrev commanding : Part
  commanding = value Command load.command then done_for load.command size lent seen 0 then sizing

  abbrev zeroing : Part
  zeroing = bits Command (λ n i. false) 0 32 then over WrongVersion

  abbrev versioning : Part
  versioning = version seen 0 8 0 zeroing then commanding

  abbrev connecting : Part
  connecting = connection seen 251 250 then versioning

  abbrev shaking : Part
  shaking = bits Handshake (λ n k. draw k) 1 250 then connecting

  -- It is sent.
  abbrev Sent : Phase → Part → Type 0
  Sent phase part = (n : ℕ) → From load lent seen n (opened phase) part

  verified : Sent (Wait Verification) verifying
  verified n = wait_sent load lent seen Verification (over Done) (λ m. over_sent m Done) 200 0 n refl

  programmed : Sent (Wait Programming) programming
  programmed n = wait_sent load lent seen Programming verifying verified 500 0 n refl

  stored : Sent (Wait Ram) storing
  unfolding after_ram
  stored n =
      wait_sent load lent seen Ram _
      (λ m. choice_sent opened m (eqb load.command 1) (Ended Done) (Wait Programming) _ _ (λ b. over_sent m Done) (λ b. programmed m))
      25 0 n refl

  module _ (some : load.command ≡ 0 → ⊥) where
    image_pulses_lem : size * 8 ≡ image_pulses load
    image_pulses_lem = omega (arith, (loads some).is, (loads some).short)

    at_first : (left : ℕ) → 1 ≤ left → opened Image ≡ within load Image 0 left
    at_first zero h = absurd (not-suc-le-zero h)
    at_first (suc left) h = refl

    imaged : Sent Image imaging
    imaged n =
        let all : 0 + size * 8 ≡ image_pulses load = omega (arith, image_pulses_lem) in
        stands_at (at_first (size * 8) (omega (arith, (loads some).long)))
        (bits_sent load lent seen Image (record { on = refl; onwards = λ i s. refl; quiet = λ i s. refl })
        (λ m i. image_bit (lent m) i) (λ i. i) (λ i. refl) (λ m i. refl) storing stored (size * 8) 0 0 n all refl)

    in_longs : longs_in load.length.0 ≡ size / 4
    in_longs =
        let few : load.length.0 / 4 ≤ most = omega (arith, (loads some).is, (loads some).short) in
        min-eq_left few ∙ ap (λ (x : ℕ). x / 4) (loads some).is

    sized : Sent Size sizing
    sized n =
        bits_sent load lent seen Size (record { on = refl; onwards = λ i s. refl; quiet = λ i s. refl })
        (λ m i. value_bit (size / 4) i) (λ i. i) (λ i. refl) (λ m i. ap (λ (v : ℕ). value_bit v i) in_longs) imaging imaged 32 0 0 n refl refl

  commanded : Sent Command commanding
  unfolding after_command
  commanded n =
      bits_sent load lent seen Command (record { on = refl; onwards = λ i s. refl; quiet = λ i s. refl })
      (λ m i. value_bit load.command i) (λ i. i) (λ i. refl) (λ m i. refl) _
      (λ m.
      choice_sent opened m (eqb load.command 0) (Ended Done) Size _ _ (λ b. over_sent m Done)
      (λ b. sized (eqb-false load.command 0 b) m))
      32 0 0 n refl refl

  zeroed : Sent Zeros zeroing
  unfolding bits
  zeroed n =
      bits_sent load lent seen Zeros (record { on = refl; onwards = λ i s. refl; quiet = λ i s. refl })
      (λ m i. false) (λ i. i) (λ i. refl) (λ m i. refl) (over WrongVersion) (λ m. over_sent m WrongVersion) 32 0 0 n refl refl

  versioned : Sent (Version 0) versioning
  versioned n = version_sent load lent seen zeroing commanding zeroed commanded 8 0 0 0 n refl refl

  connected : Sent Connection connecting
  connected n = connection_sent load lent seen versioning versioned 250 0 251 n refl refl

  shaken : Sent Handshake shaking
  shaken n =
      bits_sent load lent seen Handshake (record { on = refl; onwards = λ i s. refl; quiet = λ i s. refl })
      (λ m k. draw k) (λ i. i + 1) (λ i. refl) (λ m i. refl) connecting connected 250 0 1 n refl refl

  calibrated : Sent Calibration (pair Calibration then shaking)
  calibrated n =
      pair_sent load lent seen Calibration (record { on = refl; bits = λ image i. refl; quiet = λ i s e. refl })
      n 0 false shaking (omega arith) refl
      (stands_at (onward_last load Calibration 1 refl) (shaken (n + 1 + 1)))

  pub spelled_sent : Follows load lent seen 0 (opened Calibration) (spelled load.command size lent seen).pulses
      (spelled load.command size lent seen).ending
  unfolding spelled
  spelled_sent = (calibrated 0).follows
