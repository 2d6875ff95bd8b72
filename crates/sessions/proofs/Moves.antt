-- From a pulse on the session stays in its phase, past its first place, or opens the next of the ten.
-- Assumes nothing.
use mathlib.Core.Bool.{true, false, true≢false}
use mathlib.Core.Path.{◌≡◌, refl}
use Prim.Native.Nat.{ℕ, suc, ◌+◌, ◌/◌}
use native.Mathlib.Omega.{arith}
use lib.Dec.{ltb, eqb}
use Rattle.terms.proofs.Tests.{when_elim}
use Rattle.load.specs.declared.Load.{Load}
use Rattle.sequence.specs.Sequence.{draw}
use Rattle.units.specs.declared.Seen.{Seen}
use Rattle.units.specs.declared.Seen.TheVariants.{Silence, Zero, One}
use Rattle.bits.specs.Bits.{pair_bit}
use Rattle.follow.specs.Follow.{opened, after, after_version, after_command, onward, shows, after_connection, after_version_pair, after_ram, after_good}
use Rattle.follow.specs.Follow.{after_wait_pair, after_pair, next}
use Rattle.place.specs.Phases.{places, ended}
use Rattle.place.specs.declared.Acknowledgement.{Acknowledgement}
use Rattle.place.specs.declared.Acknowledgement.TheVariants.{Ram, Programming, Verification}
use Rattle.place.specs.declared.Ending.TheVariants.{Done, Lost}
use Rattle.place.specs.declared.Phase.{Phase}
use Rattle.place.specs.declared.Phase.TheVariants.{Calibration, Handshake, Connection, Version, Command, Zeros, Size, Image, Wait, Ended}
use Rattle.place.specs.declared.Place.{Place}
use Rattle.ticks.specs.Ticks.{phase_number}

pub data Moves (own : ℕ) (at : Place) : Type 0 where
  stops : ended at.phase ≡ true → Moves own at
  opens : at.index ≡ 0 → phase_number at.phase ≡ suc own → Moves own at
  stays : (at.index ≡ 0 → ⊥) → phase_number at.phase ≡ own → Moves own at

module _ (load : Load) where
  after_moves : (phase : Phase) → ended phase ≡ false → Moves (phase_number phase) (opened (after load phase))
  unfolding after_version after_command
  after_moves Calibration e = opens refl refl
  after_moves Handshake e = opens refl refl
  after_moves Connection e = opens refl refl
  after_moves (Version v) e =
      when_elim (λ (p : Phase). Moves 3 (opened p)) (eqb v 1) Command Zeros (λ b. opens refl refl) (λ b. opens refl refl)
  after_moves Command e =
      when_elim (λ (p : Phase). Moves 4 (opened p)) (eqb load.command 0) (Ended Done) Size (λ b. stops refl) (λ b. opens refl refl)
  after_moves Zeros e = stops refl
  after_moves Size e = opens refl refl
  after_moves Image e = opens refl refl
  after_moves (Wait a) e = stops refl
  after_moves (Ended x) e = absurd (true≢false e)

  onward_moves : (phase : Phase) (i : ℕ) → ended phase ≡ false → Moves (phase_number phase) (onward load phase i)
  unfolding onward
  onward_moves phase i e =
      when_elim (Moves (phase_number phase)) (ltb (i + 1) (places load phase)) (record { phase = phase; index = i + 1 }) (opened (after load phase))
      (λ b. stays (λ z. omega (arith, z)) refl) (λ b. after_moves phase e)

  good_moves : (a : Acknowledgement) → Moves (phase_number (Wait a)) (opened (after_good load.command a))
  unfolding after_ram
  good_moves Ram =
      when_elim (λ (p : Phase). Moves 7 (opened p)) (eqb load.command 1) (Ended Done) (Wait Programming)
      (λ b. stops refl) (λ b. opens refl refl)
  good_moves Programming = opens refl refl
  good_moves Verification = stops refl

  version_moves : (v i : ℕ) (s : Seen) → Moves 3 (after_version_pair load v i s)
  version_moves v i Silence = stops refl
  version_moves v i Zero = onward_moves (Version (v / 2)) i refl
  version_moves v i One = onward_moves (Version (v / 2 + 128)) i refl

  wait_moves : (a : Acknowledgement) (i : ℕ) (s : Seen) → Moves (phase_number (Wait a)) (after_wait_pair load a i s)
  wait_moves a i Silence = onward_moves (Wait a) i refl
  wait_moves a i Zero = good_moves a
  wait_moves a i One = stops refl

  pair_moves : (phase : Phase) (i : ℕ) (s : Seen) → ended phase ≡ false → Moves (phase_number phase) (after_pair load phase i s)
  unfolding after_connection
  pair_moves Calibration i s e = onward_moves Calibration i e
  pair_moves Handshake i s e = onward_moves Handshake i e
  pair_moves Connection i s e =
      when_elim (Moves 2) (shows s (draw (251 + i / 2))) (onward load Connection i) (opened (Ended Lost))
      (λ b. onward_moves Connection i refl) (λ b. stops refl)
  pair_moves (Version v) i s e = version_moves v i s
  pair_moves Command i s e = onward_moves Command i e
  pair_moves Zeros i s e = onward_moves Zeros i e
  pair_moves Size i s e = onward_moves Size i e
  pair_moves Image i s e = onward_moves Image i e
  pair_moves (Wait a) i s e = wait_moves a i s
  pair_moves (Ended x) i s e = absurd (true≢false e)

  pub next_moves : (phase : Phase) (i : ℕ) (s : Seen) → ended phase ≡ false → Moves (phase_number phase) (next load phase i s)
  unfolding next
  next_moves phase i s e =
      when_elim (Moves (phase_number phase)) (pair_bit i) (onward load phase i) (after_pair load phase i s)
      (λ b. onward_moves phase i e) (λ b. pair_moves phase i s e)
